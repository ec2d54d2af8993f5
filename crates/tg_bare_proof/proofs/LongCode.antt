-- In long code, and in lines that are turned round here, each branch leads over a jump alone; so with
-- slots too they have an image.
use Rattle.std.proofs.Common.{ℕ, ◌≡◌, ◌<◌, ◌≤◌, ◌+◌, List, [], ◌∷◌, ◌++◌, refl, sym, ◌∙◌, Bool, true, false}
use Rattle.std.specs.Prelude.{if◌then◌else◌, nat_lt, nat_le}
use Rattle.std.specs.Fmt.{decimal}
use Rattle.tg_machine_state.specs.State.{most_words}
use Rattle.tg_isa.specs.declared.mips.Mips.{Mips}
use Rattle.tg_isa.specs.declared.mips.Mips.TheVariants as row
use Rattle.tg_tree.specs.declared.fragments.Literal.{Literal}
use Rattle.tg_instr.specs.declared.instr.Instr.{Instr}
use Rattle.tg_instr.specs.declared.instr.Instr.TheVariants.{FrameLoad, FrameStore, FrameAddress, Address, Mark, Jump}
use Rattle.tg_instr.specs.declared.instr.Instr.TheVariants.{Branch, Call, Fault, Return}
use Rattle.tg_instr.specs.declared.codes.Allocated.{Allocated}
use Rattle.tg_emit.specs.declared.assembly.Line.{Line}
use Rattle.tg_emit.specs.declared.assembly.Line.TheVariants.{Label, One, La, Statics}
use Rattle.tg_emit.specs.mirror.Rows.{register_of}
use Rattle.tg_emit.specs.mirror.Lines.{alone, words, size_of, in_at, above_stack, lowered, entry, load_at, store_at, slot_offset}
use Rattle.tg_emit.specs.mirror.Lines.{instruction_lines, code_lines, function_lines, functions_lines}
use Rattle.tg_emit_proof.specs.laws.Laws.{HasImage}
use Rattle.tg_delay.specs.Filling.{opposite, branches, branches_in, around_name, filled, turned_round}
use Rattle.tg_bare_proof.specs.laws.Laws.{LongCodeHasImage}
use Rattle.tg_bare_proof.proofs.Images.{IsBehindJump, AreTurned, turned_has_image}

no_true : false ≡ true → ⊥
no_true h = cc

never : {A : Type 0} → false ≡ true → A
never h = absurd (no_true h)

jump_append : (around : List ℕ) (xs ys : List Line) → IsBehindJump around xs → IsBehindJump around (xs ++ ys)
jump_append around (One (row.J n) target ∷ Label name ∷ xs) ys h = h
jump_append around xs ys h = absurd h

turned_append : (xs ys : List Line) → AreTurned xs → AreTurned ys → AreTurned (xs ++ ys)
turned_append [] ys h k = k
turned_append (One one around ∷ xs) ys h k = (λ b. jump_append around xs ys (h.0 b), turned_append xs ys h.1 k)
turned_append (Label name ∷ xs) ys h k = turned_append xs ys h k
turned_append (La r name ∷ xs) ys h k = turned_append xs ys h k
turned_append (Statics bytes ∷ xs) ys h k = turned_append xs ys h k

either : (b : Bool) (xs ys : List Line) → AreTurned xs → AreTurned ys → AreTurned (if b then xs else ys)
either true xs ys h k = h
either false xs ys h k = k

above_turned : (r n : ℕ) → AreTurned (above_stack r n)
above_turned r n = either (nat_lt n 32768) (alone (row.Addiu r 29 n) ∷ []) (in_at n ++ alone (row.Addu r 29 1) ∷ [])
    (never, tt) (never, (never, (never, tt)))

lowered_turned : (n : ℕ) → AreTurned (lowered n)
lowered_turned n = either (nat_le n 32768) (alone (row.Addiu 29 29 _) ∷ []) (in_at n ++ alone (row.Subu 29 29 1) ∷ [])
    (never, tt) (never, (never, (never, tt)))

load_turned : (r n : ℕ) → AreTurned (load_at r n)
load_turned r n = either (nat_lt n 32768) (alone (row.Lw r n 29) ∷ [])
    (alone (row.Lui 1 _) ∷ alone (row.Addu 1 1 29) ∷ alone (row.Lw r _ 1) ∷ []) (never, tt) (never, (never, (never, tt)))

store_turned : (r n : ℕ) → AreTurned (store_at r n)
store_turned r n = either (nat_lt n 32768) (alone (row.Sw r n 29) ∷ [])
    (alone (row.Lui 1 _) ∷ alone (row.Addu 1 1 29) ∷ alone (row.Sw r _ 1) ∷ []) (never, tt) (never, (never, (never, tt)))

instruction_turned : (label size place : ℕ) (one : Instr) → AreTurned (instruction_lines true label size place one)
instruction_turned label size place (FrameLoad to k) = load_turned (register_of to) (slot_offset size k)
instruction_turned label size place (FrameStore from k) = store_turned (register_of from) (slot_offset size k)
instruction_turned label size place (FrameAddress to) = above_turned (register_of to) size
instruction_turned label size place (Address to literal) = tt
instruction_turned label size place (Mark m) = tt
instruction_turned label size place (Jump m) = (never, tt)
instruction_turned label size place (Branch test m) = (λ b. refl, (never, tt))
instruction_turned label size place (Call callee) = (never, tt)
instruction_turned label size place (Fault n) = (never, tt)
instruction_turned label size place Return =
    turned_append (above_stack 29 size) (alone (row.Jr 31) ∷ []) (above_turned 29 size) (never, tt)
instruction_turned label size place one = (never, tt)

code_turned : (label size place : ℕ) (list : List Instr) → AreTurned (code_lines true label size place list)
code_turned label size place [] = tt
code_turned label size place (one ∷ rest) =
    turned_append (instruction_lines true label size place one) (code_lines true label size (place + 1) rest)
    (instruction_turned label size place one) (code_turned label size (place + 1) rest)

function_turned : (f : Allocated) → AreTurned (function_lines true f)
function_turned f =
    turned_append (entry f.frame.label.0 (size_of f.frame)) (code_lines true f.frame.label.0 (size_of f.frame) 0 f.code.list)
    (turned_append (lowered (size_of f.frame)) (alone (row.Lw 0 0 29) ∷ []) (lowered_turned (size_of f.frame)) (never, tt))
    (code_turned f.frame.label.0 (size_of f.frame) 0 f.code.list)

pub functions_turned : (fs : List Allocated) → AreTurned (functions_lines true fs)
functions_turned [] = tt
functions_turned (f ∷ fs) =
    turned_append (function_lines true f) (functions_lines true fs) (function_turned f) (functions_turned fs)

pub long_code_has_image : LongCodeHasImage
long_code_has_image fs ls has few = turned_has_image (functions_lines true fs) ls has (functions_turned fs) few

-- and what is turned round here
pub turned_are_turned : (lines : List Line) → AreTurned (turned_round lines)
turned_are_turned [] = tt
turned_are_turned (Label name ∷ rest) = turned_are_turned rest
turned_are_turned (La r name ∷ rest) = turned_are_turned rest
turned_are_turned (Statics bytes ∷ rest) = turned_are_turned rest
turned_are_turned (One one target ∷ rest) = by (branches one) refl (turned_are_turned rest)
  where
    by : (b : Bool) → branches one ≡ b → AreTurned (turned_round rest) →
        AreTurned (if b then One (opposite one) (around_name (branches_in rest)) ∷ One (row.J 0) target
        ∷ Label (around_name (branches_in rest)) ∷ turned_round rest else One one target ∷ turned_round rest)
    by true e h = (λ b. refl, (never, h))
    by false e h = (λ b. absurd (no_true (sym e ∙ b)), h)
