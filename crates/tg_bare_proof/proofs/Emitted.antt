-- What is emitted has no label of a branch that is turned round, and no `jalr`; and an assembly is
-- delayed in its code alone.
use Rattle.std.proofs.Common.{ℕ, ◌≡◌, ◌≢◌, ◌+◌, ◌==◌, List, [], ◌∷◌, ◌++◌, refl, sym, ap, ◌∙◌, subst, arith, Bool, true, false}
use Rattle.std.proofs.Common.{Option, Some, None, append_assoc}
use Rattle.std.specs.Prelude.{codes, if◌then◌else◌, nat_lt, nat_le, ◌||◌}
use Rattle.std.specs.List.{AllByRecursion}
use Rattle.std.specs.Fmt.{decimal}
use Rattle.tg_isa.specs.declared.mips.Mips.{Mips}
use Rattle.tg_isa.specs.declared.mips.Mips.TheVariants as row
use Rattle.tg_tree.specs.declared.fragments.Literal.{Literal}
use Rattle.tg_tree.specs.declared.operators.Rel.{Rel}
use Rattle.tg_tree.specs.declared.operators.Rel.TheVariants.{Equal}
use Rattle.tg_tree.specs.Operators.{opposite}
use Rattle.tg_instr.specs.declared.instr.Instr.{Instr}
use Rattle.tg_instr.specs.declared.instr.Instr.TheVariants.{FrameLoad, FrameStore, FrameAddress, Address, Mark, Jump}
use Rattle.tg_instr.specs.declared.instr.Instr.TheVariants.{Branch, Call, Fault, Return}
use Rattle.tg_instr.specs.declared.codes.Allocated.{Allocated}
use Rattle.tg_emit.specs.declared.assembly.Line.{Line}
use Rattle.tg_emit.specs.declared.assembly.Line.TheVariants.{Label, One, La, Statics}
use Rattle.tg_emit.specs.mirror.Names.{function_name, mark_name, behind_name, literal_name}
use Rattle.tg_emit.specs.mirror.Rows.{register_of, branch_on}
use Rattle.tg_emit.specs.mirror.Lines.{alone, size_of, in_at, above_stack, lowered, entry, load_at, store_at, slot_offset, branch_lines}
use Rattle.tg_emit.specs.mirror.Lines.{instruction_lines, code_lines, function_lines, functions_lines, literal_lines, literals_lines}
use Rattle.tg_emit.specs.mirror.Lines.{words, is_long, assembly_of}
use Rattle.tg_emit_laws.proofs.Apart.{each_append}
use Rattle.tg_emit_laws.proofs.NameTexts.{first_byte}
use Rattle.tg_emit_laws.proofs.CodeLines.{words_append}
use Rattle.tg_delay.specs.Filling.{controls, movable, nop, slotted, filled, branches, branches_in, around_name, turned, turned_round, near, delayed}
use Rattle.tg_delay.specs.Filling as filling
use Rattle.tg_delay_proof.specs.laws.Laws.{GivesNone}
use Rattle.tg_bare_proof.specs.laws.Laws.{HasNoJalr}

abbrev IsOld : List ℕ → Type 0
IsOld name = (k : ℕ) → name ≢ around_name k

-- a line of what is emitted
abbrev IsPlain : Line → Type 0
IsPlain (Label name) = IsOld name
IsPlain (One (row.Jalr rd rs) target) = ⊥
IsPlain line = Unit {0}

abbrev ArePlain : List Line → Type 0
ArePlain lines = AllByRecursion IsPlain lines

gives_none : (lines : List Line) → ArePlain lines → GivesNone lines
gives_none [] h = tt
gives_none (Label name ∷ rest) h = (h.0, gives_none rest h.1)
gives_none (One one target ∷ rest) h = gives_none rest h.1
gives_none (La r name ∷ rest) h = gives_none rest h.1
gives_none (Statics bytes ∷ rest) h = gives_none rest h.1

no_jalr : (lines : List Line) → ArePlain lines → HasNoJalr lines
no_jalr [] h = tt
no_jalr (Label name ∷ rest) h = no_jalr rest h.1
no_jalr (One (row.Jalr rd rs) target ∷ rest) h = absurd h.0
no_jalr (One one target ∷ rest) h = no_jalr rest h.1
no_jalr (La r name ∷ rest) h = no_jalr rest h.1
no_jalr (Statics bytes ∷ rest) h = no_jalr rest h.1

-- the names begin with another letter
other_first : (name : List ℕ) (c : ℕ) → first_byte name ≡ c → c ≢ 98 → IsOld name
other_first name c e n k f = n (sym e ∙ ap first_byte f)

function_old : (label : ℕ) (tail : List ℕ) → IsOld (function_name label ++ tail)
function_old label tail = by (label == 32)
  where
    by : (b : Bool) → IsOld ((if b then codes "main" else codes "f" ++ decimal label) ++ tail)
    by true = other_first _ 109 refl (λ e. omega (arith, e))
    by false = other_first _ 102 refl (λ e. omega (arith, e))

function_name_old : (label : ℕ) → IsOld (function_name label)
function_name_old label = by (label == 32)
  where
    by : (b : Bool) → IsOld (if b then codes "main" else codes "f" ++ decimal label)
    by true = other_first _ 109 refl (λ e. omega (arith, e))
    by false = other_first _ 102 refl (λ e. omega (arith, e))

-- lists by a test
either : (b : Bool) (xs ys : List Line) → ArePlain xs → ArePlain ys → ArePlain (if b then xs else ys)
either true xs ys h k = h
either false xs ys h k = k

above_plain : (r n : ℕ) → ArePlain (above_stack r n)
above_plain r n = either (nat_lt n 32768) (alone (row.Addiu r 29 n) ∷ []) (in_at n ++ alone (row.Addu r 29 1) ∷ []) (tt, tt) (tt, (tt, (tt, tt)))

lowered_plain : (n : ℕ) → ArePlain (lowered n)
lowered_plain n = either (nat_le n 32768) _ (in_at n ++ alone (row.Subu 29 29 1) ∷ []) (tt, tt) (tt, (tt, (tt, tt)))

load_plain : (r n : ℕ) → ArePlain (load_at r n)
load_plain r n = either (nat_lt n 32768) _ _ (tt, tt) (tt, (tt, (tt, tt)))

store_plain : (r n : ℕ) → ArePlain (store_at r n)
store_plain r n = either (nat_lt n 32768) _ _ (tt, tt) (tt, (tt, (tt, tt)))

branch_plain : (rel : Rel) (left right : ℕ) (target : List ℕ) → IsPlain (One (branch_on rel left right) target)
branch_plain Equal left right target = tt
branch_plain rel left right target = tt

branches_plain : (turned : Bool) (rel : Rel) (left right : ℕ) (there around : List ℕ) → IsOld around →
    ArePlain (branch_lines turned (branch_on rel left right) (branch_on (opposite rel) left right) there around)
branches_plain false rel left right there around h = (branch_plain rel left right there, tt)
branches_plain true rel left right there around h = (branch_plain (opposite rel) left right around, (tt, (h, tt)))

instruction_plain : (turned : Bool) (label size place : ℕ) (one : Instr) → ArePlain (instruction_lines turned label size place one)
instruction_plain turned label size place (FrameLoad to k) = load_plain (register_of to) (slot_offset size k)
instruction_plain turned label size place (FrameStore from k) = store_plain (register_of from) (slot_offset size k)
instruction_plain turned label size place (FrameAddress to) = above_plain (register_of to) size
instruction_plain turned label size place (Address to literal) = (tt, tt)
instruction_plain turned label size place (Mark m) = (function_old label (46 ∷ decimal m), tt)
instruction_plain turned label size place (Jump m) = (tt, tt)
instruction_plain turned label size place (Branch test m) =
    branches_plain turned test.rel (register_of test.left) (register_of test.right) (mark_name label m) (behind_name label place)
    (function_old label (95 ∷ decimal place))
instruction_plain turned label size place (Call callee) = (tt, tt)
instruction_plain turned label size place (Fault n) = (tt, tt)
instruction_plain turned label size place Return = each_append IsPlain (above_stack 29 size) (alone (row.Jr 31) ∷ []) (above_plain 29 size) (tt, tt)
instruction_plain turned label size place one = (tt, tt)

code_plain : (turned : Bool) (label size place : ℕ) (list : List Instr) → ArePlain (code_lines turned label size place list)
code_plain turned label size place [] = tt
code_plain turned label size place (one ∷ rest) =
    each_append IsPlain (instruction_lines turned label size place one) (code_lines turned label size (place + 1) rest)
    (instruction_plain turned label size place one) (code_plain turned label size (place + 1) rest)

function_plain : (turned : Bool) (f : Allocated) → ArePlain (function_lines turned f)
function_plain turned f =
    each_append IsPlain (entry f.frame.label.0 (size_of f.frame)) (code_lines turned f.frame.label.0 (size_of f.frame) 0 f.code.list) (
      function_name_old f.frame.label.0,
      each_append IsPlain (lowered (size_of f.frame)) (alone (row.Lw 0 0 29) ∷ [])
          (lowered_plain (size_of f.frame)) (tt, tt),
    )
    (code_plain turned f.frame.label.0 (size_of f.frame) 0 f.code.list)

functions_plain : (turned : Bool) (fs : List Allocated) → ArePlain (functions_lines turned fs)
functions_plain turned [] = tt
functions_plain turned (f ∷ fs) =
    each_append IsPlain (function_lines turned f) (functions_lines turned fs) (function_plain turned f) (functions_plain turned fs)

pub emitted_gives_none : (turned : Bool) (fs : List Allocated) → GivesNone (functions_lines turned fs)
emitted_gives_none turned fs = gives_none (functions_lines turned fs) (functions_plain turned fs)

pub emitted_without : (turned : Bool) (fs : List Allocated) → HasNoJalr (functions_lines turned fs)
emitted_without turned fs = no_jalr (functions_lines turned fs) (functions_plain turned fs)

-- Literals behind the code stay as they are.
literals_filled : (ls : List Literal) → filled (literals_lines ls) ≡ literals_lines ls
literals_filled [] = refl
literals_filled (l ∷ ls) = ap (λ m. literal_lines l ++ m) (literals_filled ls)

literals_words : (ls : List Literal) → words (literals_lines ls) ≡ 0
literals_words [] = refl
literals_words (l ∷ ls) = let h = literals_words ls in omega (arith, h)

slotted_append : (one : Mips) (target : List ℕ) (xs ys : List Line) → slotted one target (xs ++ ys) ≡ slotted one target xs ++ ys
slotted_append one target xs ys = by (controls one)
  where
    by : (b : Bool) → (if b then One one target ∷ nop ∷ (xs ++ ys) else One one target ∷ (xs ++ ys))
        ≡ (if b then One one target ∷ nop ∷ xs else One one target ∷ xs) ++ ys
    by true = refl
    by false = refl

filled_append : (xs : List Line) (ls : List Literal) → filled (xs ++ literals_lines ls) ≡ filled xs ++ literals_lines ls
filled_append [] ls = literals_filled ls
filled_append (One one target ∷ []) [] = slotted_append one target [] []
filled_append (One one target ∷ []) (l ∷ ls) =
    ap (slotted one target) (literals_filled (l ∷ ls)) ∙ slotted_append one target [] (literals_lines (l ∷ ls))
filled_append (One one target ∷ One other there ∷ rest) ls =
    by (movable one other) (filled_append rest ls) (filled_append (One other there ∷ rest) ls)
  where
    by : (b : Bool) → filled (rest ++ literals_lines ls) ≡ filled rest ++ literals_lines ls →
        filled (One other there ∷ (rest ++ literals_lines ls)) ≡ filled (One other there ∷ rest) ++ literals_lines ls →
        (if b then One other there ∷ One one target ∷ filled (rest ++ literals_lines ls) else
        slotted one target (filled (One other there ∷ (rest ++ literals_lines ls))))
        ≡ (if b then One other there ∷ One one target ∷ filled rest else
        slotted one target (filled (One other there ∷ rest))) ++ literals_lines ls
    by true h k = ap (λ m. One other there ∷ One one target ∷ m) h
    by false h k = ap (slotted one target) k ∙ slotted_append one target (filled (One other there ∷ rest)) (literals_lines ls)
filled_append (One one target ∷ Label name ∷ rest) ls =
    ap (slotted one target) (filled_append (Label name ∷ rest) ls) ∙ slotted_append one target (filled (Label name ∷ rest)) (literals_lines ls)
filled_append (One one target ∷ La r name ∷ rest) ls =
    ap (slotted one target) (filled_append (La r name ∷ rest) ls) ∙ slotted_append one target (filled (La r name ∷ rest)) (literals_lines ls)
filled_append (One one target ∷ Statics bytes ∷ rest) ls =
    ap (slotted one target) (filled_append (Statics bytes ∷ rest) ls) ∙ slotted_append one target (filled (Statics bytes ∷ rest)) (literals_lines ls)
filled_append (Label name ∷ rest) ls = ap (λ m. Label name ∷ m) (filled_append rest ls)
filled_append (La r name ∷ rest) ls = ap (λ m. La r name ∷ m) (filled_append rest ls)
filled_append (Statics bytes ∷ rest) ls = ap (λ m. Statics bytes ∷ m) (filled_append rest ls)

literals_branches : (ls : List Literal) → branches_in (literals_lines ls) ≡ 0
literals_branches [] = refl
literals_branches (l ∷ ls) = literals_branches ls

branches_append : (xs : List Line) (ls : List Literal) → branches_in (xs ++ literals_lines ls) ≡ branches_in xs
branches_append [] ls = literals_branches ls
branches_append (One one target ∷ rest) ls = ap (λ n. if branches one then 1 + n else n) (branches_append rest ls)
branches_append (Label name ∷ rest) ls = branches_append rest ls
branches_append (La r name ∷ rest) ls = branches_append rest ls
branches_append (Statics bytes ∷ rest) ls = branches_append rest ls

literals_turned : (ls : List Literal) → turned_round (literals_lines ls) ≡ literals_lines ls
literals_turned [] = refl
literals_turned (l ∷ ls) = ap (λ m. literal_lines l ++ m) (literals_turned ls)

turned_line_append : (one : Mips) (target around : List ℕ) (xs ys : List Line) →
    turned one target around (xs ++ ys) ≡ turned one target around xs ++ ys
turned_line_append one target around xs ys = by (branches one)
  where
    by : (b : Bool) →
        (if b then One (filling.opposite one) around ∷ One (row.J 0) target ∷ Label around ∷ (xs ++ ys) else One one target ∷ (xs ++ ys))
        ≡ (if b then One (filling.opposite one) around ∷ One (row.J 0) target ∷ Label around ∷ xs else One one target ∷ xs) ++ ys
    by true = refl
    by false = refl

turned_append : (xs : List Line) (ls : List Literal) → turned_round (xs ++ literals_lines ls) ≡ turned_round xs ++ literals_lines ls
turned_append [] ls = literals_turned ls
turned_append (One one target ∷ rest) ls =
    ap (λ n. turned one target (around_name n) (turned_round (rest ++ literals_lines ls))) (branches_append rest ls)
    ∙ (ap (turned one target (around_name (branches_in rest))) (turned_append rest ls)
    ∙ turned_line_append one target (around_name (branches_in rest)) (turned_round rest) (literals_lines ls))
turned_append (Label name ∷ rest) ls = ap (λ m. Label name ∷ m) (turned_append rest ls)
turned_append (La r name ∷ rest) ls = ap (λ m. La r name ∷ m) (turned_append rest ls)
turned_append (Statics bytes ∷ rest) ls = ap (λ m. Statics bytes ∷ m) (turned_append rest ls)

no_more : (n : ℕ) → n + 0 ≡ n
no_more n = omega arith

abbrev far : ℕ → Bool
far n = nat_le n 16000 || nat_lt 32000 n

pub delayed_append : (xs : List Line) (ls : List Literal) → delayed (xs ++ literals_lines ls) ≡ delayed xs ++ literals_lines ls
delayed_append xs ls =
    ap (λ n. filled (if far n then xs ++ literals_lines ls else turned_round (xs ++ literals_lines ls)))
    (words_append xs (literals_lines ls) ∙ (ap (λ n. words xs + n) (literals_words ls) ∙ no_more (words xs)))
    ∙ by (near xs)
  where
    by : (b : Bool) → filled (if b then xs ++ literals_lines ls else turned_round (xs ++ literals_lines ls))
        ≡ filled (if b then xs else turned_round xs) ++ literals_lines ls
    by true = filled_append xs ls
    by false = ap filled (turned_append xs ls) ∙ filled_append (turned_round xs) ls

-- the lines of a program's assembly, delayed
pub assembly_delayed : (fs : List Allocated) (ls : List Literal) →
    delayed (assembly_of fs ls) ≡ delayed (functions_lines (is_long fs) fs) ++ literals_lines ls
assembly_delayed fs ls = delayed_append (functions_lines (is_long fs) fs) ls
