-- The lines of a function are hardly more words than its code is counted at.
use Rattle.std.proofs.Common.{ℕ, ◌+◌, ◌≤◌, List, [], ◌∷◌, Bool, true, false, arith}
use Rattle.std.specs.Prelude.{nat_lt, nat_le, if◌then◌else◌}
use Rattle.std.proofs.lemmas.List.Sums.{sum_by-cons}
use Rattle.tg_isa.specs.declared.mips.Mips.TheVariants.{Lw, Jr}
use Rattle.tg_instr.specs.declared.instr.Instr.{Instr}
use Rattle.tg_instr.specs.declared.instr.Instr.TheVariants.{FrameLoad, FrameStore, FrameAddress, Address, Mark, Jump, Branch, Call, Fault, Return}
use Rattle.tg_instr.specs.Lengths as instr
use Rattle.tg_emit.specs.declared.assembly.Line.{Line}
use Rattle.tg_emit.specs.mirror.Rows.{register_of}
use Rattle.tg_emit.specs.mirror.Lines.{size_of, alone, above_stack, lowered, entry, slot_offset, instruction_lines, code_lines, words}
use Rattle.tg_emit_laws.proofs.CodeLines.{words_append}
use Rattle.tg_code_bounds.specs.laws.Laws.{LinesAreShort}

-- one of two lists of lines
either : (n : ℕ) (b : Bool) (xs ys : List Line) → words xs ≤ n → words ys ≤ n → words (if b then xs else ys) ≤ n
either n true xs ys h k = h
either n false xs ys h k = k

above_stack_short : (r n : ℕ) → words (above_stack r n) ≤ 3
above_stack_short r n = either 3 (nat_lt n 32768) _ _ (omega arith) (omega arith)

lowered_short : (n : ℕ) → words (lowered n) ≤ 3
lowered_short n = either 3 (nat_le n 32768) _ _ (omega arith) (omega arith)

entry_short : (label size : ℕ) → words (entry label size) ≤ 4
entry_short label size = omega (arith, lowered_short size, words_append (lowered size) (alone (Lw 0 0 29) ∷ []))

one_short : (turned : Bool) (label size place : ℕ) (one : Instr) → words (instruction_lines turned label size place one) ≤ instr.words_of one
one_short turned label size place (FrameLoad to k) = either 3 (nat_lt (slot_offset size k) 32768) _ _ (omega arith) (omega arith)
one_short turned label size place (FrameStore from k) = either 3 (nat_lt (slot_offset size k) 32768) _ _ (omega arith) (omega arith)
one_short turned label size place (FrameAddress to) = above_stack_short (register_of to) size
one_short turned label size place (Address to literal) = omega arith
one_short turned label size place (Mark m) = omega arith
one_short turned label size place (Jump m) = omega arith
one_short true label size place (Branch test m) = omega arith
one_short false label size place (Branch test m) = omega arith
one_short turned label size place (Call callee) = omega arith
one_short turned label size place (Fault n) = omega arith
one_short turned label size place Return = omega (arith, above_stack_short 29 size, words_append (above_stack 29 size) (alone (Jr 31) ∷ []))
one_short turned label size place _ = omega arith

code_short : (turned : Bool) (label size place : ℕ) (list : List Instr) → words (code_lines turned label size place list) ≤ instr.words list
code_short turned label size place [] = omega arith
code_short turned label size place (one ∷ rest) =
    let h = one_short turned label size place one in
    let k = code_short turned label size (place + 1) rest in
    let parts = words_append (instruction_lines turned label size place one) (code_lines turned label size (place + 1) rest) in
    omega (arith, h, k, parts, sum_by-cons instr.words_of one rest)

pub emit_is_bounded : LinesAreShort
emit_is_bounded turned f =
    let label = f.frame.label.0 in
    let size = size_of f.frame in
    let h = entry_short label size in
    let k = code_short turned label size 0 f.code.list in
    omega (arith, h, k, words_append (entry label size) (code_lines turned label size 0 f.code.list))
