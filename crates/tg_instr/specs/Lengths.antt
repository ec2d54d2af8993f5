-- How many words of code an instruction is at most (MIPS I manual; large offsets go through $at), and
-- how many come of it by register allocation.
use Rattle.std.specs.Prelude.{ℕ, List, sum_by}
use Rattle.tg_instr.specs.declared.instr.Instr.{Instr}
use Rattle.tg_instr.specs.declared.instr.Instr.TheVariants.{FrameLoad, FrameStore, FrameAddress}
use Rattle.tg_instr.specs.declared.instr.Instr.TheVariants.{Address, Mark, Branch, Return, Move}

abbrev pub words_of : Instr → ℕ
words_of (FrameLoad _ _) = 3
words_of (FrameStore _ _) = 3
words_of (FrameAddress _) = 3
words_of (Address _ _) = 2
words_of (Branch _ _) = 2
words_of Return = 4
words_of (Mark _) = 0
words_of _ = 1

abbrev pub words : List Instr → ℕ
words list = sum_by words_of list

-- The most words that stand for an instruction, whatever its operands become: a word, or loads and
-- stores of slots round it. A mark is no word, and stays as it is.
abbrev pub most_words : Instr → ℕ
most_words (Move _ _) = 13
most_words (Mark _) = 0
most_words _ = 10
