-- How many instructions are chosen for the flat code of a function, what is drawn for them, and how
-- many words may come of them.
use Rattle.std.specs.Prelude.{ℕ, ◌≢◌, ◌≤◌, ◌+◌, ◌*◌, List, [], ◌∷◌, length, sum_by}
use Rattle.tg_tree.specs.declared.operators.Bin.{Bin}
use Rattle.tg_tree.specs.declared.operators.Bin.TheVariants.{ShiftLeft, ShiftRight, ShiftSigned}
use Rattle.tg_tree.specs.Tree as tree
use Rattle.tg_tree.specs.Tree.{Tx, Txs, Ts, Linear, Function, no_txs, tx}
use Rattle.tg_tree.specs.Sizes.{flat_length, flat_needs}
use Rattle.tg_instr.specs.declared.operands.Opnd.{Opnd}
use Rattle.tg_instr.specs.declared.instr.Instr.{Instr}
use Rattle.tg_instr.specs.declared.instr.Instr.TheVariants.{Move}
use Rattle.tg_munch.specs.mirror.Bodies.{munched, mark_above, outs}

-- the registers that a function keeps, each in a temporary of its own
abbrev pub kept_count : ℕ
kept_count = 9

-- no more instructions, and no more temporaries and marks, than the flat code is long; and besides
-- those that keep registers
pub record IsShort (f : Function (List Linear)) : Type 0 where
  pub code : length (munched f).code ≤ flat_length f + kept_count
  pub temps : (munched f).drawn.temp ≤ f.temps + (flat_length f + kept_count)
  pub marks : (munched f).drawn.mark ≤ mark_above f.body + (flat_length f + kept_count)

abbrev pub InstructionsAreFew : Type 0
InstructionsAreFew = (f : Function (List Linear)) → IsShort f

-- A count of the words that come of an instruction in the end: with operands that stand in the
-- frame at most 13 of a move, and 10 of any other.
pub record CountsWords (count : Instr → ℕ) : Type 0 where
  pub moves : (to from : Opnd) → count (Move to from) ≤ 13
  pub others :
      (one : Instr) → ((to from : Opnd) → one ≢ Move to from) → count one ≤ 10

-- Twelve words for each unit of the flat code, and a move for each kept register: no unit stands
-- for a move alone, since what needs one counts two units or more.
abbrev pub WordsAreFew : Type 0
WordsAreFew =
    (count : Instr → ℕ) (f : Function (List Linear)) →
    CountsWords count →
    sum_by count (munched f).code ≤ 12 * flat_length f + 13 * kept_count

-- Temporaries and words of frames. A shift by what is no constant has a temporary for each of five
-- bits, which are more than flat code counts for it: shifts of this kind are counted here.
abbrev pub by_word : Bin → (amount : Tx) → ℕ
by_word ShiftLeft (tree.Const n) = 0
by_word ShiftRight (tree.Const n) = 0
by_word ShiftSigned (tree.Const n) = 0
by_word ShiftLeft y = 1
by_word ShiftRight y = 1
by_word ShiftSigned y = 1
by_word _ y = 0

abbrev mutual
  pub word_shifts : Tx → ℕ
  word_shifts (tree.Binary op x y) = by_word op y + (word_shifts x + word_shifts y)
  word_shifts (tree.Load x) = word_shifts x
  word_shifts (tree.LoadByte x) = word_shifts x
  word_shifts (tree.Call _ xs) = arguments_shifts xs
  word_shifts (tree.Service _ x) = word_shifts x
  word_shifts (tree.After _ x) = word_shifts x
  word_shifts _ = 0

  pub arguments_shifts : Txs → ℕ
  arguments_shifts no_txs = 0
  arguments_shifts (tx x xs) = word_shifts x + arguments_shifts xs

abbrev pub statement_shifts : Ts → ℕ
statement_shifts (tree.Move _ x) = word_shifts x
statement_shifts (tree.Store x y) = word_shifts x + word_shifts y
statement_shifts (tree.StoreByte x y) = word_shifts x + word_shifts y
statement_shifts (tree.Do x) = word_shifts x
statement_shifts _ = 0

abbrev pub element_shifts : Linear → ℕ
element_shifts (tree.Do' s) = statement_shifts s
element_shifts (tree.Branch _ x y _) = word_shifts x + word_shifts y
element_shifts (tree.Return' x) = word_shifts x
element_shifts _ = 0

abbrev pub code_shifts : List Linear → ℕ
code_shifts [] = 0
code_shifts (e ∷ rest) = element_shifts e + code_shifts rest

-- Slots, temporaries and words for arguments are at most the needs of the flat code, three for each
-- shift by a word, and one for each register that is kept.
abbrev pub TemporariesAreFew : Type 0
TemporariesAreFew =
    (f : Function (List Linear)) →
    f.slots + (munched f).drawn.temp + outs f.body ≤
    flat_needs f + 3 * code_shifts f.body + kept_count

-- A shift by a word counts 21 in the length: so where it isn't known that there are none, what
-- they need is a seventh of the length.
abbrev pub ShiftsAreLong : Type 0
ShiftsAreLong =
    (f : Function (List Linear)) → 21 * code_shifts f.body + 6 * length f.params ≤ flat_length f
