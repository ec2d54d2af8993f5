-- Units of work and of length. A unit stands for an instruction that is made of a part in the end.
-- What one node of a text counts is stated here, once: a run is charged it each time that it comes
-- to the node, and the length of the text is its sum over the nodes. A node counts in advance what
-- later passes may write for it, so that a pass adds no more than a constant to either number.
use Rattle.std.specs.Prelude.{ℕ, ◌+◌, ◌*◌, Bool, if◌then◌else◌}
use Rattle.tg_tree.specs.declared.operators.Bin.{Bin}
use Rattle.tg_tree.specs.declared.operators.Bin.TheVariants.{Mul, Div, MulHigh, ShiftLeft}
use Rattle.tg_tree.specs.declared.operators.Bin.TheVariants.{ShiftRight, ShiftSigned}
use Rattle.tg_tree.specs.Tree.{Tx, Const, Temp, Binary, Call, Service, After, Txs}
use Rattle.tg_tree.specs.Tree.{Cond, Compare, Not, Both, Either}
use Rattle.tg_tree.specs.Tree.{Ts, Move, Store, StoreByte, Do, If, Loop, Break, Fault, Seq, Return}
use Rattle.tg_tree.specs.Tree.{Linear, Mark, Do', Jump, Branch, Fault', Return'}
use Rattle.tg_tree.specs.Shapes.{is_flat, are_flat, is_flat_condition}

-- as translated, or canonical: with calls and services that are whole right sides, as the
-- statements of flat code are too
pub data Stage : Type 0 where
  Trees Canonical : Stage

-- a word kept in a temporary: a move of its own, before a part that isn't flat and is hoisted in
-- front of it
abbrev pub hoisted_units : Stage → (flat : Bool) → ℕ
hoisted_units Trees flat = if flat then 0 else 2
hoisted_units Canonical flat = 0

-- Two conditions that are joined. Where a right one has something hoisted in front of it, they are
-- tested part by part: each part leaves loops by a test and a break, and a join may be a loop of
-- its own, with a break at its end. A right side that isn't flat pays for the two loops around both
-- statements, with their breaks, as well.
abbrev pub joined_units : Stage → (flat : Bool) → ℕ
joined_units Trees flat = if flat then 14 else 31
joined_units Canonical flat = 0

-- the word that a call or service gives, kept in a temporary
abbrev pub given_units : Stage → ℕ
given_units Trees = 2
given_units Canonical = 0

-- a shift by a word that isn't constant: a move, and four instructions for each of its five bits
abbrev pub shift_units : (right : Tx) → ℕ
shift_units (Const _) = 1
shift_units _ = 21

-- an operator with its right side: products and quotients leave their answers in registers of their
-- own
abbrev pub operator_units : Bin → (right : Tx) → ℕ
operator_units Mul y = 2
operator_units Div y = 2
operator_units MulHigh y = 2
operator_units ShiftLeft y = shift_units y
operator_units ShiftRight y = shift_units y
operator_units ShiftSigned y = shift_units y
operator_units _ y = 1

-- an expression: a constant has two halves; a service has its number, its argument, itself and what
-- it gives
abbrev pub expression_units : Stage → Tx → ℕ
expression_units g (Const _) = 2
expression_units g (Temp _) = 0
expression_units g (Binary op x y) = operator_units op y + hoisted_units g (is_flat y)
expression_units g (Call _ _) = 2 + given_units g
expression_units g (Service _ _) = 5 + given_units g
expression_units g (After _ _) = 0
expression_units g _ = 1

-- an argument of a call before the rest of them: past the fourth it is stored to the frame
abbrev pub argument_units : Stage → (rest : Txs) → ℕ
argument_units g rest = 4 + hoisted_units g (are_flat rest)

-- a condition: a comparison is a branch, and marks and a jump for its sides
abbrev pub condition_units : Stage → Cond → ℕ
condition_units g (Compare _ x y) = 4 + hoisted_units g (is_flat y)
condition_units g (Not _) = 0
condition_units g (Both c d) = joined_units g (is_flat_condition d)
condition_units g (Either c d) = joined_units g (is_flat_condition d)

-- a statement, with its jumps and marks: a move counts two, since one between two slots is three
-- instructions; a return gives nine registers back
abbrev pub statement_units : Stage → Ts → ℕ
statement_units g (Move _ _) = 2
statement_units g (Store x y) = 1 + hoisted_units g (is_flat y)
statement_units g (StoreByte x y) = 1 + hoisted_units g (is_flat y)
statement_units g (Do _) = 0
statement_units g (If _ _ _) = 4
statement_units g (Loop _) = 4
statement_units g (Break _) = 3
statement_units g (Fault _) = 3
statement_units g (Seq _) = 0
statement_units g (Return _) = 16

-- an element of flat code
abbrev pub element_units : Linear → ℕ
element_units (Mark _) = 1
element_units (Do' _) = 0
element_units (Jump _) = 1
element_units (Branch _ _ _ _) = 2
element_units (Fault' _) = 1
element_units (Return' _) = 14

-- a parameter at the entry of its function
abbrev pub parameter_units : ℕ
parameter_units = 6

-- the entry of a function that is called: its frame, nine registers kept, and its arguments
abbrev pub entry_units : (arguments : ℕ) → ℕ
entry_units n = 22 + parameter_units * n

-- before its code is flat, with the mark that its code begins with then
abbrev pub marked_entry_units : (arguments : ℕ) → ℕ
marked_entry_units n = 1 + entry_units n
