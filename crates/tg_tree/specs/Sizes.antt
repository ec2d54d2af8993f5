-- Two numbers of a function's text with its frame, at each stage before instructions are chosen:
-- its length, in units, and its needs, the words of its frame and the temporaries that its code has
-- then. Both count in advance what later passes may write and draw, part by part, so that a pass
-- adds no more than a constant.
use Rattle.std.specs.Prelude.{ℕ, ◌+◌, ◌*◌, List, [], ◌∷◌, length}
use Rattle.tg_tree.specs.declared.operators.Bin.{Bin}
use Rattle.tg_tree.specs.declared.operators.Bin.TheVariants.{ShiftLeft, ShiftRight, ShiftSigned}
use Rattle.tg_tree.specs.Tree.{Tx, Temp, Binary, Load, LoadByte, Call, Service, After, Txs, no_txs}
use Rattle.tg_tree.specs.Tree.{tx, Cond, Compare, Not, Both, Either, Ts, Move, Store, StoreByte, Do}
use Rattle.tg_tree.specs.Tree.{If, Loop, Seq, Return, Stms, no_stms, stm, Linear, Do', Branch}
use Rattle.tg_tree.specs.Tree.{Return', Function}
use Rattle.tg_tree.specs.Units.{Stage, Trees, Canonical, expression_units, argument_units}
use Rattle.tg_tree.specs.Units.{condition_units, statement_units, element_units, parameter_units}

-- Lengths: the units of all nodes.
module _ (g : Stage) where
  abbrev mutual
    pub expression_length : Tx → ℕ
    expression_length (Binary op x y) =
        expression_units g (Binary op x y) + (expression_length x + expression_length y)
    expression_length (Load x) = expression_units g (Load x) + expression_length x
    expression_length (LoadByte x) = expression_units g (LoadByte x) + expression_length x
    expression_length (Call label xs) = expression_units g (Call label xs) + arguments_length xs
    expression_length (Service n x) = expression_units g (Service n x) + expression_length x
    expression_length (After s x) =
        expression_units g (After s x) + (statement_length s + expression_length x)
    expression_length x = expression_units g x

    pub arguments_length : Txs → ℕ
    arguments_length no_txs = 0
    arguments_length (tx x xs) = argument_units g xs + (expression_length x + arguments_length xs)

    pub condition_length : Cond → ℕ
    condition_length (Compare rel x y) =
        condition_units g (Compare rel x y) + (expression_length x + expression_length y)
    condition_length (Not c) = condition_units g (Not c) + condition_length c
    condition_length (Both c d) =
        condition_units g (Both c d) + (condition_length c + condition_length d)
    condition_length (Either c d) =
        condition_units g (Either c d) + (condition_length c + condition_length d)

    pub statement_length : Ts → ℕ
    statement_length (Move i x) = statement_units g (Move i x) + expression_length x
    statement_length (Store x y) =
        statement_units g (Store x y) + (expression_length x + expression_length y)
    statement_length (StoreByte x y) =
        statement_units g (StoreByte x y) + (expression_length x + expression_length y)
    statement_length (Do x) = statement_units g (Do x) + expression_length x
    statement_length (If c s t) =
        statement_units g (If c s t) +
        (condition_length c + (statement_length s + statement_length t))
    statement_length (Loop s) = statement_units g (Loop s) + statement_length s
    statement_length (Seq ss) = statement_units g (Seq ss) + statements_length ss
    statement_length (Return x) = statement_units g (Return x) + expression_length x
    statement_length s = statement_units g s

    pub statements_length : Stms → ℕ
    statements_length no_stms = 0
    statements_length (stm s ss) = statement_length s + statements_length ss

-- an element of flat code: its statements are canonical
abbrev pub element_length : Linear → ℕ
element_length (Do' s) = element_units (Do' s) + statement_length Canonical s
element_length (Branch rel x y m) =
    element_units (Branch rel x y m) +
    (expression_length Canonical x + expression_length Canonical y)
element_length (Return' x) = element_units (Return' x) + expression_length Canonical x
element_length e = element_units e

abbrev pub code_length : List Linear → ℕ
code_length [] = 0
code_length (e ∷ rest) = element_length e + code_length rest

-- Needs: what a stage counts for each part.
pub record Needs : Type 0 where
  -- an expression, but for a temporary; what a shift, a call or service, an argument count besides
  pub expression : ℕ
  pub temporary : ℕ
  pub shift : ℕ
  pub call : ℕ
  pub argument : ℕ
  -- a condition, and a parameter of the function
  pub condition : ℕ
  pub parameter : ℕ

module _ (w : Needs) where
  abbrev pub shift_needs : Bin → ℕ
  shift_needs ShiftLeft = w.shift
  shift_needs ShiftRight = w.shift
  shift_needs ShiftSigned = w.shift
  shift_needs _ = 0

  abbrev mutual
    pub expression_needs : Tx → ℕ
    expression_needs (Temp _) = w.temporary
    expression_needs (Binary op x y) =
        w.expression + shift_needs op + (expression_needs x + expression_needs y)
    expression_needs (Load x) = w.expression + expression_needs x
    expression_needs (LoadByte x) = w.expression + expression_needs x
    expression_needs (Call _ xs) = w.expression + w.call + arguments_needs xs
    expression_needs (Service _ x) = w.expression + w.call + expression_needs x
    expression_needs (After s x) = statement_needs s + expression_needs x
    expression_needs _ = w.expression

    pub arguments_needs : Txs → ℕ
    arguments_needs no_txs = 0
    arguments_needs (tx x xs) = w.argument + (expression_needs x + arguments_needs xs)

    pub condition_needs : Cond → ℕ
    condition_needs (Compare _ x y) = w.condition + (expression_needs x + expression_needs y)
    condition_needs (Not c) = w.condition + condition_needs c
    condition_needs (Both c d) = w.condition + (condition_needs c + condition_needs d)
    condition_needs (Either c d) = w.condition + (condition_needs c + condition_needs d)

    pub statement_needs : Ts → ℕ
    statement_needs (Move _ x) = expression_needs x
    statement_needs (Store x y) = expression_needs x + expression_needs y
    statement_needs (StoreByte x y) = expression_needs x + expression_needs y
    statement_needs (Do x) = expression_needs x
    statement_needs (If c s t) = condition_needs c + (statement_needs s + statement_needs t)
    statement_needs (Loop s) = statement_needs s
    statement_needs (Seq ss) = statements_needs ss
    statement_needs (Return x) = expression_needs x
    statement_needs _ = 0

    pub statements_needs : Stms → ℕ
    statements_needs no_stms = 0
    statements_needs (stm s ss) = statement_needs s + statements_needs ss

  abbrev pub element_needs : Linear → ℕ
  element_needs (Do' s) = statement_needs s
  element_needs (Branch _ x y _) = w.condition + (expression_needs x + expression_needs y)
  element_needs (Return' x) = expression_needs x
  element_needs _ = 0

  abbrev pub code_needs : List Linear → ℕ
  code_needs [] = 0
  code_needs (e ∷ rest) = element_needs e + code_needs rest

-- trees: the value of an expression may be kept in a temporary of its own, and that of a condition
abbrev pub in_trees : Needs
in_trees = record {
  expression = 2;
  temporary = 1;
  shift = 2;
  call = 1;
  argument = 2;
  condition = 6;
  parameter = 2;
}

-- canonical statements, and flat code: what the choice of instructions may draw
abbrev pub in_canonical : Needs
in_canonical = record {
  expression = 1;
  temporary = 0;
  shift = 2;
  call = 1;
  argument = 2;
  condition = 1;
  parameter = 2;
}

-- the words and temporaries that a frame has, and what its parameters count
abbrev pub frame_needs : {Body : Type 0} → Function Body → ℕ
frame_needs f = f.slots + f.temps + f.out

abbrev pub parameters_length : {Body : Type 0} → Function Body → ℕ
parameters_length f = parameter_units * length f.params

abbrev pub parameters_needs : {Body : Type 0} → Needs → Function Body → ℕ
parameters_needs w f = w.parameter * length f.params

-- length and needs of a function as a tree, as canonical statements, and as flat code
abbrev pub tree_length : Function Ts → ℕ
tree_length f = parameters_length f + statement_length Trees f.body

abbrev pub tree_needs : Function Ts → ℕ
tree_needs f = frame_needs f + (parameters_needs in_trees f + statement_needs in_trees f.body)

abbrev pub canonical_length : Function Stms → ℕ
canonical_length f = parameters_length f + statements_length Canonical f.body

abbrev pub canonical_needs : Function Stms → ℕ
canonical_needs f =
    frame_needs f + (parameters_needs in_canonical f + statements_needs in_canonical f.body)

abbrev pub flat_length : Function (List Linear) → ℕ
flat_length f = parameters_length f + code_length f.body

abbrev pub flat_needs : Function (List Linear) → ℕ
flat_needs f = frame_needs f + (parameters_needs in_canonical f + code_needs in_canonical f.body)
