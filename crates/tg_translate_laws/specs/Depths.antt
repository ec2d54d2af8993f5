-- How deep a tree is nested: a part is one deeper than its own parts. Lists aren't.
use Rattle.std.specs.Prelude.{ℕ, ◌+◌, suc, max}
use Rattle.tg_tree.specs.Tree.{Tx, Const, Address, Temp, FrameAddress, Binary, Load, LoadByte, Call}
use Rattle.tg_tree.specs.Tree.{Service, After, Txs, no_txs, tx, Cond, Compare, Not, Both, Either}
use Rattle.tg_tree.specs.Tree.{Ts, Move, Store, StoreByte, Do, If, Loop, Break, Fault, Seq, Return}
use Rattle.tg_tree.specs.Tree.{Stms, no_stms, stm}

-- where a choice is so much deeper than its own parts
module _ (choice : ℕ) where
  abbrev mutual
    pub statement_depth : Ts → ℕ
    statement_depth (Move _ x) = suc (expression_depth x)
    statement_depth (Store x y) = suc (max (expression_depth x) (expression_depth y))
    statement_depth (StoreByte x y) = suc (max (expression_depth x) (expression_depth y))
    statement_depth (Do x) = suc (expression_depth x)
    statement_depth (If c s t) =
        choice + max (condition_depth c) (max (statement_depth s) (statement_depth t))
    statement_depth (Loop s) = suc (statement_depth s)
    statement_depth (Break _) = 1
    statement_depth (Fault _) = 1
    statement_depth (Seq ss) = suc (statements_depth ss)
    statement_depth (Return x) = suc (expression_depth x)

    pub statements_depth : Stms → ℕ
    statements_depth no_stms = 0
    statements_depth (stm s ss) = max (statement_depth s) (statements_depth ss)

    pub expression_depth : Tx → ℕ
    expression_depth (Const _) = 1
    expression_depth (Address _) = 1
    expression_depth (Temp _) = 1
    expression_depth FrameAddress = 1
    expression_depth (Binary _ x y) = suc (max (expression_depth x) (expression_depth y))
    expression_depth (Load x) = suc (expression_depth x)
    expression_depth (LoadByte x) = suc (expression_depth x)
    expression_depth (Call _ xs) = suc (arguments_depth xs)
    expression_depth (Service _ x) = suc (expression_depth x)
    expression_depth (After s x) = suc (max (statement_depth s) (expression_depth x))

    pub arguments_depth : Txs → ℕ
    arguments_depth no_txs = 0
    arguments_depth (tx x xs) = max (expression_depth x) (arguments_depth xs)

    pub condition_depth : Cond → ℕ
    condition_depth (Compare _ x y) = suc (max (expression_depth x) (expression_depth y))
    condition_depth (Not c) = suc (condition_depth c)
    condition_depth (Both c d) = suc (max (condition_depth c) (condition_depth d))
    condition_depth (Either c d) = suc (max (condition_depth c) (condition_depth d))

-- where a choice is as any other part
abbrev pub ts_depth : Ts → ℕ
ts_depth s = statement_depth 1 s
