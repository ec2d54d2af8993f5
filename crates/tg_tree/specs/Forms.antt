-- Forms of trees that many texts share.
use Rattle.std.specs.Prelude.{List, [], ◌∷◌, ◌++◌}
use Rattle.tg_tree.specs.Tree.{Tx, Txs, no_txs, tx, Cond, Ts, If, Loop, Break, Seq}
use Rattle.tg_tree.specs.Tree.{Stms, no_stms, stm}

-- lists of trees
abbrev pub txs : List Tx → Txs
txs [] = no_txs
txs (x ∷ xs) = tx x (txs xs)

abbrev pub stms : List Ts → Stms
stms [] = no_stms
stms (s ∷ ss) = stm s (stms ss)

-- one statement after another, and none
abbrev pub sequence : List Ts → Ts
sequence ss = Seq (stms ss)

abbrev pub nothing : Ts
nothing = sequence []

-- a statement where a condition holds
abbrev pub when : Cond → Ts → Ts
when c s = If c s nothing

-- these statements again and again, until a condition holds after a turn
abbrev pub repeat_until : Cond → List Ts → Ts
repeat_until c ss = Loop (sequence (ss ++ when c (Break 0) ∷ []))
