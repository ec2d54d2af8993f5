-- The plain lists of lists of the code's trees.
use Rattle.std.specs.Prelude.{List, [], ◌∷◌, map}
use Rattle.tg_tree.specs.declared.trees.Tx.{Tx as CodeTx}
use Rattle.tg_tree.specs.declared.trees.Ts.{Ts as CodeTs}
use Rattle.tg_tree.specs.declared.linear.Linear.{Linear as CodeLinear}
use Rattle.tg_tree.specs.Tree.{Txs, no_txs, tx, Stms, no_stms, stm, Linear}
use Rattle.tg_tree.specs.glue.Plain.{plain_tx, plain_ts, plain_linear}

abbrev pub txs_of : List CodeTx → Txs
txs_of [] = no_txs
txs_of (x ∷ xs) = tx (plain_tx x) (txs_of xs)

abbrev pub stms_of : List CodeTs → Stms
stms_of [] = no_stms
stms_of (s ∷ ss) = stm (plain_ts s) (stms_of ss)

abbrev pub code_of : List CodeLinear → List Linear
code_of code = map plain_linear code

-- one list after another
abbrev pub join_txs : Txs → Txs → Txs
join_txs no_txs ys = ys
join_txs (tx x xs) ys = tx x (join_txs xs ys)

abbrev pub join_stms : Stms → Stms → Stms
join_stms no_stms ts = ts
join_stms (stm s ss) ts = stm s (join_stms ss ts)
