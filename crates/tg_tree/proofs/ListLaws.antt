-- The plain list of the code's list is that of its items; lists that are put together have plain lists put together.
use Rattle.std.proofs.Common.{◌≡◌, List, [], ◌∷◌, ◌++◌, map, refl, ap, ◌∙◌}
use mathlib.Core.Former.{Count}
use Rattle.tg_tree.specs.declared.trees.Tx.{Tx as CodeTx, Call, Call', Row_of-Tx, end_of-Tx, more_of-Tx, items-the_row-Tx, items_hidden-the_row-Tx-1}
use Rattle.tg_tree.specs.declared.trees.Ts.{Ts as CodeTs, Seq, Seq', Row_of-Ts, end_of-Ts, more_of-Ts, items-the_row-Ts, items_hidden-the_row-Ts-0}
use Rattle.tg_tree.specs.declared.trees.Txs.{Txs}
use Rattle.tg_tree.specs.declared.trees.Stms.{Stms}
use Rattle.tg_base.specs.declared.ids.Label.{Label}
use Rattle.tg_tree.specs.Tree as tree
use Rattle.tg_tree.specs.Tree.{no_txs, tx, no_stms, stm}
use Rattle.tg_tree.specs.glue.Plain.{plain_tx, plain_txs, plain_ts, plain_stms}
use Rattle.tg_tree.specs.Forms.{stms, when, repeat_until}
use Rattle.tg_tree.specs.glue.Lists.{txs_of, stms_of, join_txs, join_stms}

pub plain_txs-items : (n : Count) (row : Row_of-Tx n) → plain_txs row ≡ txs_of (items-the_row-Tx n row)
plain_txs-items n end_of-Tx = refl
plain_txs-items n (more_of-Tx x rest) = ap (tree.tx (plain_tx x)) (plain_txs-items _ rest)

pub plain_stms-items : (n : Count) (row : Row_of-Ts n) → plain_stms row ≡ stms_of (items-the_row-Ts n row)
plain_stms-items n end_of-Ts = refl
plain_stms-items n (more_of-Ts s rest) = ap (tree.stm (plain_ts s)) (plain_stms-items _ rest)

abbrev txs_row : CodeTx → (n : Count) × Row_of-Tx n
txs_row (Call' _ _ row) = (_, row)
txs_row _ = (_, end_of-Tx)

abbrev stms_row : CodeTs → (n : Count) × Row_of-Ts n
stms_row (Seq' _ row) = (_, row)
stms_row _ = (_, end_of-Ts)

-- a call's arguments, and statements one after another
pub plain_tx-Call : (label : Label) (xs : Txs) → plain_tx (Call label xs) ≡ tree.Call label.0 (txs_of xs.items.items)
plain_tx-Call label xs =
    let row = txs_row (Call label xs) in
    ap (tree.Call label.0) (plain_txs-items row.0 row.1 ∙ ap txs_of (items_hidden-the_row-Tx-1 xs.items))

pub plain_ts-Seq : (ss : Stms) → plain_ts (Seq ss) ≡ tree.Seq (stms_of ss.items.items)
plain_ts-Seq ss =
    let row = stms_row (Seq ss) in
    ap tree.Seq (plain_stms-items row.0 row.1 ∙ ap stms_of (items_hidden-the_row-Ts-0 ss.items))

-- one after another, and one more at the end
pub txs_of-append : (xs ys : List CodeTx) → txs_of (xs ++ ys) ≡ join_txs (txs_of xs) (txs_of ys)
txs_of-append [] ys = refl
txs_of-append (x ∷ xs) ys = ap (tx (plain_tx x)) (txs_of-append xs ys)

pub stms_of-append : (ss ts : List CodeTs) → stms_of (ss ++ ts) ≡ join_stms (stms_of ss) (stms_of ts)
stms_of-append [] ts = refl
stms_of-append (s ∷ ss) ts = ap (stm (plain_ts s)) (stms_of-append ss ts)

pub txs_of-push : (xs : List CodeTx) (x : CodeTx) → txs_of (xs ++ x ∷ []) ≡ join_txs (txs_of xs) (tx (plain_tx x) no_txs)
txs_of-push xs x = txs_of-append xs (x ∷ [])

pub stms_of-push : (ss : List CodeTs) (s : CodeTs) → stms_of (ss ++ s ∷ []) ≡ join_stms (stms_of ss) (stm (plain_ts s) no_stms)
stms_of-push ss s = stms_of-append ss (s ∷ [])

pub join_txs-none : (xs : tree.Txs) → join_txs xs no_txs ≡ xs
join_txs-none no_txs = refl
join_txs-none (tx x xs) = ap (tx x) (join_txs-none xs)

pub join_stms-none : (ss : tree.Stms) → join_stms ss no_stms ≡ ss
join_stms-none no_stms = refl
join_stms-none (stm s ss) = ap (stm s) (join_stms-none ss)

pub join_txs-assoc : (xs ys zs : tree.Txs) → join_txs (join_txs xs ys) zs ≡ join_txs xs (join_txs ys zs)
join_txs-assoc no_txs ys zs = refl
join_txs-assoc (tx x xs) ys zs = ap (tx x) (join_txs-assoc xs ys zs)

pub join_stms-assoc : (ss ts us : tree.Stms) → join_stms (join_stms ss ts) us ≡ join_stms ss (join_stms ts us)
join_stms-assoc no_stms ts us = refl
join_stms-assoc (stm s ss) ts us = ap (stm s) (join_stms-assoc ss ts us)

-- a list with one more statement at the end
pub stms_of-last : (ss : List CodeTs) (s : CodeTs) → stms_of (ss ++ s ∷ []) ≡ stms (map plain_ts ss ++ plain_ts s ∷ [])
stms_of-last [] s = refl
stms_of-last (first ∷ ss) s = ap (tree.stm (plain_ts first)) (stms_of-last ss s)

-- what is repeated, once the test stands after it
pub turn_is :
    (c : tree.Cond) (ss turn : List CodeTs) (test whole : CodeTs) →
    plain_ts test ≡ when c (tree.Break 0) → turn ≡ ss ++ test ∷ [] → plain_ts whole ≡ tree.Seq (stms_of turn) →
    tree.Loop (plain_ts whole) ≡ repeat_until c (map plain_ts ss)
turn_is c ss turn test whole is more all =
    ap tree.Loop (all ∙ ap tree.Seq (ap stms_of more ∙ (stms_of-last ss test ∙ ap (λ t. stms (map plain_ts ss ++ t ∷ [])) is)))
