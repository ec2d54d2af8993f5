-- Lists of statements in the code, and as trees.
use Rattle.std.proofs.Common.{◌≡◌, ◌==◌, List, [], ◌∷◌, ◌++◌, length, refl, ap, ◌∙◌}
use Rattle.std.proofs.Math.Dec.{eqb-suc-zero}
use Rattle.tg_tree.specs.declared.trees.Ts.{Ts as CodeTs}
use Rattle.tg_tree.specs.declared.trees.Tx.{Tx as CodeTx}
use Rattle.tg_tree.specs.Tree.{tx, no_txs}
use Rattle.tg_tree.specs.glue.Plain.{plain_tx, plain_ts}
use Rattle.tg_tree.specs.glue.Lists.{txs_of, stms_of, join_txs}
use Rattle.tg_tree.proofs.ListLaws.{txs_of-push, stms_of-push}
use Rattle.tg_translate.specs.mirror.Wants.{is_none, followed}

pub length_is_none : (ss : List CodeTs) → (length ss == 0) ≡ is_none (stms_of ss)
length_is_none [] = refl
length_is_none (s ∷ ss) = eqb-suc-zero (length ss)

pub pushed : (before after : List CodeTs) (s : CodeTs) → after ≡ before ++ s ∷ [] → stms_of after ≡ followed (stms_of before) (plain_ts s)
pushed before after s h = ap stms_of h ∙ stms_of-push before s

pub value_pushed :
    (before after : List CodeTx) (x : CodeTx) → after ≡ before ++ x ∷ [] → txs_of after ≡ join_txs (txs_of before) (tx (plain_tx x) no_txs)
value_pushed before after x h = ap txs_of h ∙ txs_of-push before x
