use Rattle.std.proofs.Common.{◌≡◌, length}
use Rattle.std.specs.Prelude.{None}
use Rattle.tg_tree.specs.glue.Lists.{txs_of, stms_of}
use Rattle.tg_fold.specs.glue.Views.{plain_copy}
use Rattle.tg_fold.specs.mirror.Folding.{folded_txs, each_folded, passed_on}
use Rattle.tg_fold.proofs.Walks.{Valued, Stated}
use Rattle.tg_fold.proofs.pass.+folding.Given as goal

abbrev pub invariant-fold_values-loop-at : goal.invariant-fold_values-loop-at
invariant-fold_values-loop-at l =
    (length l.values.items.items ≡ length l.fn.values.items.items)
    × Valued folded_txs (txs_of l.fn.values.items.items) l.values.items.items l.at

abbrev pub invariant-fold_each-loop-at : goal.invariant-fold_each-loop-at
invariant-fold_each-loop-at l =
    (length l.statements.items.items ≡ length l.fn.statements.items.items)
    × Stated (λ before ss. passed_on before (each_folded ss))
    (passed_on None (each_folded (stms_of l.fn.statements.items.items))) (plain_copy l.before) l.statements.items.items l.at

abbrev pub decreases-fold_value : goal.decreases-fold_value
decreases-fold_value l = l.height

abbrev pub decreases-fold_values : goal.decreases-fold_values
decreases-fold_values l = l.height

abbrev pub decreases-fold_test : goal.decreases-fold_test
decreases-fold_test l = l.height

abbrev pub decreases-fold_statement : goal.decreases-fold_statement
decreases-fold_statement l = l.height

abbrev pub decreases-fold_each : goal.decreases-fold_each
decreases-fold_each l = l.height
