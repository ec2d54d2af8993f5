use Rattle.std.proofs.Common.{◌≡◌, length}
use Rattle.tg_tree.specs.glue.Lists.{txs_of, stms_of}
use Rattle.tg_fold.specs.Copies.{renamed_txs, renamed_stms}
use Rattle.tg_fold.proofs.Walks.{Valued, Stated}
use Rattle.tg_fold.proofs.renaming.+renaming.Given as goal

abbrev pub invariant-rename_values-loop-at : goal.invariant-rename_values-loop-at
invariant-rename_values-loop-at l =
    (length l.values.items.items ≡ length l.fn.values.items.items)
    × Valued (renamed_txs l.copy.to.0 l.copy.from.0) (txs_of l.fn.values.items.items) l.values.items.items l.at

abbrev pub invariant-rename_all-loop-at : goal.invariant-rename_all-loop-at
invariant-rename_all-loop-at l =
    (length l.statements.items.items ≡ length l.fn.statements.items.items)
    × Stated (λ (_ : Unit {0}). renamed_stms l.copy.to.0 l.copy.from.0)
    (renamed_stms l.copy.to.0 l.copy.from.0 (stms_of l.fn.statements.items.items)) tt l.statements.items.items l.at

abbrev pub decreases-rename_value : goal.decreases-rename_value
decreases-rename_value l = l.height

abbrev pub decreases-rename_values : goal.decreases-rename_values
decreases-rename_values l = l.height

abbrev pub decreases-rename_test : goal.decreases-rename_test
decreases-rename_test l = l.height

abbrev pub decreases-rename : goal.decreases-rename
decreases-rename l = l.height

abbrev pub decreases-rename_all : goal.decreases-rename_all
decreases-rename_all l = l.height
