use Rattle.std.proofs.Common.{refl, sym, ap, ◌∙◌, rules}
use Rattle.std.proofs.lemmas.List.{length-set}
use Rattle.tg_tree.specs.Tree as tree
use Rattle.tg_tree.specs.declared.trees.Stms.{Stms}
use Rattle.tg_tree.specs.declared.trees.Txs.{Txs}
use Rattle.tg_tree.specs.glue.Plain.{plain_tx, plain_ts}
use Rattle.tg_tree.specs.glue.Lists.{txs_of, stms_of}
use Rattle.tg_tree.proofs.ListLaws.{plain_tx-Call, plain_ts-Seq}
use Rattle.tg_fold.specs.Copies.{renamed, renamed_tx, renamed_txs, renamed_stms}
use Rattle.tg_fold.proofs.Walks.{call_is, value_done, all_values, statement_done, all_statements}
use Rattle.tg_fold.proofs.renaming.+renaming.Goals as goal

pub rename-returns-in_ok-rename_all-in-Seq : goal.rename-returns-in_ok-rename_all-in-Seq
rename-returns-in_ok-rename_all-in-Seq t c =
    let f = renamed_stms c.args.copy.to.0 c.args.copy.from.0 in
    let from = c.replace-renamed.ensures.value ∙ c.in-Seq.all-is in
    plain_ts-Seq c.rename_all.new.statements ∙ (ap tree.Seq (c.in_ok-rename_all-in-Seq.ensures ∙ ap (λ (ss : Stms). f (stms_of ss.items.items)) from)
    ∙ sym (ap (renamed c.args.copy.to.0 c.args.copy.from.0) (ap plain_ts c.in-Seq.is ∙ plain_ts-Seq c.in-Seq.all)))

pub rename_value-returns-in_ok-rename_values-in-Call : goal.rename_value-returns-in_ok-rename_values-in-Call
rename_value-returns-in_ok-rename_values-in-Call t c =
    let f = renamed_txs c.args.copy.to.0 c.args.copy.from.0 in
    let from = c.replace-renamed.ensures.value ∙ c.in-Call.xs-is in
    call_is _ c.in-Call.label c.rename_values.new.values c.in-Call.label-is
    (c.in_ok-rename_values-in-Call.ensures ∙ ap (λ (xs : Txs). f (txs_of xs.items.items)) from)
    ∙ sym (ap (renamed_tx c.args.copy.to.0 c.args.copy.from.0) (ap plain_tx c.in-Call.is ∙ plain_tx-Call c.in-Call.label c.in-Call.xs))

pub rename_values-loop-at-preserved : goal.rename_values-loop-at-preserved
rename_values-loop-at-preserved t c =
    let f = renamed_txs c.args.copy.to.0 c.args.copy.from.0 in (
      length-set _ _ _ ∙ c.loop-at.invariant.0,
      value_done f c.loop-at.values.items.items c.loop-at.at c.index_mut.result.now c.rename_value.new.value c.loop-at.invariant.1
          (search rules) c.index_mut.ensures.value (λ rest. ap (λ x. tree.tx x (f rest)) (sym c.in_ok-rename_value.ensures)),
    )

pub rename_values-returns : goal.rename_values-returns
rename_values-returns t c =
    all_values (renamed_txs c.args.copy.to.0 c.args.copy.from.0) c.loop-at.values.items.items c.loop-at.at refl c.loop-at.invariant.1 (search rules)

pub rename_all-loop-at-preserved : goal.rename_all-loop-at-preserved
rename_all-loop-at-preserved t c =
    let f = renamed_stms c.args.copy.to.0 c.args.copy.from.0 in (
      length-set _ _ _ ∙ c.loop-at.invariant.0,
      statement_done (λ (_ : Unit {0}). f) tt tt c.loop-at.statements.items.items c.loop-at.at c.index_mut.result.now c.rename.new.statement c.loop-at.invariant.1
          (search rules) c.index_mut.ensures.value (λ rest. ap (λ s. tree.stm s (f rest)) (sym c.in_ok-rename.ensures)),
    )

pub rename_all-returns : goal.rename_all-returns
rename_all-returns t c =
    all_statements (λ (_ : Unit {0}). renamed_stms c.args.copy.to.0 c.args.copy.from.0) tt c.loop-at.statements.items.items c.loop-at.at refl
    c.loop-at.invariant.1 (search rules)
