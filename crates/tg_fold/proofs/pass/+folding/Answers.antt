use Rattle.std.proofs.Common.{refl, sym, ap, ◌∙◌, rules}
use Rattle.std.specs.Prelude.{None}
use Rattle.std.proofs.lemmas.List.{length-set}
use Rattle.tg_tree.specs.Tree as tree
use Rattle.tg_tree.specs.declared.trees.Stms.{Stms}
use Rattle.tg_tree.specs.declared.trees.Txs.{Txs}
use Rattle.tg_tree.specs.glue.Plain.{plain_tx, plain_ts}
use Rattle.tg_tree.specs.glue.Lists.{txs_of, stms_of}
use Rattle.tg_tree.proofs.ListLaws.{plain_tx-Call, plain_ts-Seq}
use Rattle.tg_fold.specs.glue.Views.{plain_copy}
use Rattle.tg_fold.specs.mirror.Folding.{folded_tx, folded_txs, folded, each_folded, passed_on}
use Rattle.tg_fold.proofs.Walks.{call_is, value_done, all_values, statement_done, all_statements, passed_one}
use Rattle.tg_fold.proofs.pass.+folding.Goals as goal

pub fold_statement-returns-in_ok-fold_each-in-Seq : goal.fold_statement-returns-in_ok-fold_each-in-Seq
fold_statement-returns-in_ok-fold_each-in-Seq t c =
    let from = c.replace-folded.ensures.value ∙ c.in-Seq.all-is in
    plain_ts-Seq c.fold_each.new.statements ∙ (ap tree.Seq
    (c.in_ok-fold_each-in-Seq.ensures ∙ ap (λ (ss : Stms). passed_on None (each_folded (stms_of ss.items.items))) from)
    ∙ sym (ap folded (ap plain_ts c.in-Seq.is ∙ plain_ts-Seq c.in-Seq.all)))

pub fold_value-returns-in_ok-fold_values-in-Call : goal.fold_value-returns-in_ok-fold_values-in-Call
fold_value-returns-in_ok-fold_values-in-Call t c =
    let from = c.replace-folded.ensures.value ∙ c.in-Call.xs-is in
    call_is _ c.in-Call.label c.fold_values.new.values c.in-Call.label-is
    (c.in_ok-fold_values-in-Call.ensures ∙ ap (λ (xs : Txs). folded_txs (txs_of xs.items.items)) from)
    ∙ sym (ap folded_tx (ap plain_tx c.in-Call.is ∙ plain_tx-Call c.in-Call.label c.in-Call.xs))

pub fold_values-loop-at-preserved : goal.fold_values-loop-at-preserved
fold_values-loop-at-preserved t c = (
  length-set _ _ _ ∙ c.loop-at.invariant.0,
  value_done folded_txs c.loop-at.values.items.items c.loop-at.at c.index_mut.result.now c.fold_value.new.value c.loop-at.invariant.1
      (search rules) c.index_mut.ensures.value (λ rest. ap (λ x. tree.tx x (folded_txs rest)) (sym c.in_ok-fold_value.ensures)),
)

pub fold_values-returns : goal.fold_values-returns
fold_values-returns t c =
    all_values folded_txs c.loop-at.values.items.items c.loop-at.at refl c.loop-at.invariant.1 (search rules)

pub fold_each-loop-at-preserved : goal.fold_each-loop-at-preserved
fold_each-loop-at-preserved t c =
    let one = c.index_mut-statement.result.now in
    let next = c.pass_on.new.statement in (
      length-set _ _ _ ∙ c.loop-at.invariant.0,
      statement_done (λ before ss. passed_on before (each_folded ss)) (plain_copy c.loop-at.before) (plain_copy c.copy-before.result)
          c.loop-at.statements.items.items c.loop-at.at one next c.loop-at.invariant.1 (search rules) c.index_mut-statement.ensures.value
          (passed_one (plain_copy c.loop-at.before) (plain_copy c.copy-before.result) (plain_ts one) (plain_ts c.fold_statement.new.statement) (plain_ts next) c.in_ok-fold_statement.ensures c.in_ok-pass_on.ensures c.copy-before.ensures),
    )

pub fold_each-returns : goal.fold_each-returns
fold_each-returns t c =
    all_statements (λ before ss. passed_on before (each_folded ss)) (plain_copy c.loop-at.before) c.loop-at.statements.items.items c.loop-at.at refl
    c.loop-at.invariant.1 (search rules)
