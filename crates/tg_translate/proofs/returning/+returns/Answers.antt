use Rattle.std.proofs.Common.{ap, sym, ◌∙◌, subst, ◌<◌}
use Rattle.tg_tree.specs.Tree.{Seq}
use Rattle.tg_tree.specs.glue.Plain.{plain_ts}
use Rattle.tg_tree.proofs.ListLaws.{plain_ts-Seq}
use Rattle.tg_translate.specs.mirror.Returning.{returned_from}
use Rattle.tg_translate.proofs.Lasts.{replaced, added}
use Rattle.tg_translate.proofs.returning.+returns.Goals.{all_returned_from-in-Some+in_ok-last-in-Some, all_returned_from-in-None}
use Rattle.tg_translate.proofs.returning.+returns.Goals as goal

pub all_returned_from-returns : goal.all_returned_from-returns
all_returned_from-returns t c =
    elim c.match-pop.branch [
      | all_returned_from-in-Some+in_ok-last-in-Some w ↦
          replaced c.args.from.0 c.args.all.items c.pop.new.self.items c.push.new.self.items w.in-Some.last c.match-pop.last w.in-Some.ensures.items
          (ap plain_ts w.last-is ∙ w.in_ok-last-in-Some.ensures) c.in_ok-push.ensures.items
      | all_returned_from-in-None w ↦
          added c.args.from.0 c.args.all.items c.pop.new.self.items c.push.new.self.items c.match-pop.last w.in-None.ensures.items
          (λ l. w.in-None.ensures.variant.1 (subst (λ n. 0 < n) (sym c.args.all.ok.0) l)) (ap plain_ts w.last-is) c.in_ok-push.ensures.items
    ]

pub returned_from-returns-in_ok-all_returned_from-in-Seq :
    goal.returned_from-returns-in_ok-all_returned_from-in-Seq
returned_from-returns-in_ok-all_returned_from-in-Seq t c =
    c.sequence.ensures ∙ (ap Seq c.in_ok-all_returned_from-in-Seq.ensures
    ∙ sym (ap (returned_from c.args.from.0) (ap plain_ts c.in-Seq.is ∙ plain_ts-Seq c.in-Seq.all)))
