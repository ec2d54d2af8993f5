use Rattle.std.proofs.Common.{refl, ap, ◌∙◌}
use Rattle.std.specs.Prelude.{slice_index, reverse}
use Rattle.tg_tree.specs.glue.Lists.{stms_of}
use Rattle.tg_trace_schedule.specs.glue.Plains.{plain_cut, plain_end}
use Rattle.tg_trace_schedule.specs.mirror.Cutting as cutting
use Rattle.tg_trace_schedule.proofs.Rests.{enter_front}
use Rattle.tg_trace_schedule.proofs.placing.enter.Goals as goal

pub returns-in-Some-clause-laid : goal.returns-in-Some-clause-laid
returns-in-Some-clause-laid c =
    let cut = c.args.cut.now in
    enter_front cut.laid.items c.truncate.new.self.items (plain_cut cut) c.in-Some.mark c.standing-place.result _
    (c.in-Some.ensures ∙ ap (λ xs. cutting.leads (stms_of (reverse xs)) (plain_end cut.end)) c.deref.ensures.value)
    refl (c.standing-place.ensures ∙ ap (λ ps. slice_index ps c.in-Some.mark) c.deref-in-Some.ensures.value) c.truncate.ensures.items
