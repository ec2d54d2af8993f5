use Rattle.std.proofs.Common.{◌≡◌, ap, ◌∙◌}
use Rattle.std.specs.List.{insert}
use Rattle.tg_live.specs.glue.LiveChanges.{lower_count}
use Rattle.tg_live.proofs.Changing.{insert_in_order}
use Rattle.tg_live.proofs.rising.put_in_order.Goals as goal

pub returns : goal.returns
returns c =
    let set = c.args.set.now.items in
    let x = c.args.one.now in
    let place : c.lower_count-at.result ≡ lower_count x set =
    c.lower_count-at.ensures.value ∙ ap (lower_count x) c.as_slice.ensures.value in
    c.in_ok-insert.ensures.items ∙ (ap (λ k. insert set k x) place ∙ insert_in_order x set)
