use Rattle.std.proofs.Common.{◌<◌, length, sym, ap, ◌∙◌, arith}
use Rattle.tg_live.specs.Live.{Sets, set_at}
use Rattle.tg_live.specs.glue.Tables.{row}
use Rattle.tg_live.specs.glue.LiveChanges.{all_put_in_order, set_without_all, set_before}
use Rattle.tg_live.proofs.Changing.{length-sets_of, set_of_changes, before_of_changes}
use Rattle.tg_live.proofs.sets.LiveSets.advance.Goals as goal

pub returns : goal.returns
returns c =
    let comes = c.self.inside.changes.comes in
    let goes = c.self.inside.changes.goes in
    let at = c.args.at in
    let v = c.self.view_is in
    let size = sym (ap (λ (s : Sets). length s) v) ∙ length-sets_of comes goes in
    let l : at < length comes = omega (arith, size, c.requires.at) in
    let before = c.requires.before
    ∙ (sym (ap (λ (s : Sets). set_before s at) v) ∙ before_of_changes comes goes at l) in
    let left = c.set_without_all.ensures
    ∙ (ap (λ gone. set_without_all gone c.args.set.now.items) c.goes.ensures
    ∙ ap (set_without_all (row goes at)) before) in
    c.in_ok-all_put_in_order.ensures
    ∙ (ap (λ new. all_put_in_order new c.set_without_all.new.set.items) c.comes.ensures
    ∙ (ap (all_put_in_order (row comes at)) left
    ∙ (sym (set_of_changes comes goes at l) ∙ ap (λ (s : Sets). set_at s at) v)))
