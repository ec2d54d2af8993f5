use Rattle.std.proofs.Common.{◌++◌, sym, ◌∙◌, append-nil}
use Rattle.std.proofs.lemmas.List.{at_drop_all}
use Rattle.tg_delay.specs.Filling.{filled}
use Rattle.tg_delay.proofs.filling.fill.Goals as goal

pub returns : goal.returns
returns c =
    sym (append-nil c.loop-at.list.items)
    ∙ (sym (at_drop_all (λ l. c.loop-at.list.items ++ filled l) c.args.lines.now c.loop-at.at c.loop-at-test.false)
    ∙ c.loop-at.invariant.lines)
