use Rattle.std.proofs.Common.{sym, ap, ◌∙◌}
use Rattle.tg_redundancy.specs.mirror.Facts.{forget_each}
use Rattle.tg_redundancy.proofs.Walking.{changes_by}
use Rattle.tg_redundancy.proofs.walks.change.Goals as goal

pub returns-in_default : goal.returns-in_default
returns-in_default c =
    c.forget_each.ensures
    ∙ (ap (λ operands. forget_each operands c.args.facts.now.items) (c.as_slice.ensures ∙ c.defs-defs.ensures)
    ∙ sym (changes_by c.args.one.now c.in_default.not-Move c.in_default.not-Sb c.in_default.not-Sw c.in_default.not-FrameStore
    c.in_default.not-Call c.in_default.not-Service c.args.facts.now.items))
