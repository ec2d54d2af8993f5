use Rattle.std.proofs.Common.{true, cond, nat_eq, ap, ◌∙◌}
use Rattle.tg_redundancy.specs.mirror.Known.{has_way}
use Rattle.tg_redundancy.proofs.WaysBehind.{way_noted, no_way}
use Rattle.tg_redundancy.proofs.ways.note_way.Goals as goal

pub returns-in_ok-insert-in-Some : goal.returns-in_ok-insert-in-Some
returns-in_ok-insert-in-Some c = λ rest h m.
    c.in_ok-insert-in-Some.ensures.updates.0 m
    ∙ (ap (λ b. cond (nat_eq c.in-Some.mark m) true b) (h m)
    ∙ way_noted c.args.one.now c.in-Some.mark c.in-Some.ensures m (has_way m rest))

pub returns-in-None : goal.returns-in-None
returns-in-None c = λ rest h m. h m ∙ no_way c.args.one.now c.in-None.ensures m (has_way m rest)
