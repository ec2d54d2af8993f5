use Rattle.std.proofs.Common.{sym, ap, ◌∙◌}
use Rattle.tg_machine.specs.Fetches.{seen_of}
use Rattle.tg_bare.proofs.RowWays.{seen_fetch, unseen_fetch}
use Rattle.tg_bare.proofs.advancing.bad_in_slot.Goals as goal

pub returns-in-Some : goal.returns-in-Some
returns-in-Some c = λ i f.
    c.bad_word.ensures i (seen_fetch c.args.core.now c.args.place c.in-Some.seen i (ap seen_of (sym c.go.ensures) ∙ sym c.in-Some.ensures) f)

pub returns-in-None : goal.returns-in-None
returns-in-None c = λ i f. absurd (unseen_fetch c.args.core.now c.args.place i (ap seen_of (sym c.go.ensures) ∙ sym c.in-None.ensures) f)
