use Rattle.std.proofs.Common.{Bool, true, false, not, ◌≡◌, refl, sym, ◌∙◌}
use Rattle.tg_parser.proofs.Passings.{tail_passes, none_passes}
use Rattle.tg_parser.proofs.heads.is_over.Goals as goal

undone : (b : Bool) → not b ≡ true → b ≡ false
undone true h = cc
undone false h = refl

pub returns-then-ends_tail : goal.returns-then-ends_tail
returns-then-ends_tail c = λ _. tail_passes c.args.rank (sym c.ends_tail.ensures ∙ c.if-ends_tail.true)

pub returns-in-Ok : goal.returns-in-Ok
returns-in-Ok c = λ h. none_passes (sym c.ends_tail.ensures ∙ c.if-ends_tail.false) c.in-Ok.ensures.first (c.is_operator_within.ensures (undone _ h))
