use Rattle.std.proofs.Common.{◌≡◌, length}
use Rattle.tg_explain_typing.specs.Lookups as lookups
use Rattle.tg_explain_typing.proofs.lookups.named_type.Given as goal

abbrev pub invariant-loop-most : goal.invariant-loop-most
invariant-loop-most l = lookups.followed l.text l.facts l.most l.name ≡ lookups.followed l.text l.facts (length l.facts) l.fn.x

abbrev pub decreases-loop-most : goal.decreases-loop-most
decreases-loop-most l = l.most
