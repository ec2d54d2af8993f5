use Rattle.std.proofs.Common.{◌≡◌, take}
use Rattle.tg_coalescing_round.specs.glue.Lists.{set_at_all}
use Rattle.tg_coalescing_round.proofs.classes.relabel.Given as goal

abbrev pub invariant-loop-member : goal.invariant-loop-member
invariant-loop-member l = l.aliases ≡ set_at_all l.alias (take l.member-index l.members) l.fn.aliases
