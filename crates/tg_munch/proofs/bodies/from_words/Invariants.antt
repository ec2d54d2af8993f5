use Rattle.std.proofs.Common.{◌+◌}
use Rattle.tg_munch.specs.mirror.Bodies.{from_words}
use Rattle.tg_munch.proofs.Walking.{Leads}
use Rattle.tg_munch.proofs.bodies.from_words.Given as goal

abbrev pub invariant-loop-k : goal.invariant-loop-k
invariant-loop-k l = Leads (from_words l.above) l.homes l.first (l.first + l.k) l.k l.fn.draft l.draft
