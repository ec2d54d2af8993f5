-- Where a break leads, as the code keeps it.
use Rattle.std.specs.Prelude.{ℕ}
use Rattle.tg_canon.specs.declared.breaks.Breaks.{Breaks, Body, Inside', Deeper'}
use Rattle.tg_canon.specs.mirror.Canon.{inside, deeper}

abbrev pub leads : Breaks → ℕ → ℕ
leads Body = λ k. k
leads (Inside' _ outer) = inside (leads outer)
leads (Deeper' n _ outer) = deeper n (leads outer)
