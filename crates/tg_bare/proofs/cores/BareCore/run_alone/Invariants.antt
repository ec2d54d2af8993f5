use Rattle.tg_bare.specs.glue.Inside.{machine_at, machine_of}
use Rattle.tg_bare.specs.glue.Pauses.{BareRunsTo}
use Rattle.tg_bare.proofs.cores.BareCore.run_alone.Given as goal

-- the places are those of the variable
abbrev pub invariant-loop-made : goal.invariant-loop-made
invariant-loop-made l = BareRunsTo l.made (machine_of l.fn.self) (machine_at l.self.core l.at)
