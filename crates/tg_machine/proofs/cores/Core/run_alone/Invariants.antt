use Rattle.tg_machine_state.specs.State.{go}
use Rattle.tg_machine.specs.glue.Pauses.{RunsTo}
use Rattle.tg_machine.proofs.cores.Core.run_alone.Given as goal

-- the place of the core is that of the variable
abbrev pub invariant-loop-made : goal.invariant-loop-made
invariant-loop-made l = RunsTo l.made l.fn.self (go l.self l.place)
