use Rattle.std.specs.Prelude.{⊤}
use Rattle.tg_asm.proofs.labels.Labels.find_behind.Given as goal

abbrev pub invariant-loop-entry : goal.invariant-loop-entry
invariant-loop-entry l = ⊤
