use Rattle.std.proofs.Common.{length, ◌-◌}
use Rattle.tg_asm.specs.glue.Classes.{in_class}
use Rattle.tg_asm.proofs.Splits.{Split}
use Rattle.tg_asm.proofs.bytes.split.Given as goal

abbrev pub invariant-loop-at : goal.invariant-loop-at
invariant-loop-at l = Split (in_class l.class) l.text l.at

abbrev pub decreases-loop-at : goal.decreases-loop-at
decreases-loop-at l = length l.text - l.at
