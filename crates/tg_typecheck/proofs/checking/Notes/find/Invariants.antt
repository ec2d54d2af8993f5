use Rattle.std.proofs.Common.{◌-◌}
use Rattle.tg_typecheck.proofs.NoteSteps.{Between}
use Rattle.tg_typecheck.proofs.checking.Notes.find.Given as goal

abbrev pub invariant-loop-low : goal.invariant-loop-low
invariant-loop-low l = Between l.at l.self-inside.notes.items l.low l.high

abbrev pub decreases-loop-low : goal.decreases-loop-low
decreases-loop-low l = l.high - l.low
