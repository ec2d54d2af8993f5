use Rattle.std.proofs.Common.{◌≡◌, ◌++◌, drop}
use Rattle.tg_regalloc_report.specs.Listing.{step_lines}
use Rattle.tg_regalloc_report.proofs.steps.put_steps.Given as goal

abbrev pub invariant-loop-step : goal.invariant-loop-step
invariant-loop-step l =
    l.initial.text.items ++ step_lines l.moves l.steps ≡ l.text.items ++ step_lines l.moves (drop l.step-index l.steps)
