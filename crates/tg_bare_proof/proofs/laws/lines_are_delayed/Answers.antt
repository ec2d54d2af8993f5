use Rattle.tg_bare_proof.proofs.Keeping.{lines_are_delayed}
use Rattle.tg_bare_proof.proofs.laws.lines_are_delayed.Goals as goal

pub returns : goal.returns
returns c =
    lines_are_delayed c.passes_compose.ensures c.delaying_keeps_runs.ensures c.delaying_keeps_calls.ensures
    c.slots_are_returns.ensures c.delayed_run_on_the_machine.ensures
