use Rattle.tg_compile_proof.proofs.Composing.{compiled_agrees}
use Rattle.tg_compile_proof.proofs.laws.compiled_agrees.Goals as goal

pub returns : goal.returns
returns c =
    compiled_agrees c.compiled_may_run.ensures.run c.flatten_is_correct.ensures c.emit_is_correct.ensures
    c.trees_run.ensures.over c.machine_runs_by_fuel.ensures.over c.passes_agree.ensures
    c.choice_is_kept.ensures c.allocation_is_kept.ensures
