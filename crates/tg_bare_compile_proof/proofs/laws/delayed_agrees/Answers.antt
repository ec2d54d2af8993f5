use Rattle.tg_bare_compile_proof.proofs.Composing as composing
use Rattle.tg_bare_compile_proof.proofs.laws.delayed_agrees.Goals as goal

pub returns : goal.returns
returns c =
    composing.delayed_agrees c.compiled_may_run.ensures.run c.flatten_is_correct.ensures c.emission_keeps_runs.ensures
    c.trees_run.ensures.over c.lines_stay_over.ensures c.passes_agree.ensures c.choice_is_kept.ensures
    c.allocation_is_kept.ensures c.emitted_may_be_delayed.ensures.may c.delaying_keeps_calls.ensures
    c.slots_are_returns.ensures c.delayed_lines_agree.ensures
