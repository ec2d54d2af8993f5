use Rattle.tg_bare_proof.proofs.Agreeing.{delayed_lines_agree}
use Rattle.tg_bare_proof.proofs.laws.delayed_lines_agree.Goals as goal

pub returns : goal.returns
returns c =
    delayed_lines_agree c.agreement_goes_on.ensures.agrees c.agreement_goes_on.ensures.full c.bare_runs_by_fuel.ensures.over
    c.lines_keep_on_the_machine.ensures
