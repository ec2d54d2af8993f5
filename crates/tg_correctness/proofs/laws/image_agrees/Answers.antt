use Rattle.tg_correctness.proofs.Meaning.{agreement_is_meant}
use Rattle.tg_correctness.proofs.laws.image_agrees.Goals as goal

pub returns : goal.returns
returns c =
    agreement_is_meant c.machine_runs_by_fuel.ensures.run c.machine_runs_by_fuel.ensures.work c.forms_agree.ensures
