use Rattle.tg_bare_compile_proof.proofs.Meaning.{bare_agreement_is_meant}
use Rattle.tg_bare_compile_proof.proofs.laws.bare_image_agrees.Goals as goal

pub returns : goal.returns
returns c =
    bare_agreement_is_meant c.bare_runs_by_fuel.ensures.run c.bare_runs_by_fuel.ensures.work c.forms_agree.ensures
