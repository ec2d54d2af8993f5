use Rattle.tg_translate_laws.specs.laws.Laws.{findings_in}
use Rattle.tg_stack_bounds.proofs.Light.{functions_are_light}
use Rattle.tg_stack_bounds.proofs.Tabled.{levels, accepted_leads}
use Rattle.tg_stack_bounds.proofs.laws.trees_are_light.Goals as goal

pub returns : goal.returns
returns c =
    λ p links a.
    functions_are_light c.translate_is_bounded.ensures.within (levels p a) (findings_in p links) p.body (accepted_leads p a links)
