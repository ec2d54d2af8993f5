use Rattle.std.proofs.Common.{refl}
use Rattle.tg_machine.proofs.Pausing.{step_is, step_goes}
use Rattle.tg_machine.proofs.cores.Core.step.Goals as goal

pub returns-in-Due : goal.returns-in-Due
returns-in-Due g c =
    let is = c.in-Due.ensures in
    rw (step_is _ _ _ _ is.1 is.2 is.3) c.service.ensures

pub returns-in-Ended : goal.returns-in-Ended
returns-in-Ended g c =
    let is = c.in-Ended.ensures in
    rw (step_is _ _ _ _ is.2 is.3 is.4) ((refl, is.5), refl, refl, refl, refl)

pub returns-in-Made : goal.returns-in-Made
returns-in-Made g c = rw (step_goes _ _ c.in-Made.ensures) (refl, refl, refl, refl, refl)
