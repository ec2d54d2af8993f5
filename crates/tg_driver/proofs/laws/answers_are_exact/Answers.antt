use Rattle.tg_driver.proofs.ExactRuns.{FaultlessRun, exact_alike}
use Rattle.tg_driver.proofs.ModesOnce.{exec_once, executed_faultless}
use Rattle.tg_driver.proofs.laws.answers_are_exact.Goals as goal

pub returns : goal.returns
returns g c = λ s t reporters others reports told asked text bytes a b first second f h p q. exec_once (FaultlessRun s asked.flags.bare)
    (FaultlessRun t asked.flags.bare) asked text a b (λ image d e r u. exact_alike s t asked.flags.bare bytes image asked.heap asked.stack asked.steps d e first second r.0 r.1 u.0 u.1)
    (executed_faultless s asked.flags.bare reporters reports asked text a f p)
    (executed_faultless t asked.flags.bare others told asked text b h q)
