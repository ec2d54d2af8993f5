use Rattle.tg_munch.specs.mirror.Bodies.{kept}
use Rattle.tg_munch.proofs.Walking.{Leads}
use Rattle.tg_munch.proofs.bodies.keep.Given as goal

abbrev pub invariant-loop-register : goal.invariant-loop-register
invariant-loop-register l = Leads (λ i rs. kept rs) l.registers 0 l.register-index l.register-index l.fn.draft l.draft
