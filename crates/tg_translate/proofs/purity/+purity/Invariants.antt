use Rattle.std.proofs.Common.{◌≡◌, ◌&&◌, drop}
use Rattle.tg_syntax.specs.glue.Lists.{exps_of, inits_of}
use Rattle.tg_translate.specs.mirror.Purity.{all_assign_nothing, inits_assign_nothing}
use Rattle.tg_translate.proofs.purity.+purity.Given as goal

abbrev pub invariant-all_assign_nothing-loop-e : goal.invariant-all_assign_nothing-loop-e
invariant-all_assign_nothing-loop-e l = all_assign_nothing (exps_of l.e-items) ≡ (l.all && all_assign_nothing (exps_of (drop l.e-index l.e-items)))

abbrev pub invariant-inits_assign_nothing-loop-init : goal.invariant-inits_assign_nothing-loop-init
invariant-inits_assign_nothing-loop-init l =
    inits_assign_nothing (inits_of l.init-items) ≡ (l.all && inits_assign_nothing (inits_of (drop l.init-index l.init-items)))
