use Rattle.std.proofs.Common.{◌≡◌, ◌++◌, drop}
use Rattle.tg_syntax.specs.glue.Lists.{exps_of, inits_of, decs_of}
use Rattle.tg_variables.specs.Parts.{exps_parts, inits_parts, decs_parts}
use Rattle.tg_variables.proofs.parts.+parts.Given as goal

abbrev pub invariant-put_of_exps-loop-e : goal.invariant-put_of_exps-loop-e
invariant-put_of_exps-loop-e l =
    l.initial.found.items ++ exps_parts (exps_of l.e-items) ≡ l.found.items ++ exps_parts (exps_of (drop l.e-index l.e-items))

abbrev pub invariant-put_of_inits-loop-init : goal.invariant-put_of_inits-loop-init
invariant-put_of_inits-loop-init l =
    l.initial.found.items ++ inits_parts (inits_of l.init-items) ≡ l.found.items ++ inits_parts (inits_of (drop l.init-index l.init-items))

abbrev pub invariant-put_of_decs-loop-dec : goal.invariant-put_of_decs-loop-dec
invariant-put_of_decs-loop-dec l =
    l.initial.found.items ++ decs_parts (decs_of l.dec-items) ≡ l.found.items ++ decs_parts (decs_of (drop l.dec-index l.dec-items))
