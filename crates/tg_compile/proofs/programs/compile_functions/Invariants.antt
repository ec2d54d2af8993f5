use Rattle.std.proofs.Common.{◌≡◌}
use Rattle.std.specs.Prelude.{map}
use Rattle.tg_compile.specs.glue.Passes.{CompileApart, prepared_fragment}
use Rattle.tg_compile.proofs.programs.compile_functions.Given as goal

abbrev pub invariant-loop-one : goal.invariant-loop-one
invariant-loop-one g l = record {
  compile : CompileApart ((goal.SpillPolicy-dyn g l.fn.policy.now).rule l.fn.policy.now.1)
      (map (prepared_fragment l.passes) l.yielded) l.codes.items l.placements.items;
  same : (goal.SpillPolicy-dyn g l.policy.now).rule l.policy.now.1
      ≡ (goal.SpillPolicy-dyn g l.fn.policy.now).rule l.fn.policy.now.1;
}
