use Rattle.std.proofs.Common.{◌≡◌, ◌-◌, length, drop}
use Rattle.tg_syntax.specs.glue.Lists.{exps_of}
use Rattle.tg_explain_typing.specs.Synthesis as synthesis
use Rattle.tg_explain_typing.proofs.synthesis.+synthesis.Given as goal

abbrev pub invariant-last_type-loop-e : goal.invariant-last_type-loop-e
invariant-last_type-loop-e l = record {
  count : l.left ≡ length l.e-items - l.e-index;
  last : synthesis.last_type l.text l.facts (exps_of (drop l.e-index l.e-items)) ≡ synthesis.last_type l.text l.facts (exps_of l.e-items);
}
