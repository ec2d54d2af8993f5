use Rattle.std.proofs.Common.{◌≡◌, drop}
use Rattle.tg_typecheck.specs.glue.Declaring.{named_types}
use Rattle.tg_typecheck.specs.glue.States.{noted_of}
use Rattle.tg_typecheck.proofs.groups.open_types.Given as goal

abbrev pub invariant-loop-dec : goal.invariant-loop-dec
invariant-loop-dec l = record {
  at_index : l.at ≡ l.dec-index;
  onward : named_types l.group l.types l.initial.state.types ≡ named_types (drop l.dec-index l.group) (drop l.dec-index l.types) l.state.types;
  bindings : l.state.bindings ≡ l.initial.state.bindings;
  noted : noted_of l.state ≡ noted_of l.initial.state;
}
