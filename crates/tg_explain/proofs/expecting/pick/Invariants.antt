use Rattle.std.proofs.Common.{◌≡◌, take}
use Rattle.tg_explain.specs.Expected.{ArePicked}
use Rattle.tg_explain.proofs.expecting.pick.Given as goal

abbrev pub invariant-loop-kind : goal.invariant-loop-kind
invariant-loop-kind l = record {
  picked : ArePicked l.initial.before.items (take l.kind-index l.table) l.kinds.items;
  same : l.before.items ≡ l.initial.before.items;
}
