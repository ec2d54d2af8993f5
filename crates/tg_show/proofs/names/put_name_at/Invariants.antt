use Rattle.std.proofs.Common.{◌≡◌, length}
use Rattle.tg_show.specs.Names.{name_at}
use Rattle.tg_show.proofs.names.put_name_at.Given as goal

abbrev pub invariant-loop-at : goal.invariant-loop-at
invariant-loop-at l = record {
  count : length l.names.items ≡ l.at;
  same : name_at l.place l.name l.initial.names.items ≡ name_at l.place l.name l.names.items;
}
