use Rattle.std.proofs.Common.{◌≡◌, ◌≤◌, ◌++◌, length, map, reverse, take}
use Rattle.tg_symbols.specs.Links.{entries_of}
use Rattle.tg_symbols.proofs.TableLemmas.{pair}
use Rattle.tg_symbols.proofs.tables.Table.to_vec.Given as goal

abbrev pub invariant-loop-at : goal.invariant-loop-at
invariant-loop-at g l = record {
  low : l.at ≤ length l.self-inside.entries.items;
  whole : l.entries.items ++ map pair (reverse (take l.at l.self-inside.entries.items)) ≡ entries_of l.self-inside.entries.items;
}

abbrev pub decreases-loop-at : goal.decreases-loop-at
decreases-loop-at g l = l.at
