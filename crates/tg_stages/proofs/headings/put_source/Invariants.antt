use Rattle.std.proofs.Common.{◌≡◌, ◌++◌, drop}
use Rattle.std.specs.Prelude.{map}
use Rattle.tg_stages.specs.Headings.{heading_of}
use Rattle.tg_stages.proofs.headings.put_source.Given as goal

abbrev pub invariant-loop-at : goal.invariant-loop-at
invariant-loop-at l =
    l.initial.all.items ++ map (heading_of l.text l.names) l.found ≡ l.all.items ++ map (heading_of l.text l.names) (drop l.at l.found)
