use Rattle.std.proofs.Common.{◌≡◌, ◌++◌, drop, map}
use Rattle.tg_syntax.specs.glue.Plain.{plain_type}
use Rattle.tg_typecheck.specs.glue.Declaring.{links_in}
use Rattle.tg_typecheck.proofs.chains.links_of.Given as goal

abbrev pub invariant-loop-at : goal.invariant-loop-at
invariant-loop-at l =
    l.links.items ++ links_in (map plain_type l.group) l.at (drop l.at (map plain_type l.group)) ≡ links_in (map plain_type l.group) 0
    (map plain_type l.group)
