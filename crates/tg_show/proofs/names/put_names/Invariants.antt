use Rattle.std.proofs.Common.{◌≡◌, drop}
use Rattle.tg_show.specs.Names.{names_from}
use Rattle.tg_show.proofs.names.put_names.Given as goal

abbrev pub invariant-loop-one : goal.invariant-loop-one
invariant-loop-one l =
    names_from l.list l.initial.names.items ≡ names_from (drop l.one-index l.list) l.names.items
