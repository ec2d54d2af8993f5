use Rattle.std.proofs.Common.{◌≡◌, ◌++◌, drop}
use Rattle.tg_show.specs.Live.{signed}
use Rattle.tg_show.proofs.liveness.put_signed.Given as goal

abbrev pub invariant-loop-one : goal.invariant-loop-one
invariant-loop-one l =
    l.initial.text.items ++ signed l.names l.sign l.list ≡ l.text.items ++ signed l.names l.sign (drop l.one-index l.list)
