use Rattle.std.proofs.Common.{◌≡◌, ◌+◌, drop}
use Rattle.tg_explain_types.proofs.Alike.{alike}
use Rattle.tg_explain_types.proofs.spelling.alike_length.Given as goal

abbrev pub invariant-loop-at : goal.invariant-loop-at
invariant-loop-at l = l.at + alike (drop l.at l.one) (drop l.at l.other) ≡ alike l.one l.other
