use Rattle.std.proofs.Common.{◌≡◌, take}
use Rattle.tg_interference.specs.Moves.{moves_of}
use Rattle.tg_interference.proofs.moves.moves_of.Given as goal

abbrev pub invariant-loop-one : goal.invariant-loop-one
invariant-loop-one l = l.moves.items ≡ moves_of (take l.one-index l.list)
