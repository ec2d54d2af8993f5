use Rattle.std.proofs.Common.{take, ◌≡◌}
use Rattle.tg_regalloc.specs.Painting.{code_painted, colour_in}
use Rattle.tg_regalloc.proofs.painting.paint.Given as goal

abbrev pub invariant-loop-one : goal.invariant-loop-one
invariant-loop-one l = l.list.items ≡ code_painted (colour_in l.colours) (take l.one-index l.code)
