use Rattle.std.proofs.Common.{◌≡◌, max, drop}
use Rattle.tg_tree.specs.glue.Lists.{code_of}
use Rattle.tg_munch.specs.mirror.Bodies.{mark_above}
use Rattle.tg_munch.proofs.munching.mark_above.Given as goal

abbrev pub invariant-loop-one : goal.invariant-loop-one
invariant-loop-one l = max l.above (mark_above (code_of (drop l.one-index l.code))) ≡ mark_above (code_of l.code)
