use Rattle.std.proofs.Common.{◌≡◌, max, drop}
use Rattle.tg_tree.specs.glue.Lists.{code_of}
use Rattle.tg_munch.specs.mirror.Bodies.{outs}
use Rattle.tg_munch.proofs.munching.out_words.Given as goal

abbrev pub invariant-loop-one : goal.invariant-loop-one
invariant-loop-one l = max l.most (outs (code_of (drop l.one-index l.code))) ≡ outs (code_of l.code)
