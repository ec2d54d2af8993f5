use Rattle.std.proofs.Common.{◌+◌, ◌<◌, arith}
use Rattle.std.proofs.lemmas.Bool.Decides.{nat_tests}
use Rattle.tg_emit.specs.mirror.Lines.{words}
use Rattle.tg_emit.proofs.Appending.{words_at, words_below}
use Rattle.tg_emit.proofs.emitting.is_above.Goals as goal

pub returns-then-left-words : goal.returns-then-left-words
returns-then-left-words c =
    let e = words_at c.args.list.now c.loop-line.line-index c.line-item.result c.loop-line-test.true c.line-item.is in
    let f = words_below c.args.list.now (c.loop-line.line-index + 1) in
    let g = c.words_of-words.ensures in
    let h = c.loop-line.invariant in
    let k : c.args.most < words c.args.list.now = omega arith in
    grind (arith, nat_tests)

pub loop-line-preserved : goal.loop-line-preserved
loop-line-preserved c =
    let e = words_at c.args.list.now c.loop-line.line-index c.line-item.result c.loop-line-test.true c.line-item.is in
    let g = c.words_of-words.ensures in
    let h = c.loop-line.invariant in
    omega arith
