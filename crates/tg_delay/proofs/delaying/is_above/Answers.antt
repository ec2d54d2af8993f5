use Rattle.std.proofs.Common.{◌<◌, arith}
use Rattle.std.proofs.lemmas.Bool.Decides.{nat_tests}
use Rattle.std.proofs.lemmas.List.{at_drop_all}
use Rattle.tg_emit.specs.mirror.Lines.{words}
use Rattle.tg_delay.proofs.Walking.{words_more}
use Rattle.tg_delay.proofs.delaying.is_above.Goals as goal

pub returns-then-left-words : goal.returns-then-left-words
returns-then-left-words c =
    let e = words_more c.args.lines.now c.loop-line.line-index c.line-item.result c.loop-line-test.true c.line-item.is in
    let f = c.words_of-words.ensures in
    let g = c.loop-line.invariant in
    let above : c.args.most < words c.args.lines.now = omega arith in
    grind (arith, nat_tests)

pub loop-line-preserved : goal.loop-line-preserved
loop-line-preserved c =
    let e = words_more c.args.lines.now c.loop-line.line-index c.line-item.result c.loop-line-test.true c.line-item.is in
    let f = c.words_of-words.ensures in
    let g = c.loop-line.invariant in
    omega arith

pub returns : goal.returns
returns c =
    let e = at_drop_all words c.args.lines.now c.loop-line.line-index c.loop-line-test.false in
    let g = c.loop-line.invariant in
    grind (arith, nat_tests)
