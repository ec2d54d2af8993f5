use Rattle.tg_syntax.specs.declared.tokens.Word.TheVariants.{WArray}
use Rattle.tg_explain.specs.declared.kinds.TokenKind.TheVariants.{Word}
use Rattle.tg_explain.proofs.Runs.{kinds_more, kinds_end}
use Rattle.tg_explain.proofs.lines.put_kinds.Goals as goal

pub loop-kind-preserved : goal.loop-kind-preserved
loop-kind-preserved c =
    kinds_more c.args.kinds.now c.loop-kind.kind-index (Word WArray) c.loop-kind.line.items c.put.new.out.items c.put_kind.new.out.items _
    c.loop-kind-test.true c.loop-kind.invariant c.in_ok-put.ensures c.in_ok-put_kind.ensures

pub returns : goal.returns
returns c = kinds_end c.args.kinds.now c.loop-kind.kind-index c.loop-kind.line.items _ c.loop-kind-test.false c.loop-kind.invariant
