use Rattle.std.proofs.Common.{◌++◌, ap, ◌∙◌, subst}
use Rattle.std.proofs.lemmas.List.Elements.{All-more}
use Rattle.tg_emit.specs.Ranges.{LiteralFits}
use Rattle.tg_emit.specs.mirror.Lines.{literals_lines, literal_lines}
use Rattle.tg_emit.proofs.Appending.{one_more, literals_more}
use Rattle.tg_emit.proofs.emitting.put_literals.Goals as goal

pub loop-one-preserved : goal.loop-one-preserved
loop-one-preserved c = record {
  lines = one_more literals_lines literal_lines literals_more c.args.literals.now c.loop-one.one-index c.one-item.result c.loop-one-test.true
      c.args.list.now.items c.loop-one.list.items _ c.loop-one.invariant.lines (c.in_ok-put_literal.ensures.lines ∙ ap
      (λ l. c.loop-one.list.items ++ literal_lines l) c.one-item.is);
  fits = All-more LiteralFits c.args.literals.now c.loop-one.one-index c.one-item.result c.loop-one-test.true c.loop-one.invariant.fits
      (subst LiteralFits c.one-item.is c.in_ok-put_literal.ensures.fits);
}
