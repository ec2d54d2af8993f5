use Rattle.std.proofs.Common.{◌++◌, [], ap, ◌∙◌, subst}
use Rattle.std.proofs.lemmas.List.Elements.{All-more}
use Rattle.tg_emit.specs.Ranges.{FunctionFits}
use Rattle.tg_emit.specs.mirror.Lines.{functions_lines, function_lines}
use Rattle.tg_emit.proofs.Appending.{one_more, functions_more}
use Rattle.tg_emit.proofs.emitting.bodies.Goals as goal

pub loop-one-preserved : goal.loop-one-preserved
loop-one-preserved c = record {
  lines = one_more (functions_lines c.args.turned) (function_lines c.args.turned) (functions_more c.args.turned) c.args.functions.now c.loop-one.one-index
      c.one-item.result c.loop-one-test.true [] c.loop-one.list.items _ c.loop-one.invariant.lines
      (c.in_ok-function.ensures.lines ∙ ap (λ f. c.loop-one.list.items ++ function_lines c.args.turned f) c.one-item.is);
  fits = All-more FunctionFits c.args.functions.now c.loop-one.one-index c.one-item.result c.loop-one-test.true c.loop-one.invariant.fits
      (subst FunctionFits c.one-item.is c.in_ok-function.ensures.fits);
}
