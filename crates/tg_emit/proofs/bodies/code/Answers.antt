use Rattle.std.proofs.Common.{◌++◌, ap, ◌∙◌, subst}
use Rattle.std.proofs.lemmas.List.Elements.{All-more}
use Rattle.tg_emit.specs.Ranges.{InstructionFits}
use Rattle.tg_emit.specs.mirror.Lines.{instruction_lines}
use Rattle.tg_emit.proofs.Appending.{code_one_more}
use Rattle.tg_emit.proofs.bodies.code.Goals as goal

pub loop-place-preserved : goal.loop-place-preserved
loop-place-preserved c =
    let one = c.index-instructions-place.result in
    record {
      lines = code_one_more c.args.turned c.args.label.0 c.args.size c.loop-place.place c.args.instructions.now one c.loop-place-test.true
          c.args.list.now.items c.loop-place.list.items _ c.loop-place.invariant.lines
          (c.in_ok-instruction.ensures.lines ∙ ap (λ x. c.loop-place.list.items ++ instruction_lines c.args.turned c.args.label.0 c.args.size
          c.loop-place.place x) c.index-instructions-place.is);
      fits = All-more InstructionFits c.args.instructions.now c.loop-place.place one c.loop-place-test.true c.loop-place.invariant.fits
          (subst InstructionFits c.index-instructions-place.is (record {
            row = c.in_ok-instruction.ensures.row;
            numbers =
                c.in_ok-instruction.ensures.numbers;
          }));
    }
