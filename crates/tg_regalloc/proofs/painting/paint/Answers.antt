use Rattle.std.proofs.Common.{◌++◌, length, take, get_or, ap, sym, ◌∙◌}
use Rattle.std.proofs.lemmas.List.{take_more}
use Rattle.tg_instr.proofs.Tests.{all_at}
use Rattle.tg_instr.specs.Codes.{has_temps_below}
use Rattle.tg_regalloc.specs.Painting.{code_painted, colour_in}
use Rattle.tg_regalloc.proofs.Painted.{unless_idle, painted_more}
use Rattle.tg_regalloc.proofs.painting.paint.Goals as goal

pub loop-one-preserved : goal.loop-one-preserved
loop-one-preserved c =
    let list = c.args.code.now in
    let colour = colour_in c.args.colours.now in
    let front = take c.loop-one.one-index list in
    let one = get_or list c.loop-one.one-index c.one-item.result in
    c.in_ok-put_painted.ensures ∙ (ap (λ l. l ++ unless_idle colour c.one-item.result) c.loop-one.invariant
    ∙ (ap (λ x. code_painted colour front ++ unless_idle colour x) c.one-item.is
    ∙ (sym (painted_more colour front one) ∙ ap (code_painted colour) (sym (take_more list c.loop-one.one-index c.one-item.result c.loop-one-test.true)))))

pub put_painted-requires : goal.put_painted-requires
put_painted-requires c = rw c.one-item.is (all_at (has_temps_below (length c.args.colours.now)) c.args.code.now
    c.loop-one.one-index c.one-item.result c.loop-one-test.true c.requires)
