use Rattle.std.proofs.lemmas.Result.{err_from_is_err_and}
use Rattle.tg_asm.specs.Images.{made_of}
use Rattle.tg_asm.specs.glue.Layouts.{layout_of}
use Rattle.tg_asm.proofs.Ends.{few_words, few_bytes, second_over, whole, no_main}
use Rattle.tg_asm.proofs.assembling.assemble.Goals as goal

pub returns-in-Some-clause-code : goal.returns-in-Some-clause-code
returns-in-Some-clause-code c = rw c.from_vec.ensures (few_words c.args.text.now (layout_of c.in_ok-layout.layout)
    (made_of c.in_ok-made.made) c.in_ok-layout.ensures.laid_out c.in_ok-made.ensures c.in_ok-layout.ensures.small)

pub returns-in-Some-clause-statics : goal.returns-in-Some-clause-statics
returns-in-Some-clause-statics c = rw c.from_vec-in-Some.ensures (few_bytes c.args.text.now (layout_of c.in_ok-layout.layout)
    (made_of c.in_ok-made.made) c.in_ok-layout.ensures.laid_out c.in_ok-made.ensures c.in_ok-layout.ensures.small)

pub returns-in_err-made-clause-image : goal.returns-in_err-made-clause-image
returns-in_err-made-clause-image c =
    let p = err_from_is_err_and c.from_residual-in_err-made.result c.from_residual-in_err-made.ensures.1 in
    rw (p.1, p.2) (second_over c.args.text.now (layout_of c.in_ok-layout.layout) _ c.in_ok-layout.ensures.laid_out c.in_err-made.ensures)

pub returns-in-Some-clause-image : goal.returns-in-Some-clause-image
returns-in-Some-clause-image c = rw (c.from_vec.ensures, c.from_vec-in-Some.ensures) (whole c.args.text.now (layout_of c.in_ok-layout.layout)
    (made_of c.in_ok-made.made) c.in-Some.entry c.in_ok-layout.ensures.laid_out c.in_ok-made.ensures c.in-Some.ensures)

pub returns-clause-image : goal.returns-clause-image
returns-clause-image c = no_main c.args.text.now (layout_of c.in_ok-layout.layout) (made_of c.in_ok-made.made) c.last_line.result
    c.in_ok-layout.ensures.laid_out c.in_ok-made.ensures c.in-None.ensures c.last_line.ensures
