use Rattle.std.proofs.Common.{◌∙◌}
use Rattle.tg_tree.specs.glue.Lists.{code_of}
use Rattle.tg_tree.specs.glue.Plain.{plain_function}
use Rattle.tg_munch.proofs.Writing.{writes_then}
use Rattle.tg_munch.proofs.Whole.{whole}
use Rattle.tg_munch.proofs.munching.body.Goals as goal

pub returns-clause-list : goal.returns-clause-list
returns-clause-list c =
    (whole (plain_function c.args.frame.now (code_of c.args.code.now)) c.new-draft.result c.elements.new.draft
    c.new-draft.ensures.list c.new-draft.ensures.temp (c.new-draft.ensures.mark ∙ c.requires)
    (writes_then _ c.in_ok-keep.ensures (writes_then _ (rw c.as_slice.ensures at c.in_ok-parameters.ensures) c.in_ok-elements.ensures))).0

pub returns-clause-temps : goal.returns-clause-temps
returns-clause-temps c =
    (whole (plain_function c.args.frame.now (code_of c.args.code.now)) c.new-draft.result c.elements.new.draft
    c.new-draft.ensures.list c.new-draft.ensures.temp (c.new-draft.ensures.mark ∙ c.requires)
    (writes_then _ c.in_ok-keep.ensures (writes_then _ (rw c.as_slice.ensures at c.in_ok-parameters.ensures) c.in_ok-elements.ensures))).1
