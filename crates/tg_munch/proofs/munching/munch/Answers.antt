use Rattle.tg_tree.specs.glue.Lists.{code_of}
use Rattle.tg_munch.proofs.Keeping.{keeps}
use Rattle.tg_munch.proofs.munching.munch.Goals as goal

pub finish-requires-clause-marks_differ : goal.finish-requires-clause-marks_differ
finish-requires-clause-marks_differ c =
    (keeps c.args.frame.now (code_of c.args.code.now) _ _ c.requires.marked c.requires.drawn c.in_ok-draft.ensures.list
    c.in_ok-draft.ensures.temps).marks_differ

pub finish-requires-clause-marks_stand : goal.finish-requires-clause-marks_stand
finish-requires-clause-marks_stand c =
    (keeps c.args.frame.now (code_of c.args.code.now) _ _ c.requires.marked c.requires.drawn c.in_ok-draft.ensures.list c.in_ok-draft.ensures.temps).marks_stand

pub finish-requires-clause-temps_below : goal.finish-requires-clause-temps_below
finish-requires-clause-temps_below c =
    (keeps c.args.frame.now (code_of c.args.code.now) _ _ c.requires.marked c.requires.drawn c.in_ok-draft.ensures.list c.in_ok-draft.ensures.temps).temps_below

pub finish-requires-clause-ends_well : goal.finish-requires-clause-ends_well
finish-requires-clause-ends_well c =
    (keeps c.args.frame.now (code_of c.args.code.now) _ _ c.requires.marked c.requires.drawn c.in_ok-draft.ensures.list c.in_ok-draft.ensures.temps).ends_well
