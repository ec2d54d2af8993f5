use Rattle.std.proofs.Common.{◌+◌, ◌-◌, ◌/◌, length, sym, ap, ◌∙◌}
use Rattle.tg_typecheck.specs.Answered.{meaning_at}
use Rattle.tg_typecheck.proofs.NoteSteps.{middle_below, within, strictly, between_upper, between_lower, found, between_none}
use Rattle.tg_typecheck.proofs.checking.Notes.find.Goals as goal

pub returns-then-note-at : goal.returns-then-note-at
returns-then-note-at c =
    let notes = c.self.inside.notes.items in
    let middle = c.loop-low.low + (c.loop-low.high - c.loop-low.low) / 2 in
    let l = within middle c.loop-low.high (length notes) (middle_below c.loop-low.low c.loop-low.high c.loop-low-test.true) c.loop-low.invariant.fits in
    sym (found c.args.at notes middle c.index-note.result.now c.self.invariant l c.index-note.ensures c.if-note-at.true) ∙ ap
    (λ ns. meaning_at c.args.at ns) c.self.view_is

pub loop-low-preserved-then-note-at-2 : goal.loop-low-preserved-then-note-at-2
loop-low-preserved-then-note-at-2 c =
    let middle = c.loop-low.low + (c.loop-low.high - c.loop-low.low) / 2 in
    let l = middle_below c.loop-low.low c.loop-low.high c.loop-low-test.true in
    between_upper c.args.at c.self.inside.notes.items c.loop-low.low c.loop-low.high middle c.index-note.result.now c.self.invariant c.loop-low.invariant l
    c.index-note.ensures c.if-note-at-2.true

pub loop-low-preserved : goal.loop-low-preserved
loop-low-preserved c =
    let middle = c.loop-low.low + (c.loop-low.high - c.loop-low.low) / 2 in
    let l = middle_below c.loop-low.low c.loop-low.high c.loop-low-test.true in
    let b = strictly c.args.at c.index-note.result.now.at c.if-note-at.false c.if-note-at-2.false in
    between_lower c.args.at c.self.inside.notes.items c.loop-low.low c.loop-low.high middle c.index-note.result.now c.self.invariant c.loop-low.invariant l
    c.index-note.ensures b

pub returns : goal.returns
returns c =
    sym (between_none c.args.at c.self.inside.notes.items c.loop-low.low c.loop-low.high c.loop-low.invariant c.loop-low-test.false) ∙ ap
    (λ ns. meaning_at c.args.at ns) c.self.view_is
