use Rattle.tg_typecheck.proofs.Steps.{step, two_steps, given, fails_first, two_fail_first, two_fail_then, ended}
use Rattle.tg_typecheck.proofs.records.selected.Goals as goal

pub returns-in_err-place-clause-given : goal.returns-in_err-place-clause-given
returns-in_err-place-clause-given c = ended _ _ _ c.from_residual.ensures (two_fail_first _ _ _ _ c.in_err-place.ensures)

pub returns-in_err-note-clause-given : goal.returns-in_err-note-clause-given
returns-in_err-note-clause-given c =
    ended _ _ _ c.from_residual-in_err-note.ensures (two_fail_then _ _ _ _ c.in_ok-place.ensures (fails_first _ _ c.in_err-note.ensures.given))

pub returns-clause-given : goal.returns-clause-given
returns-clause-given c = two_steps _ _ _ _ c.in_ok-place.ensures (step _ _ c.in_ok-note.ensures.given given)
