use Rattle.std.proofs.Common.{sym}
use Rattle.tg_lexer.proofs.EscapeSteps.{caret_ended, caret_control, caret_misfit}
use Rattle.tg_lexer.proofs.escapes.control.Goals as goal

pub returns-in_default : goal.returns-in_default
returns-in_default c = caret_ended _ c.requires c.in_default.ensures

pub returns-then-is_control_name : goal.returns-then-is_control_name
returns-then-is_control_name c = caret_control _ _ c.requires c.in-Some.ensures (sym c.if-is_control_name.ensures)

pub returns : goal.returns
returns c = caret_misfit _ _ _ c.requires c.in-Some.ensures (sym c.if-is_control_name.ensures) c.misfit.ensures
