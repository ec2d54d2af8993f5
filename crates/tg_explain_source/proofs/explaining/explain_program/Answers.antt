use Rattle.std.proofs.Common.{List, ◌∙◌, ap}
use Rattle.std.proofs.lemmas.Result.{IfOk-weaker}
use Rattle.tg_explain_types.specs.declared.details.TypeDetail.{TypeDetail}
use Rattle.tg_explain_types.specs.Lines.{type_lines}
use Rattle.tg_explain_source.specs.Explained.{ill_typed, accepted}
use Rattle.tg_explain_source.proofs.FirstFaults.{names_within, begins_apart, is_source}
use Rattle.tg_explain_source.proofs.explaining.explain_program.Goals as goal

pub check-requires-clause-names : goal.check-requires-clause-names
check-requires-clause-names c = names_within _ _ c.requires.0 _ c.requires.1

pub check-requires-clause-apart : goal.check-requires-clause-apart
check-requires-clause-apart c = begins_apart _ _ c.requires.0 _ c.requires.1

pub returns-in-Ok : goal.returns-in-Ok
returns-in-Ok c = accepted (is_source _ _ c.requires.0 _ _ c.requires.1 c.in-Ok.ensures.ok) c.new.ensures.items

pub returns-in_ok-detail-in-Err-Bad : goal.returns-in_ok-detail-in-Err-Bad
returns-in_ok-detail-in-Err-Bad c =
    IfOk-weaker c.type_lines.result _ _
    (λ lines is. ill_typed c.requires.1 (rw c.in-Err-Bad.field-0-is at c.in-Err-Bad.ensures.err)
    (is ∙ ap (λ (d : TypeDetail). type_lines c.args.text.now c.in-Err-Bad.at d) c.in_ok-detail-in-Err-Bad.ensures)) c.type_lines.ensures
