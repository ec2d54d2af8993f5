use Rattle.std.proofs.Common.{◌≡◌, ◌++◌, drop}
use Rattle.tg_explain_types.specs.TypeTexts.{more_fields}
use Rattle.tg_explain_types.proofs.type_texts.put_more_fields.Given as goal

abbrev pub invariant-loop-field : goal.invariant-loop-field
invariant-loop-field l = l.line.items ++ more_fields l.text (drop l.field-index l.fields) ≡ l.initial.line.items ++ more_fields l.text l.fields
