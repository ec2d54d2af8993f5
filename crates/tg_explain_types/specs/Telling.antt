-- What a fault of types is about, by the facts of its program.
use Rattle.std.specs.Prelude.{ℕ, List, [], Option, Some, None}
use Rattle.tg_syntax.specs.declared.tokens.Ident.{Ident}
use Rattle.tg_typecheck.specs.declared.faults.TypeRule.{TypeRule}
use Rattle.tg_typecheck.specs.declared.faults.TypeRule.TheVariants.{T6, T7, T8, T9, T11, T12, T13}
use Rattle.tg_typecheck.specs.declared.faults.TypeRule.TheVariants.{T14, T16, T17, T18}
use Rattle.tg_explain_typing.specs.declared.types.Ty.{Ty}
use Rattle.tg_explain_typing.specs.declared.types.Ty.TheVariants as type
use Rattle.tg_explain_typing.specs.declared.facts.Fact.{Fact}
use Rattle.tg_explain_typing.specs.declared.finding.Breach.TheVariants.{Mismatch, NoRecord, NoArray}
use Rattle.tg_explain_typing.specs.declared.finding.Breach.TheVariants.{NoValue, BareNil}
use Rattle.tg_explain_typing.specs.declared.finding.Judgement.{Judgement}
use Rattle.tg_explain_typing.specs.Finding.{first_broken, judged_record, field_names, given_names}
use Rattle.tg_explain_typing.specs.Finding.{first_difference, function_around, loop_around}
use Rattle.tg_explain_typing.specs.Finding.{first_declared}
use Rattle.tg_explain_types.specs.declared.details.TypeDetail.{TypeDetail}
use Rattle.tg_explain_types.specs.declared.details.TypeDetail.TheVariants as detail

abbrev pub judged : Option Judgement → TypeDetail
judged None = detail.Nothing
judged (Some j) = detail.Judged j

abbrev pub fields : List Fact → Option Ty → TypeDetail
fields facts (Some (type.Record owner)) = detail.Fields owner (field_names owner facts [])
fields facts _ = detail.Nothing

abbrev pub differs : List Fact → (at : ℕ) → Option Ty → TypeDetail
differs facts at (Some (type.Record owner)) =
    detail.Differs (first_difference (field_names owner facts []) (given_names at facts []))
differs facts at _ = detail.Nothing

abbrev pub before : Option Ident → TypeDetail
before None = detail.Nothing
before (Some x) = detail.Before x

abbrev pub told : List Fact → TypeRule → (at : ℕ) → TypeDetail
told facts T6 at = judged (first_broken Mismatch facts)
told facts T7 at = judged (first_broken NoRecord facts)
told facts T8 at = fields facts (judged_record facts)
told facts T9 at = judged (first_broken NoArray facts)
told facts T11 at = differs facts at (judged_record facts)
told facts T12 at = judged (first_broken NoValue facts)
told facts T13 at = judged (first_broken BareNil facts)
told facts T14 at = detail.Outside (function_around at facts None) (loop_around at facts None)
told facts T16 at = before (first_declared at facts)
told facts T17 at = before (first_declared at facts)
told facts T18 at = before (first_declared at facts)
told facts _ at = detail.Nothing
