-- An assignment whose place is located, by whether its value begins with a read of that place.
use Rattle.std.proofs.Common.{◌≡◌, ap, ◌∙◌, Bool, true, false}
use Rattle.tg_syntax.specs.Tree.{Exp, LValue}
use Rattle.tg_translate.specs.declared.homes.Within.{Within}
use Rattle.tg_translate.specs.mirror.States.{TranslationState, Translates, Translated}
use Rattle.tg_translate.specs.mirror.Wants.{Made}
use Rattle.tg_translate.specs.mirror.Constructs.{Storage}
use Rattle.tg_translate.specs.mirror.Scopes.{Findings}
use Rattle.tg_translate.specs.mirror.Translate.{assignment, expression, behind_read}
use Rattle.tg_translate.specs.mirror.Updates.{begins_with}
use Rattle.tg_translate.specs.glue.Parts.{done_of, assigned_in, updated_in}

module _ (findings : Findings) (v : LValue) (e : Exp) (within : Within) where
  abbrev assigned_if : Bool → Storage → Translates Made
  assigned_if reads_first place =
      done_of (assignment reads_first place (λ w. expression findings e w within) (λ x w. behind_read findings e x w within))

  abbrev pub assigned_by : Storage → Translates Made
  assigned_by place = assigned_if (begins_with findings.meaning e v) place

  module _ (place : Storage) (s : TranslationState) (d : Translated Made) where
    pub updates : begins_with findings.meaning e v ≡ true → done_of (updated_in findings place e within) s ≡ d → assigned_by place s ≡ d
    updates b h = ap (λ r. assigned_if r place s) b ∙ h

    pub assigns : begins_with findings.meaning e v ≡ false → done_of (assigned_in findings place e within) s ≡ d → assigned_by place s ≡ d
    assigns b h = ap (λ r. assigned_if r place s) b ∙ h
