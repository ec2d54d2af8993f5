-- A fault that tells types is about what typing asked first and the type that broke it.
use Rattle.std.specs.Prelude.{ℕ, ◌≡◌, Option, Some, None, true}
use Rattle.tg_syntax.specs.Tree.{Exp}
use Rattle.tg_typecheck.specs.declared.faults.TypeRule.{TypeRule}
use Rattle.tg_typecheck.specs.declared.faults.TypeRule.TheVariants.{T6, T12, T13}
use Rattle.tg_typecheck.specs.Checks.{Noted, fault}
use Rattle.tg_typecheck.specs.Scopes.{Scope}
use Rattle.tg_typecheck.specs.Typing.{typed}
use Rattle.tg_explain_typing.specs.declared.finding.Breach.{Breach}
use Rattle.tg_explain_typing.specs.declared.finding.Breach.TheVariants.{Mismatch, NoValue, BareNil}
use Rattle.tg_explain_typing.specs.declared.finding.Judgement.{Judgement}
use Rattle.tg_explain_typing.specs.Finding.{breaks}
use Rattle.tg_explain_laws.specs.Asking.{Asks}

-- how the rules are broken whose faults are of a type: it doesn't fit, isn't there or is nil alone
abbrev pub breach_of : TypeRule → Option Breach
breach_of T6 = Some Mismatch
breach_of T12 = Some NoValue
breach_of T13 = Some BareNil
breach_of _ = None

-- it is asked of a part at a byte, with no fault before, and that part's type breaks it so
pub record IsAsked (breach : Breach) (at : ℕ) (e : Exp) (scope : Scope)
    (noted : Noted) : Type 0 where
  pub judgement : Judgement
  pub asked : Asks at judgement e scope noted
  pub broken : breaks breach judgement.demand judgement.got ≡ true

abbrev pub FaultsAreAsked : Type 0
FaultsAreAsked =
    (e : Exp) (scope : Scope) (noted : Noted) (rule : TypeRule) (at : ℕ) (breach : Breach) →
    breach_of rule ≡ Some breach → typed e scope noted ≡ fault rule at →
    IsAsked breach at e scope noted
