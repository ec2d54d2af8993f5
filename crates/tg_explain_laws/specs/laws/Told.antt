-- The two types that are told of a fault are what typing asked there first that was broken.
use Rattle.std.specs.Prelude.{ℕ, ◌≡◌, List, [], Some}
use Rattle.tg_syntax.specs.declared.tokens.Spanned.{Spanned}
use Rattle.tg_syntax.specs.Tree.{Exp}
use Rattle.tg_syntax.specs.Lexing.{Lexes}
use Rattle.tg_syntax.specs.Grammar.{IsProgram}
use Rattle.tg_typecheck.specs.declared.faults.TypeRule.{TypeRule}
use Rattle.tg_typecheck.specs.Accepted.{finding, at_fault}
use Rattle.tg_typecheck.specs.Scopes.{outermost_scope}
use Rattle.tg_explain_typing.specs.declared.finding.Breach.{Breach}
use Rattle.tg_explain_typing.specs.Facts.{exp_facts}
use Rattle.tg_explain_typing.specs.Finding.{first_broken}
use Rattle.tg_explain_types.specs.declared.details.TypeDetail.TheVariants.{Judged}
use Rattle.tg_explain_types.specs.Details.{explained}
use Rattle.tg_explain_laws.specs.laws.Asked.{breach_of, IsAsked}

-- what is told is asked of a part at the fault's byte, and that part's type breaks it
pub record IsTold (names : List (List ℕ)) (text : List ℕ) (program : Exp) (rule : TypeRule)
    (breach : Breach) (at : ℕ) : Type 0 where
  pub fault : IsAsked breach at program (outermost_scope names) (record { shapes = []; notes = [] })
  pub first : first_broken breach (exp_facts text at program []) ≡ Some fault.judgement
  pub told : explained text program rule at ≡ Judged fault.judgement

abbrev pub ToldTypesAreAsked : Type 0
ToldTypesAreAsked =
    (names : List (List ℕ)) (text : List ℕ) (tokens : List Spanned) (program : Exp)
    (rule : TypeRule) (breach : Breach) (at : ℕ) →
    Lexes names 0 text tokens → IsProgram tokens program → breach_of rule ≡ Some breach →
    finding names program ≡ at_fault rule at → IsTold names text program rule breach at
