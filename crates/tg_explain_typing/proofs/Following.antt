-- One step from a name to the next.
use Rattle.std.proofs.Common.{◌≡◌, ℕ, zero, suc, ◌-◌, ◌<◌, List, ap, ◌∙◌, arith}
use Rattle.tg_syntax.specs.declared.tokens.Ident.{Ident}
use Rattle.tg_explain_typing.specs.declared.types.Ty.{Ty}
use Rattle.tg_explain_typing.specs.declared.facts.Meaning.{Meaning}
use Rattle.tg_explain_typing.specs.declared.facts.Meaning.TheVariants.{Alias, Known}
use Rattle.tg_explain_typing.specs.declared.facts.Fact.{Fact}
use Rattle.tg_explain_typing.specs.Standards.{outermost_type}
use Rattle.tg_explain_typing.specs.Lookups.{spelled, meaning_of, followed}

abbrev reached : (text : List ℕ) → List Fact → ℕ → Meaning → Ty
reached text facts most m = elim m [ Alias y ↦ followed text facts most y | Known t ↦ t ]

on : (text : List ℕ) (facts : List Fact) (n : ℕ) (x : Ident) (word : List ℕ) (outer : Ty) (m : Meaning) → word ≡ spelled text x.span →
    outer ≡ outermost_type word → m ≡ meaning_of x facts (Known outer) → reached text facts n m ≡ followed text facts (suc n) x
on text facts n x word outer m p q e = ap (reached text facts n) (e ∙ ap (λ t. meaning_of x facts (Known t)) (q ∙ ap outermost_type p))

pub alias_on : (text : List ℕ) (facts : List Fact) (most : ℕ) (x y : Ident) (word : List ℕ) (outer : Ty) → 0 < most → word ≡ spelled text x.span →
    outer ≡ outermost_type word → Alias y ≡ meaning_of x facts (Known outer) → followed text facts (most - 1) y ≡ followed text facts most x
alias_on text facts zero x y word outer h p q e = absurd (omega arith)
alias_on text facts (suc n) x y word outer h p q e =
    let less : suc n - 1 ≡ n = omega arith in ap (λ k. followed text facts k y) less ∙ on text facts n x word outer (Alias y) p q e

pub known_on : (text : List ℕ) (facts : List Fact) (most : ℕ) (x : Ident) (t : Ty) (word : List ℕ) (outer : Ty) → 0 < most → word ≡ spelled text x.span →
    outer ≡ outermost_type word → Known t ≡ meaning_of x facts (Known outer) → t ≡ followed text facts most x
known_on text facts zero x t word outer h p q e = absurd (omega arith)
known_on text facts (suc n) x t word outer h p q e = on text facts n x word outer (Known t) p q e
