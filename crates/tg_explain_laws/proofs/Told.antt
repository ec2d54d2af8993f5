-- The types that are told of a fault are those that typing asked of first, of a whole program.
use Rattle.std.proofs.Common.{◌≡◌, ℕ, ◌≤◌, List, [], ◌∷◌, Option, Some, None, Bool, true, false, refl, sym, ap, ◌∙◌, arith}
use Rattle.std.specs.Prelude.{if◌then◌else◌, nat_lt}
use Rattle.tg_syntax.specs.declared.tokens.Spanned.{Spanned}
use Rattle.tg_syntax.specs.Tree.{Exp}
use Rattle.tg_syntax.specs.Lexing.{Lexes}
use Rattle.tg_syntax.specs.Grammar.{IsProgram}
use Rattle.tg_syntax.specs.Functions.{Measures, program_functions, program_size}
use Rattle.tg_syntax.specs.Spans.{span_of}
use Rattle.tg_typecheck.specs.declared.faults.TypeRule.{TypeRule}
use Rattle.tg_typecheck.specs.declared.faults.TypeRule.TheVariants as rule
use Rattle.tg_typecheck.specs.declared.notes.Note.{Note}
use Rattle.tg_typecheck.specs.Types.{Ty}
use Rattle.tg_typecheck.specs.Checks.{CheckResult, fine, fault}
use Rattle.tg_typecheck.specs.Scopes.{outermost_scope}
use Rattle.tg_typecheck.specs.Typing.{typed}
use Rattle.tg_typecheck.specs.Limits.{above, first_above, limit_fault}
use Rattle.tg_typecheck.specs.Accepted.{finding, finding_of, at_fault, within_limits}
use Rattle.tg_explain_typing.specs.declared.finding.Breach.{Breach}
use Rattle.tg_explain_typing.specs.declared.finding.Breach.TheVariants.{Mismatch, NoValue, BareNil}
use Rattle.tg_explain_typing.specs.Facts.{exp_facts}
use Rattle.tg_explain_typing.specs.Finding.{first_broken}
use Rattle.tg_explain_types.specs.laws.Types.{TestsAgree}
use Rattle.tg_explain_types.specs.Telling.{judged}
use Rattle.tg_explain_types.specs.Details.{explained}
use Rattle.tg_explain_laws.specs.laws.Asked.{breach_of}
use Rattle.tg_explain_laws.specs.laws.Told.{IsTold}
use Rattle.tg_explain_laws.proofs.Nest.{spans_nest, program_stands}
use Rattle.tg_explain_laws.proofs.Needed.{program_spelled, outermost_agrees}
use Rattle.tg_explain_laws.proofs.Asked.{faults_are_asked}
use Rattle.tg_explain_laws.proofs.Walking.{Setting}
use Rattle.tg_explain_laws.proofs.Found.{asked_is_found}

-- a limit tells no types
abbrev IsSilent : Option (TypeRule × ℕ) → Type 0
IsSilent None = Unit {0}
IsSilent (Some f) = breach_of f.0 ≡ None

above_silent : (r : TypeRule) (at number limit : ℕ) (o : Option (TypeRule × ℕ)) → breach_of r ≡ None → IsSilent o → IsSilent (above r at number limit o)
above_silent r at number limit o h k = by (nat_lt limit number)
  where
    by : (c : Bool) → IsSilent (if c then Some (r, at) else o)
    by true = h
    by false = k

first_silent : (fs : List Measures) → IsSilent (first_above fs)
first_silent [] = tt
first_silent (f ∷ fs) = above_silent rule.T20 f.at f.level 32 _ refl (above_silent rule.T21 f.at f.size 4096 _ refl (first_silent fs))

limit_silent : (body : Exp) → IsSilent (limit_fault body)
limit_silent body = above_silent rule.T22 (span_of body).from (program_size body) 32768 _ refl (first_silent (program_functions body))

beyond_limits : (notes : List Note) (o : Option (TypeRule × ℕ)) (r : TypeRule) (at : ℕ) (b : Breach) → IsSilent o → breach_of r ≡ Some b →
    within_limits notes o ≡ at_fault r at → ⊥
beyond_limits notes None r at b s k e = cc
beyond_limits notes (Some f) r at b s k e =
    let same : f.0 ≡ r = cc in
    let never : None ≡ Some b = sym s ∙ ap breach_of same ∙ k in
    cc

-- a fault that tells types is one of typing
fault_of : (body : Exp) (o : CheckResult Ty) (r : TypeRule) (at : ℕ) (b : Breach) → breach_of r ≡ Some b → finding_of body o ≡ at_fault r at → o ≡ fault r at
fault_of body (fine t noted) r at b k e = absurd (beyond_limits noted.notes (limit_fault body) r at b (limit_silent body) k e)
fault_of body (fault r' p) r at b k e =
    let same_rule : r' ≡ r = cc in
    let same_byte : p ≡ at = cc in
    ap (λ y. fault y p) same_rule ∙ ap (λ y. fault r y) same_byte

-- the first that is broken is what is told
told_of : (text : List ℕ) (program : Exp) (r : TypeRule) (b : Breach) (at : ℕ) → breach_of r ≡ Some b →
    explained text program r at ≡ judged (first_broken b (exp_facts text at program []))
told_of text program rule.T6 b at k = let same : Mismatch ≡ b = cc in ap (λ y. judged (first_broken y (exp_facts text at program []))) same
told_of text program rule.T12 b at k = let same : NoValue ≡ b = cc in ap (λ y. judged (first_broken y (exp_facts text at program []))) same
told_of text program rule.T13 b at k = let same : BareNil ≡ b = cc in ap (λ y. judged (first_broken y (exp_facts text at program []))) same
told_of text program _ b at k = cc

pub told_types_are_asked : ((one other : Ty) → TestsAgree one other) → (names : List (List ℕ)) (text : List ℕ) (tokens : List Spanned) (program : Exp)
    (rule : TypeRule) (breach : Breach) (at : ℕ) → Lexes names 0 text tokens → IsProgram tokens program → breach_of rule ≡ Some breach →
    finding names program ≡ at_fault rule at → IsTold names text program rule breach at
told_types_are_asked tests names text tokens program rule breach at lexed parsed tells found =
    let is = fault_of program (typed program (outermost_scope names) (record { shapes = []; notes = [] })) rule at breach tells found in
    let asked = faults_are_asked tests program (outermost_scope names) (record { shapes = []; notes = [] }) rule at breach tells is in
    let stands = program_stands names text tokens program lexed parsed in
    let up : stands.0 ≤ stands.0 = omega arith in
    let setting : Setting = record { names = names; text = text; at = at; end = stands.0; tests = tests; breach = breach } in
    let first = asked_is_found setting asked.judgement asked.broken asked.asked 0 stands.0 stands.1 up
    (spans_nest names text tokens program lexed parsed) (program_spelled names text tokens program lexed parsed) []
    (outermost_agrees names text tokens stands.0 lexed) refl in
    record { fault = asked; first = first; told = told_of text program rule breach at tells ∙ ap judged first }
