-- From the typing of a program's body to what the check of the program answers.
use Rattle.std.specs.Prelude.{Result, Ok, Err, Option, None, IfErr, IsErr, IsTrue}
use Rattle.std.specs.Result.{IsErrAnd}
use Rattle.std.proofs.Common.{◌≡◌, ℕ, List, [], ◌++◌, false, sym, ap, ap₂, ◌∙◌, subst}
use Rattle.std.specs.List.Sorted.{IsPermutation, IsNonDecreasingBy}
use Rattle.tg_base.specs.declared.faulty.Faulty.{Faulty}
use Rattle.tg_syntax.specs.Tree.{Exp}
use Rattle.tg_syntax.specs.Beginnings.{BeginsApart}
use Rattle.tg_typecheck.specs.declared.faults.TypeRule.{TypeRule}
use Rattle.tg_typecheck.specs.declared.limits.Limit.{Limit}
use Rattle.tg_typecheck.specs.declared.notes.Note.{Note}
use Rattle.tg_typecheck.specs.declared.states.CheckingState.{CheckingState}
use Rattle.tg_typecheck.specs.Types.{Ty}
use Rattle.tg_typecheck.specs.Checks.{Noted, CheckResult, fine}
use Rattle.tg_typecheck.specs.Scopes.{Scope, Binding, standard_bindings, standard_types, outermost_scope}
use Rattle.tg_typecheck.specs.glue.States.{Fails, bad, no_memory, scope_of, noted_of}
use Rattle.tg_typecheck.specs.Typing.{typed}
use Rattle.tg_typecheck.specs.Limits.{limit_fault}
use Rattle.tg_typecheck.specs.glue.Faults.{rule_and_byte}
use Rattle.tg_typecheck.specs.Accepted.{finding, finding_of, within_limits}
use Rattle.tg_typecheck.specs.Answered.{Accepts, IsAt}
use Rattle.tg_typecheck.proofs.Rising.{rises}
use Rattle.tg_typecheck.proofs.NamedValues.{standard_values}

abbrev begin : Noted
begin = record { shapes = []; notes = [] }

abbrev opened : (names : List (List ℕ)) → List (ℕ × Binding) → List (ℕ × Ty) → Scope
opened names bs ts = record { bindings = bs ++ standard_bindings 0 names; types = ts ++ standard_types 0 names; in_loop = false }

-- what is typed where nothing is open yet
pub at_first : (names : List (List ℕ)) (body : Exp) (s : CheckingState) (P : CheckResult Ty → Type 0) → s.bindings ≡ [] → s.types ≡ [] → noted_of s ≡ begin →
    ((scope : Scope) → scope ≡ scope_of names s false → P (typed body scope (noted_of s))) → P (typed body (outermost_scope names) begin)
at_first names body s P b t n given =
    subst (λ g. P (typed body (outermost_scope names) g)) n (given (outermost_scope names) (ap₂ (λ x y. opened names x y) (sym b) (sym t)))

-- a fault of typing
fails : (names : List (List ℕ)) (body : Exp) (e : Faulty TypeRule ℕ) → Fails e (typed body (outermost_scope names) begin) → IsAt (finding names body) e
fails names body _ (bad d) = ap (λ c. finding_of body c) d
fails names body _ no_memory = tt

found : (names : List (List ℕ)) (body : Exp) (t : Ty) (h : Noted) (o : Option (TypeRule × ℕ)) → typed body (outermost_scope names) begin ≡ fine t h →
    o ≡ limit_fault body → finding names body ≡ within_limits h.notes o
found names body t h o e l = ap (λ c. finding_of body c) e ∙ ap (λ x. within_limits h.notes x) (sym l)

never : IsTrue false → ⊥
never h = cc

-- what a `?` returns
pub passed : {X : Type 0} (names : List (List ℕ)) (body : Exp) (r : Result X (Faulty TypeRule ℕ)) (e : Faulty TypeRule ℕ) → IsErr r × IsErrAnd r (λ x. x ≡ e) →
    Fails e (typed body (outermost_scope names) begin) → IfErr r (λ x. IsAt (finding names body) x)
passed names body (Ok x) e h f = absurd (never h.0)
passed names body (Err x) e h f = subst (λ y. IsAt (finding names body) y) (sym h.1) (fails names body e f)

-- no fault at all
pub accepts : (names : List (List ℕ)) (body : Exp) (t : Ty) (h : Noted) (limit : Option Limit) (sorted notes : List Note) →
    typed body (outermost_scope names) begin ≡ fine t h → limit ≡ None → rule_and_byte limit ≡ limit_fault body → BeginsApart body →
    IsPermutation h.notes sorted →
    IsNonDecreasingBy (λ (n : Note). n.at) sorted → notes ≡ sorted → Accepts (finding names body) notes
accepts names body t h limit sorted notes e n l b p r i =
    let f = found names body t h (rule_and_byte None) e (ap rule_and_byte (sym n) ∙ l) in
    let rising = rises body (outermost_scope names) (standard_values 0 names) t h sorted b e p r in
    subst (λ ns. Accepts (finding names body) ns) (sym i) (subst (λ f. Accepts f sorted) (sym f) (p, rising))
