-- Functions and parameters, opened one after another.
use Rattle.std.proofs.Common.{◌≡◌, ℕ, zero, suc, ◌+◌, ◌<◌, ◌≤◌, List, [], ◌∷◌, length, drop, get_or, Bool, false, refl, ap, ◌∙◌, arith}
use Rattle.tg_syntax.specs.declared.tokens.Ident.{Ident}
use Rattle.tg_syntax.specs.declared.trees.Param.{Param}
use Rattle.tg_syntax.specs.declared.trees.FunDec.{FunDec as CodeFunDec}
use Rattle.tg_syntax.specs.glue.Lists.{functions_of}
use Rattle.tg_typecheck.specs.declared.states.CheckingState.{CheckingState}
use Rattle.tg_typecheck.specs.Types.{Ty}
use Rattle.tg_typecheck.specs.Scopes.{Scope, Signature, Binding, variable_at, function_at}
use Rattle.tg_typecheck.specs.Groups.{with_functions, with_params}
use Rattle.tg_typecheck.specs.glue.States.{Opens, scope_of, noted_of}
use Rattle.tg_typecheck.proofs.Steps.{opened_state, opens_both, opens_keep, keeps_same}
use Rattle.tg_typecheck.proofs.TreeSteps.{from_here, none_left}

-- one more name is open
pub open_one : (x : Ident) (b : Binding) (old new : CheckingState) → new.bindings ≡ (x.name.0, b) ∷ old.bindings → new.types ≡ old.types → Opens old new
open_one x b old new e t = record { more_bindings = (x.name.0, b) ∷ []; bindings = e; more_types = []; types = t }

pub record ParamsOn (first now : CheckingState) (ps : List Param) (ts : List Ty) (k : ℕ) : Type 0 where
  pub opens : Opens first now
  pub types : now.types ≡ first.types
  pub noted : noted_of now ≡ noted_of first
  pub onward : (names : List (List ℕ)) (in_loop : Bool) (scope : Scope) → scope ≡ scope_of names first in_loop →
      with_params ps ts scope ≡ with_params (drop k ps) (drop k ts) (scope_of names now in_loop)

pub params_none : (s : CheckingState) (ps : List Param) (ts : List Ty) → ParamsOn s s ps ts 0
params_none s ps ts = record { opens = opens_keep keeps_same; types = refl; noted = refl; onward = λ names in_loop scope h. ap (λ x. with_params ps ts x) h }

pub params_one : (first now next : CheckingState) (ps : List Param) (ts : List Ty) (k : ℕ) (p : Param) (t : Ty) → ParamsOn first now ps ts k → k < length ps →
    k < length ts → p ≡ get_or ps k p → t ≡ get_or ts k t → next.bindings ≡ (p.name.name.0, variable_at p.name.span.from t false) ∷ now.bindings →
    next.types ≡ now.types → noted_of next ≡ noted_of now → ParamsOn first next ps ts (k + 1)
params_one first now next ps ts k p t a l m i j e d f = record {
  opens = opens_both a.opens (open_one p.name (variable_at p.name.span.from t false) now next e d);
  types = d ∙ a.types;
  noted = f ∙ a.noted;
  onward = λ names in_loop scope h.
      a.onward names in_loop scope h ∙ (ap (λ x. with_params x (drop k ts) (scope_of names now in_loop)) (from_here ps k p l i)
      ∙ (ap (λ y. with_params (p ∷ drop (k + 1) ps) y (scope_of names now in_loop)) (from_here ts k t m j) ∙ ap
      (λ s. with_params (drop (k + 1) ps) (drop (k + 1) ts) s)
      (opened_state p.name (variable_at p.name.span.from t false) names in_loop now next e d refl)));
}

pub params_all : (first now : CheckingState) (ps : List Param) (ts : List Ty) (k : ℕ) → ParamsOn first now ps ts k → k ≡ length ps →
    (names : List (List ℕ)) (in_loop : Bool) (scope : Scope) → scope ≡ scope_of names first in_loop → with_params ps ts scope ≡ scope_of names now in_loop
params_all first now ps ts k a e names in_loop scope h =
    a.onward names in_loop scope h ∙ ap (λ x. with_params x (drop k ts) (scope_of names now in_loop)) (none_left ps k e)

-- no type is left
no_more : (ps : List Param) (s : Scope) → with_params ps [] s ≡ s
no_more [] s = refl
no_more (p ∷ ps) s = refl

pub params_short : (first now : CheckingState) (ps : List Param) (ts : List Ty) (k : ℕ) → ParamsOn first now ps ts k → drop k ts ≡ [] →
    (names : List (List ℕ)) (in_loop : Bool) (scope : Scope) → scope ≡ scope_of names first in_loop → with_params ps ts scope ≡ scope_of names now in_loop
params_short first now ps ts k a e names in_loop scope h =
    a.onward names in_loop scope h ∙ (ap (λ y. with_params (drop k ps) y (scope_of names now in_loop)) e ∙ no_more (drop k ps) (scope_of names now in_loop))

pub record FunctionsOn (first now : CheckingState) (fs : List CodeFunDec) (ss : List Signature) (k : ℕ) : Type 0 where
  pub opens : Opens first now
  pub types : now.types ≡ first.types
  pub noted : noted_of now ≡ noted_of first
  pub onward : (names : List (List ℕ)) (in_loop : Bool) (scope : Scope) → scope ≡ scope_of names first in_loop →
      with_functions (functions_of fs) ss scope ≡ with_functions (functions_of (drop k fs)) (drop k ss) (scope_of names now in_loop)

pub functions_none : (s : CheckingState) (fs : List CodeFunDec) (ss : List Signature) → FunctionsOn s s fs ss 0
functions_none s fs ss =
    record { opens = opens_keep keeps_same; types = refl; noted = refl; onward = λ names in_loop scope h. ap (λ x. with_functions (functions_of fs) ss x) h }

pub functions_one : (first now next : CheckingState) (fs : List CodeFunDec) (ss : List Signature) (k : ℕ) (f : CodeFunDec) (s : Signature) →
    FunctionsOn first now fs ss k → k < length fs → k < length ss → f ≡ get_or fs k f → s ≡ get_or ss k s →
    next.bindings ≡ (f.name.name.0, function_at f.name.span.from s) ∷ now.bindings → next.types ≡ now.types → noted_of next ≡ noted_of now →
    FunctionsOn first next fs ss (k + 1)
functions_one first now next fs ss k f s a l m i j e d n = record {
  opens = opens_both a.opens (open_one f.name (function_at f.name.span.from s) now next e d);
  types = d ∙ a.types;
  noted = n ∙ a.noted;
  onward = λ names in_loop scope h.
      a.onward names in_loop scope h ∙ (ap (λ x. with_functions (functions_of x) (drop k ss) (scope_of names now in_loop)) (from_here fs k f l i)
      ∙ (ap (λ y. with_functions (functions_of (f ∷ drop (k + 1) fs)) y (scope_of names now in_loop)) (from_here ss k s m j) ∙ ap
      (λ z. with_functions (functions_of (drop (k + 1) fs)) (drop (k + 1) ss) z)
      (opened_state f.name (function_at f.name.span.from s) names in_loop now next e d refl)));
}

pub functions_all : (first now : CheckingState) (fs : List CodeFunDec) (ss : List Signature) (k : ℕ) → FunctionsOn first now fs ss k → k ≡ length fs →
    (names : List (List ℕ)) (in_loop : Bool) (scope : Scope) → scope ≡ scope_of names first in_loop →
    with_functions (functions_of fs) ss scope ≡ scope_of names now in_loop
functions_all first now fs ss k a e names in_loop scope h =
    a.onward names in_loop scope h ∙ ap (λ x. with_functions (functions_of x) (drop k ss) (scope_of names now in_loop)) (none_left fs k e)

-- nothing is left past the end
pub past : {A : Type 0} (xs : List A) (k : ℕ) → length xs ≤ k → drop k xs ≡ []
past [] zero h = refl
past [] (suc k) h = refl
past (x ∷ xs) zero h = absurd (omega (arith, h))
past (x ∷ xs) (suc k) h = past xs k (omega (arith, h))
