-- The bodies of generated programs are well typed, whatever else their scopes hold.
use Rattle.std.proofs.Common.{ℕ, zero, suc, ◌≡◌, ◌≤◌, List, [], ◌∷◌, ◌++◌, Bool, false, Some, refl, sym, ap, subst, ◌∙◌, arith}
use Rattle.std.specs.Prelude.{Option, ◌==◌, not, if◌then◌else◌}
use Rattle.std.proofs.lemmas.Bool.Decides.{nat_tests}
use Rattle.tg_base.specs.declared.ids.Span.{Span}
use Rattle.tg_syntax.specs.declared.tokens.Ident.{Ident}
use Rattle.tg_semantics.specs.declared.standards.Standard.{Standard}
use Rattle.tg_semantics.specs.declared.standards.Standard.TheVariants.{Print, Ord, Chr}
use Rattle.tg_typecheck.specs.declared.faults.TypeRule.TheVariants.{T3, T15}
use Rattle.tg_typecheck.specs.declared.notes.Means.{Means}
use Rattle.tg_typecheck.specs.Types.{Ty, int_type, none_type}
use Rattle.tg_typecheck.specs.Checks.{Noted, Check, fine, on_fine, give, keep, present, note, ◌>>=◌, ◌>>◌}
use Rattle.tg_symbols.specs.Tables.{looked_up}
use Rattle.tg_typecheck.specs.Scopes.{Signature, Binding, variable_at, function_at, standard_one, Scope, at_of, signature}
use Rattle.tg_typecheck.specs.Typing.{typed, typed_last, variable_of, function_of, is_loop_variable}
use Rattle.tg_program_generator_laws.proofs.Lines.{place}
use Rattle.tg_program_generator_laws.proofs.Trees.{id, d_body, p_body, later_body, last_exps}

-- a check that finds no fault, whatever is (noted _ _) before it
pub record Gives {A : Type 0} (m : Check A) (a : A) : Type 0 where
  pub after : Noted → Noted
  pub is : (n : Noted) → m n ≡ fine a (after n)

pub ok : {A : Type 0} {a : A} → Gives (give a) a
unfolding give
ok = record { after = λ n. n; is = λ n. refl }

pub noted : (at : ℕ) (m : Means) → Gives (note at m) tt
unfolding note
noted at m = record {
  after = λ n. record n { notes = n.notes ++ record { at = at; means = m } ∷ [] };
  is = λ n. refl;
}

pub and_then : {A B : Type 0} {m : Check A} {a : A} {b : B} (next : A → Check B) → Gives m a → Gives (next a) b → Gives (m >>= next) b
unfolding ◌>>=◌
and_then next h k = record {
  after = λ n. k.after (h.after n);
  is = λ n. ap (λ c. on_fine c next) (h.is n) ∙ k.is (h.after n);
}

-- two tests of types that hold
fit : Gives (give (tt {0}) >> give (tt {0})) (tt {0})
fit = and_then _ ok ok

-- names that are found
local : {A : Type 0} {a : A} (at : ℕ) (m : Means) → Gives (note at m >> give a) a
local at m = and_then _ (noted at m) ok

seen : (x : Ident) {o : Option Binding} {at : ℕ} {t : Ty} {loop : Bool} → o ≡ Some (variable_at at t loop) → Gives (variable_of x o) t
seen x {t = t} e = subst (λ o. Gives (variable_of x o) t) (sym e) (local _ _)

called_by : (f : Ident) {o : Option Binding} {at : ℕ} {s : Signature} → o ≡ Some (function_at at s) → Gives (function_of f o) s
called_by f {s = s} e = subst (λ o. Gives (function_of f o) s) (sym e) (local _ _)

standard_by : (f : Ident) {o : Option Binding} {g : Standard} → o ≡ Some (standard_one g) → Gives (function_of f o) (signature g)
standard_by f {g = g} e = subst (λ o. Gives (function_of f o) (signature g)) (sym e) (local _ _)

assigned : (at : ℕ) {o : Option Binding} {place : ℕ} {t : Ty} → o ≡ Some (variable_at place t false) → Gives (keep T15 at (not (is_loop_variable o))) tt
assigned at e = subst (λ o. Gives (keep T15 at (not (is_loop_variable o))) tt) (sym e) ok

pub kind : (x : Ident) {o : Option Ty} {t : Ty} → o ≡ Some t → Gives (present T3 (at_of x) o) t
kind x {t = t} e = subst (λ o. Gives (present T3 (at_of x) o) t) (sym e) ok

-- what the head declares, and what is standard
abbrev pub printing : Signature
printing = record { params = int_type ∷ []; result = none_type }

abbrev pub counting : Signature
counting = record { params = int_type ∷ []; result = int_type }

pub record Sees (bindings : List (ℕ × Binding)) (types : List (ℕ × Ty)) : Type 0 where
  pub s_at : ℕ
  pub s : looked_up 0 bindings ≡ Some (variable_at s_at int_type false)
  pub d_at : ℕ
  pub d : looked_up 1 bindings ≡ Some (function_at d_at printing)
  pub p_at : ℕ
  pub p : looked_up 7 bindings ≡ Some (function_at p_at printing)
  pub print : looked_up 4 bindings ≡ Some (standard_one Print)
  pub chr : looked_up 5 bindings ≡ Some (standard_one Chr)
  pub ord : looked_up 6 bindings ≡ Some (standard_one Ord)
  pub int : looked_up 3 types ≡ Some int_type

-- a scope of bindings and types, in no loop
abbrev pub scope : List (ℕ × Binding) → List (ℕ × Ty) → Scope
scope bindings types = record { bindings = bindings; types = types; in_loop = false }

-- a parameter and those
abbrev pub given : (name at : ℕ) → List (ℕ × Binding) → List (ℕ × Binding)
given name at bindings = (name, variable_at at int_type false) ∷ bindings

module _ (bindings : List (ℕ × Binding)) (types : List (ℕ × Ty)) (sees : Sees bindings types) where
  pub d_typed : (s : ℕ → Span) (at : ℕ) → Gives (typed (d_body s) (scope (given 2 at bindings) types)) none_type
  d_typed s at =
      (and_then _ (standard_by (id s 13 4) sees.print) (and_then _ ok (and_then _ (and_then _ (and_then _ (standard_by (id s 15 5) sees.chr)
      (and_then _ ok (and_then _ (and_then _ (and_then _ (local _ _) (and_then _ (and_then _ fit ok) (and_then _ (and_then _ (standard_by (id s 19 6)
      sees.ord) (and_then _ ok (and_then _ (and_then _ ok (and_then _ fit ok)) ok))) (and_then _ fit ok)))) (and_then _ fit ok)) ok))) (and_then _
      fit ok)) ok)))

  pub p_typed : (s : ℕ → Span) (at : ℕ) → Gives (typed (p_body s) (scope (given 2 at bindings) types)) none_type
  p_typed s at =
      (and_then _ (and_then _ (local _ _) (and_then _ (and_then _ ok (and_then _ ok (and_then _ (noted _ _) ok))) (and_then _ ok (and_then _ fit
      ok)))) (and_then _ fit (and_then _ (and_then _ (and_then _ (called_by (id s 39 7) sees.p) (and_then _ ok (and_then _ (and_then _ (and_then _
      (local _ _) (and_then _ (and_then _ fit ok) (and_then _ ok (and_then _ fit ok)))) (and_then _ fit ok)) ok))) (and_then _ (and_then _ (called_by
      (id s 46 1) sees.d) (and_then _ ok (and_then _ (and_then _ (and_then _ (local _ _) (and_then _ (and_then _ fit ok) (and_then _ (and_then _
      (and_then _ (local _ _) (and_then _ (and_then _ fit ok) (and_then _ ok (and_then _ fit ok)))) (and_then _ (and_then _ fit ok) (and_then _ ok
      (and_then _ fit ok)))) (and_then _ fit ok)))) (and_then _ fit ok)) ok))) ok)) (and_then _ (and_then _ (called_by (id s 58 1) sees.d) (and_then
      _ ok (and_then _ (and_then _ (local _ _) (and_then _ fit ok)) ok))) (and_then _ ok ok)))))

  pub last_typed : (k : ℕ) (s : ℕ → Span) {at : ℕ} → looked_up (place k) bindings ≡ Some (function_at at counting) →
      Gives (typed_last none_type (last_exps k s) (scope bindings types)) none_type
  last_typed k s before =
      (and_then _ (and_then _ (called_by (id s 1 7) sees.p) (and_then _ ok (and_then _ (and_then _ (and_then _ (called_by (id s 3 (place k)) before)
      (and_then _ ok (and_then _ (and_then _ ok (and_then _ fit ok)) ok))) (and_then _ fit ok)) ok))) (and_then _ (and_then _ (standard_by (id s 9 4)
      sees.print) (and_then _ ok (and_then _ (and_then _ ok (and_then _ fit ok)) ok))) (and_then _ (and_then _ (called_by (id s 14 7) sees.p)
      (and_then _ ok (and_then _ (and_then _ (seen (id s 16 0) sees.s) (and_then _ fit ok)) ok))) (and_then _ (and_then _ (standard_by (id s 19 4)
      sees.print) (and_then _ ok (and_then _ (and_then _ ok (and_then _ fit ok)) ok))) ok))))

  -- names that no function of the group has
  skips : (x n : ℕ) (b : Binding) (rest : List (ℕ × Binding)) → (x == n) ≡ false → looked_up n ((x, b) ∷ rest) ≡ looked_up n rest
  skips x n b rest e = ap (λ c. if c then Some b else looked_up n rest) e

  inner_apart : (k n : ℕ) → 9 ≤ n → n ≤ 13 → (n ≡ 10 → ⊥) → (n == place k) ≡ false
  inner_apart zero n l h e = grind (arith, nat_tests)
  inner_apart (suc zero) n l h e = grind (arith, nat_tests)
  inner_apart (suc (suc k)) n l h e = grind (arith, nat_tests)

  pub later_typed : (k : ℕ) (s : ℕ → Span) (at : ℕ) {place_of : ℕ} → looked_up (place k) bindings ≡ Some (function_at place_of counting) →
      Gives (typed (later_body k s) (scope (given 9 at bindings) types)) int_type
  later_typed k s at {place_of} found =
      let a = given 9 at bindings in
      let b = given 11 (s 12).from a in
      let g = (12, function_at (s 18).from counting) ∷ b in
      let before : looked_up (place k) g ≡ Some (function_at place_of counting) =
      skips 12 (place k) (function_at (s 18).from counting) b (inner_apart k 12 (omega arith) (omega arith) (λ e. omega arith))
      ∙ skips 11 (place k) (variable_at (s 12).from int_type false) a (inner_apart k 11 (omega arith) (omega arith) (λ e. omega arith))
      ∙ skips 9 (place k) (variable_at at int_type false) bindings (inner_apart k 9 (omega arith) (omega arith) (λ e. omega arith)) ∙ found in
      (and_then _ (and_then _ (and_then _ (local _ _) (and_then _ (and_then _ fit ok) (and_then _ ok (and_then _ fit ok)))) (and_then _ (and_then _
      ok (and_then _ ok ok)) (and_then _ (and_then _ ok ok) (and_then _ (and_then _ (and_then _ ok (and_then _ (kind (id s 22 3) sees.int) (and_then
      _ ok ok))) (and_then _ (kind (id s 25 3) sees.int) (and_then _ ok ok))) (and_then _ (and_then _ (and_then _ (and_then _ (seen (id s 28 0)
      sees.s) (and_then _ (assigned (s 28).from sees.s) (and_then _ (and_then _ (seen (id s 30 0) sees.s) (and_then _ (and_then _ fit ok) (and_then _
      (local _ _) (and_then _ fit ok)))) (and_then _ fit ok)))) (and_then _ (and_then _ (local _ _) (and_then _ (and_then _ fit ok) (and_then _
      (local _ _) (and_then _ fit ok)))) ok)) (and_then _ fit ok)) ok))))) (and_then _ (and_then _ (and_then _ (local _ _) (and_then _ ok (and_then _
      (and_then _ (and_then _ (called_by (id s 41 (place k)) before) (and_then _ ok (and_then _ (and_then _ (local _ _) (and_then _ fit ok)) ok)))
      (and_then _ fit ok)) ok))) (and_then _ (and_then _ fit ok) (and_then _ (local _ _) (and_then _ fit ok)))) ok))
