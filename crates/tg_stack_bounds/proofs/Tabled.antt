-- The text of an accepted program leads, by the levels that its finished translation has. A byte
-- that it hasn't found is tabled at level 0: with a home or a callee of that level before the others,
-- the finished translation is as good as it was.
use Rattle.std.proofs.Common.{◌≡◌, ℕ, ◌==◌, Bool, true, false, Option, Some, None, List, [], ◌∷◌, refl, sym, ap, ◌∙◌}
use Rattle.std.specs.Prelude.{if◌then◌else◌}
use Rattle.std.specs.Ordering.{nat_cmp}
use Rattle.std.specs.FinSet.{FinSet}
use Rattle.std.proofs.lemmas.Bool.{eqb-true, eq-eqb}
use Rattle.tg_symbols.specs.Tables.{looked_up}
use Rattle.tg_frame.specs.declared.accesses.Access.TheVariants.{InTemp}
use Rattle.tg_typecheck.specs.Scopes.{outermost_scope, at_of}
use Rattle.tg_typecheck.specs.Programs.{CheckedProgram, IsAccepted}
use Rattle.tg_typecheck.proofs.Derivations.{checked_has_type}
use Rattle.tg_typecheck.proofs.NotesFound.{notes_are_found}
use Rattle.tg_translate.specs.declared.homes.Home.{Home}
use Rattle.tg_translate.specs.declared.homes.Callee.{Callee}
use Rattle.tg_translate.specs.declared.wants.Want.TheVariants as want
use Rattle.tg_translate.specs.mirror.Functions as functions
use Rattle.tg_translate_laws.specs.laws.Laws.{findings_in}
use Rattle.tg_translate_proof.specs.glue.Tables.{Table, IsSuffix}
use Rattle.tg_translate_proof.specs.laws.Laws.{findings_of}
use Rattle.tg_translate_proof.proofs.program.Program.{first_state}
use Rattle.tg_translate_proof.proofs.invariant.Covered.{Declares, HasVariable, HasFunction, IsWeighed}
use Rattle.tg_translate_proof.proofs.state.Tables.{Once, InTable}
use Rattle.tg_translate_proof.proofs.state.TableWalk.{shows}
use Rattle.tg_translate_proof.proofs.program.Accepted.{last, weights, homes_once, callees_once, weighed}
use Rattle.tg_stack_bounds.proofs.Leading.{LevelTable, Leads}
use Rattle.tg_stack_bounds.proofs.Following.{leads, first_agrees}

-- with one more before it, for a byte that it doesn't have
abbrev padded : {A : Type 0} → (at : ℕ) → Option A → A → List (ℕ × A) → List (ℕ × A)
padded at (Some _) a xs = xs
padded at None a xs = (at, a) ∷ xs

padded_behind : {A : Type 0} (at : ℕ) (o : Option A) (a : A) (xs : List (ℕ × A)) → IsSuffix (padded at o a xs) xs
padded_behind at (Some b) a xs = record { more = []; whole_is = refl }
padded_behind at None a xs = record { more = (at, a) ∷ []; whole_is = refl }

named_here : {A : Type 0} (at : ℕ) (a : A) (xs : List (ℕ × A)) → looked_up at ((at, a) ∷ xs) ≡ Some a
named_here at a xs = ap (λ t. if t then Some a else looked_up at xs) (eq-eqb at at refl)

tail_is : {A : Type 0} {x y : A} {xs ys : List A} → x ∷ xs ≡ y ∷ ys → xs ≡ ys
tail_is e = cc

one_more_once : {A : Type 0} (at : ℕ) (a : A) (xs : List (ℕ × A)) → looked_up at xs ≡ None → Once xs → Once ((at, a) ∷ xs)
one_more_once at a xs e once k c [] rest is there = ap (λ l. looked_up k l) is ∙ there
one_more_once at a xs e once k c (m ∷ more) rest is there = by (at == k) refl (once k c more rest (tail_is is) there)
  where
    by : (t : Bool) → (at == k) ≡ t → looked_up k xs ≡ Some c → (if t then Some a else looked_up k xs) ≡ Some c
    by true i h = let same : at ≡ k = eqb-true at k i in let none : looked_up k xs ≡ None = ap (λ j. looked_up j xs) (sym same) ∙ e in cc
    by false i h = h

padded_once : {A : Type 0} (at : ℕ) (o : Option A) (a : A) (xs : List (ℕ × A)) → looked_up at xs ≡ o → Once xs → Once (padded at o a xs)
padded_once at (Some b) a xs e once = once
padded_once at None a xs e once = one_more_once at a xs e once

-- the level of what is found, and 0 for what isn't

abbrev home_level : Option Home → ℕ
home_level (Some home) = home.level
home_level None = 0

abbrev callee_level : Option Callee → ℕ
callee_level (Some callee) = callee.level
callee_level None = 0

abbrev no_home : Home
no_home = record { level = 0; access = InTemp (record { 0 = 0 }) }

abbrev no_callee : Callee
no_callee = record { level = 0; label = record { 0 = 0 } }

module _ (p : CheckedProgram) (a : IsAccepted p) where
  abbrev homes : List (ℕ × Home)
  homes = (last p a).homes

  abbrev callees : List (ℕ × Callee)
  callees = (last p a).callees

  abbrev pub levels : LevelTable
  levels = record { variables = λ at. home_level (looked_up at homes); functions = λ at. callee_level (looked_up at callees) }

  abbrev wide : ℕ → Table
  wide at = record { homes = padded at (looked_up at homes) no_home homes; callees = padded at (looked_up at callees) no_callee callees }

  variable_is : (at n : ℕ) → HasVariable (wide at) n at → n ≡ levels.variables at
  variable_is at n has = by (looked_up at homes) refl has
    where
      by : (o : Option Home) → looked_up at homes ≡ o → ((home : Home) → looked_up at (padded at o no_home homes) ≡ Some home → home.level ≡ n) →
          n ≡ home_level o
      by (Some home) e h = sym (h home e)
      by None e h = sym (h no_home (named_here at no_home homes))

  function_is : (at n : ℕ) → HasFunction (wide at) n at → n ≡ levels.functions at
  function_is at n has = by (looked_up at callees) refl has
    where
      by : (o : Option Callee) → looked_up at callees ≡ o →
          ((callee : Callee) → looked_up at (padded at o no_callee callees) ≡ Some callee → callee.level ≡ n) → n ≡ callee_level o
      by (Some callee) e h = sym (h callee e)
      by None e h = sym (h no_callee (named_here at no_callee callees))

  in_wide : (at : ℕ) → InTable (wide at) (weights p a) (last p a)
  in_wide at = record {
    homes = padded_behind at (looked_up at homes) no_home homes;
    callees = padded_behind at (looked_up at callees) no_callee callees;
    homes_once = padded_once at (looked_up at homes) no_home homes refl (homes_once p a);
    callees_once = padded_once at (looked_up at callees) no_callee callees refl (callees_once p a);
  }

  fits : (at : ℕ) → Declares (HasVariable (wide at)) (IsWeighed (wide at) (weights p a)) 0 [] p.body
  fits at =
      ((shows (wide at) (weights p a) (findings_of p) p.body want.Dropped functions.outermost [] first_state).finds (in_wide at) (weighed p a)).0

  pub accepted_leads : (links : FinSet nat_cmp) → Leads levels (findings_in p links) 0 [] p.body
  accepted_leads links =
      let d = checked_has_type p a in
      leads levels (findings_in p links) d.shapes p.notes (λ at. HasVariable (wide at)) (λ at. IsWeighed (wide at) (weights p a)) variable_is
      (λ f n seen ps body h. function_is (at_of f) n h.0) (λ at m s. (notes_are_found p a at m).0 s) p.body (outermost_scope p.names) d.type 0 [] d.has
      (first_agrees levels (findings_in p links) d.shapes p.notes p.names) fits
