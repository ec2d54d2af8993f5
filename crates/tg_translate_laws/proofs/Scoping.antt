-- Variables, calls and literals are fine, and what is declared is.
use Rattle.std.proofs.Common.{◌≡◌, ◌≢◌, ◌+◌, ◌-◌, ℕ, zero, suc, Bool, true, false, Option, Some, None, List, [], ◌∷◌, ◌++◌, map, refl, ap, subst}
use Rattle.std.proofs.Common.{arith, inl, inr}
use Rattle.std.specs.Prelude.{◌==◌, ◌⊎◌, if◌then◌else◌, IsTrue}
use Rattle.std.specs.List.{Contains}
use Rattle.std.proofs.lemmas.Bool.Decides.{nat_tests}
use Rattle.tg_symbols.specs.Tables.{looked_up}
use Rattle.tg_frame.specs.declared.accesses.Access.{Access}
use Rattle.tg_frame.specs.declared.accesses.Access.TheVariants.{InTemp, InFrame}
use Rattle.tg_frame.specs.Homes.{is_slot}
use Rattle.tg_tree.specs.Tree.{Txs}
use Rattle.tg_typecheck.specs.declared.notes.Means.{Means}
use Rattle.tg_typecheck.specs.declared.notes.Means.TheVariants as means
use Rattle.tg_tree.specs.Memory.{string_text}
use Rattle.tg_translate.specs.declared.homes.Home.{Home}
use Rattle.tg_translate.specs.declared.homes.Callee.{Callee}
use Rattle.tg_translate.specs.mirror.States.{TranslationState}
use Rattle.tg_translate.specs.mirror.Constructs.{Storage}
use Rattle.tg_translate.specs.mirror.Scopes.{frame_at, nowhere, no_value, home_place, variable_place, routine_of, call_declared, call, literal}
use Rattle.tg_translate_laws.specs.Standing.{IsInReach}
use Rattle.tg_translate_laws.proofs.Counts.{times-append, same, same_not, below-next, contained_counts, counted_contains}
use Rattle.tg_translate.specs.mirror.Constructs as constructs
use Rattle.tg_translate_laws.proofs.Counts as counts
use Rattle.tg_translate_laws.proofs.Keeping.{Asks, Where, callee_labels, literal_labels, given, Ready, Step, Yields, GoodTx, GoodTxs, GoodMade, GoodPlace}
use Rattle.tg_translate_laws.proofs.Keeping.{GoodAccess, IsDrawn, functions_on}
use Rattle.tg_translate_laws.proofs.Constructing as constructing

-- What has a name in a table.

named_either : {A : Type 0} (x at : ℕ) (h v : A) (rest : List (ℕ × A)) (b : Bool) → (at == x) ≡ b →
    (if b then Some h else looked_up x rest) ≡ Some v → ((at ≡ x) × (h ≡ v)) ⊎ ((at ≢ x) × (looked_up x rest ≡ Some v))
named_either x at h v rest true e k = inl (grind (arith, nat_tests, e), cc)
named_either x at h v rest false e k = inr (grind (arith, nat_tests, e), k)

pub named_cases : {A : Type 0} (x at : ℕ) (h v : A) (rest : List (ℕ × A)) →
    looked_up x ((at, h) ∷ rest) ≡ Some v → ((at ≡ x) × (h ≡ v)) ⊎ ((at ≢ x) × (looked_up x rest ≡ Some v))
named_cases x at h v rest k = named_either x at h v rest (at == x) refl k

other_test : (x at : ℕ) → at ≢ x → (at == x) ≡ false
other_test x at h = grind (arith, nat_tests)

pub named_other : {A : Type 0} (x at : ℕ) (h : A) (rest : List (ℕ × A)) → at ≢ x → looked_up x ((at, h) ∷ rest) ≡ looked_up x
    rest
named_other x at h rest ne = ap (λ b. if b then Some h else looked_up x rest) (other_test x at ne)

pub more_contained : (x y : ℕ) (xs : List ℕ) → Contains xs y → Contains (x ∷ xs) y
more_contained x y xs c = (suc c.0, omega (arith, c.1), c.2)

pub first_contained : (x : ℕ) (xs : List ℕ) → Contains (x ∷ xs) x
first_contained x xs = (0, omega arith, refl)

pub behind_first : (x y : ℕ) (xs : List ℕ) → x ≢ y → Contains (x ∷ xs) y → Contains xs y
behind_first x y xs ne (zero, l, e) = absurd (ne e)
behind_first x y xs ne (suc k, l, e) = (k, omega arith, e)

pub pushed_contained : {X : Type 0} (label : X → ℕ) (xs : List X) (x : X) (n : ℕ) → Contains (map label xs) n → Contains
    (map label (xs ++ x ∷ [])) n
pushed_contained label xs x n c =
    let h = contained_counts label xs n c in
    let k = times-append label n xs (x ∷ []) in
    counted_contains label (xs ++ x ∷ []) n (omega (arith, h, k))

named_callee : (at : ℕ) (callee : Callee) (xs : List (ℕ × Callee)) → looked_up at xs ≡ Some callee → Contains
    (map (λ e. e.1.label.0) xs) callee.label.0
named_callee at callee [] e = cc
named_callee at callee (entry ∷ rest) e =
    elim (named_cases at entry.0 entry.1 callee rest e) [
      | inl h ↦ subst (λ v. Contains (map (λ e. e.1.label.0) (entry ∷ rest)) v.label.0) h.1
          (first_contained entry.1.label.0 (map (λ e. e.1.label.0) rest))
      | inr h ↦ more_contained entry.1.label.0 callee.label.0 (map (λ e. e.1.label.0) rest)
          (named_callee at callee rest h.1)
    ]

module _ (asks : Asks) where
  frame_good : (c : Where) (s : TranslationState) (level : ℕ) → Ready asks c s → GoodTx asks c.loops s (frame_at c.within level)
  frame_good c s level r =
      constructing.frame_out_good asks c.loops s c.within.link_in_slot (c.within.level - level)
      (λ t l e. r.link t (omega (arith, l)) e)

  access_good : (s : TranslationState) (a : Access) → (asks.temps → IsDrawn asks s.frame.temps a ⊎ IsTrue (is_slot a)) → GoodAccess asks s a
  access_good s (InTemp i) h = λ t. elim (h t) [ inl d ↦ d | inr e ↦ cc ]
  access_good s (InFrame k) h = tt

  reached : (c : Where) (s : TranslationState) (at : ℕ) (home : Home) → Ready asks c s →
      (asks.temps → Contains c.own at ⊎ (asks.findings.escapes at ≡ true)) →
      looked_up at s.homes ≡ Some home → asks.temps → IsDrawn asks s.frame.temps home.access ⊎ IsTrue (is_slot home.access)
  reached c s at home r h e t = elim (h t) [ inl o ↦ inl (r.owned t at home o e) | inr k ↦ inr (r.slots t at home k e) ]

  home_good : (c : Where) (s : TranslationState) (at : ℕ) (found : Option Home) → Ready asks c s →
      (asks.temps → Contains c.own at ⊎ (asks.findings.escapes at ≡ true)) →
      looked_up at s.homes ≡ found → GoodPlace asks c.loops s (home_place c.within found)
  home_good c s at None r h e = (tt, tt)
  home_good c s at (Some home) r h e =
      constructing.place_in_good asks c.loops s (frame_at c.within home.level) home.access
      (frame_good c s home.level r)
      (access_good s home.access (reached c s at home r h e))

  pub variable_yields : (c : Where) (s : TranslationState) (meaning : Option Means) → Ready asks c s →
      (asks.temps → IsInReach asks.findings c.own meaning) →
      Yields asks c s (λ t p. GoodPlace asks c.loops t p) (variable_place c.within meaning s)
  variable_yields c s None r h = given nowhere r
      (tt, tt)
  variable_yields c s (Some (means.Variable at)) r h =
      given (home_place c.within (looked_up at s.homes)) r
      (home_good c s at (looked_up at s.homes) r h refl)
  variable_yields c s (Some other) r h = given nowhere r
      (tt, tt)

  callee_good : (c : Where) (s : TranslationState) (at : ℕ) (xs : Txs) (found : Option Callee) → Ready asks c s → GoodTxs asks c.loops s xs →
      looked_up at s.callees ≡ found → GoodTx asks c.loops s (call_declared c.within xs found)
  callee_good c s at xs None r h e = tt
  callee_good c s at xs (Some callee) r h e = (
    inr (named_callee at callee s.callees e),
    (frame_good c s callee.level r, h),
  )

  pub call_yields : (c : Where) (s : TranslationState) (meaning : Option Means) (xs : Txs) → Ready asks c s → GoodTxs asks c.loops s xs →
      Yields asks c s (λ t x. GoodTx asks c.loops t x) (call c.within meaning xs s)
  call_yields c s None xs r h = given no_value r tt
  call_yields c s (Some (means.Standard f)) xs r h =
      given (constructs.call_routine (routine_of f) xs) r
      (constructing.routine_good asks c.loops s (routine_of f) xs h)
  call_yields c s (Some (means.Function at)) xs r h =
      given (call_declared c.within xs (looked_up at s.callees)) r
      (callee_good c s at xs (looked_up at s.callees) r h refl)
  call_yields c s (Some other) xs r h = given no_value r tt

  -- A literal draws its label.

  abbrev with_literal : List ℕ → TranslationState → TranslationState
  with_literal bytes s = record s {
    label = s.label + 1;
    literals = s.literals ++ record { label = s.label; text = string_text bytes } ∷ [];
  }

  literal_step : (kept : List ℕ) (s : TranslationState) (bytes : List ℕ) → Step asks kept s (with_literal bytes s)
  literal_step kept s bytes = record {
    grows =
        record {
          label = omega arith;
          temps = omega arith;
          name = refl;
          callees = λ l h. h;
          literals = λ l h. pushed_contained (λ k. k.label) s.literals (record { label = s.label; text = string_text bytes }) l h;
          homes = λ t at h. refl;
        };
    balance = λ n.
        let h = times-append (λ k. k.label) n s.literals (record { label = s.label; text = string_text bytes } ∷ []) in
        let k = below-next n s.label in
        omega (arith, h, k);
  }

  literal_ready : (c : Where) (s : TranslationState) (bytes : List ℕ) → Ready asks c s → Ready asks c (with_literal bytes s)
  literal_ready c s bytes r = record {
    from = let k = r.from in omega (arith, k);
    callees = λ l h.
        let k = r.callees l h in
        let m = times-append (λ j. j.label) l s.literals (record { label = s.label; text = string_text bytes } ∷ []) in
        let n : same s.label l ≡ 0 = same_not s.label l (omega (arith, k.1)) in
        (k.0, omega (arith, k.1), omega (arith, k.2, m, n));
    unused = λ l h.
        let k = r.unused l (omega (arith, h)) in
        let m = times-append (λ j. j.label) l s.literals (record { label = s.label; text = string_text bytes } ∷ []) in
        let n : same s.label l ≡ 0 = same_not s.label l (omega (arith, h)) in
        omega (arith, k, m, n);
    functions =
        functions_on asks (callee_labels s) (literal_labels s) (callee_labels s)
        (literal_labels (with_literal bytes s))
        (λ l h. h) (λ l h. pushed_contained (λ k. k.label) s.literals
        (record { label = s.label; text = string_text bytes }) l h) s.functions r.functions;
    owned = r.owned;
    slots = r.slots;
    link = r.link;
    loops = r.loops;
  }

  pub literal_yields : (c : Where) (s : TranslationState) (bytes : List ℕ) → Ready asks c s → Yields asks c s (λ t m. GoodMade asks c.loops t m)
      (literal bytes s)
  literal_yields c s bytes r = record {
    step = literal_step c.kept s bytes;
    ready = literal_ready c s bytes r;
    value =
        counted_contains (λ k. k.label) (with_literal bytes s).literals s.label
        (let h = times-append (λ k. k.label) s.label s.literals (record { label = s.label; text = string_text bytes } ∷ []) in
        let k = counts.same_self s.label in omega (arith, h, k));
  }
