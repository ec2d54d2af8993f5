-- The finished translation has each variable and function that a text declares, at the level of the
-- text that declares it; and its functions stand in the order of the text.
use Rattle.std.proofs.Common.{◌≡◌, ◌≤◌, ◌+◌, ℕ, suc, Bool, true, false, Option, Some, List, [], ◌∷◌}
use Rattle.std.proofs.Common.{◌++◌, length, map, refl, sym, ap, ◌∙◌, arith, subst, inl, inr, append_assoc, append-nil}
use Rattle.std.specs.Prelude.{if◌then◌else◌, ◌==◌, ◌⊎◌}
use Rattle.std.specs.List.{AllZip, Contains}
use Rattle.std.proofs.lemmas.Bool.{eqb-true, eq-eqb}
use Rattle.std.proofs.lemmas.List.Elements.{Contains-append_left, Contains-append_right}
use Rattle.tg_syntax.specs.declared.tokens.Ident.{Ident}
use Rattle.tg_syntax.specs.declared.trees.Op.{Op}
use Rattle.tg_syntax.specs.declared.trees.Op.TheVariants as op
use Rattle.tg_syntax.specs.declared.trees.Param.{Param}
use Rattle.tg_syntax.specs.Functions.{Measures, Levels, measures, own, own_params, declared}
use Rattle.tg_syntax.specs.Functions.{declared_functions}
use Rattle.tg_syntax.specs.Tree.{Exp}
use Rattle.tg_syntax.specs.Tree.{variable, functions, FunDecs}
use Rattle.tg_syntax.specs.Tree.{no_functions, function}
use Rattle.tg_symbols.specs.Tables.{looked_up}
use Rattle.tg_frame.specs.declared.accesses.Access.{Access}
use Rattle.tg_frame.specs.Homes.{homes_from}
use Rattle.tg_tree.specs.Tree.{Tx, Cond, Ts, Function}
use Rattle.tg_semantics.specs.Levels.{activation}
use Rattle.tg_typecheck.specs.declared.notes.Means.{Means}
use Rattle.tg_translate.specs.declared.homes.Home.{Home}
use Rattle.tg_translate.specs.declared.homes.Callee.{Callee}
use Rattle.tg_translate.specs.declared.wants.Want.{Want}
use Rattle.tg_translate.specs.declared.wants.Want.TheVariants as want
use Rattle.tg_translate.specs.mirror.States.{TranslationState, Translates, Translated, drawn, after, give}
use Rattle.tg_translate.specs.mirror.Wants.{Made, value_of, test_of, arms, deliver, behind}
use Rattle.tg_translate.specs.mirror.Constructs.{Storage, own_place, want_for, read_held, place_held, operation}
use Rattle.tg_translate.specs.mirror.Choices.{chosen}
use Rattle.tg_translate.specs.mirror.Scopes.{compares_strings, declare_variable}
use Rattle.tg_translate.specs.mirror.Functions.{at_of, asked, parameters, own_homes, frame_for, declare_functions, with_body, finish, opened}
use Rattle.tg_translate.specs.mirror.Functions.{body}
use Rattle.tg_translate.specs.mirror.Translate.{connective, with_left, chosen_arm, assigned, updated, declaration_of}
use Rattle.tg_translate.specs.mirror.Translate.{declarations}
use Rattle.tg_translate_laws.proofs.Counts.{same, times}
use Rattle.tg_translate_proof.specs.glue.Tables.{Table, IsSuffix}
use Rattle.tg_translate_proof.proofs.state.TranslationStates.{state_in, behind_none, behind_on}
use Rattle.tg_translate_proof.proofs.state.StatesGrow.{Growing, then_grows, homes_grow, callee_grows}
use Rattle.tg_translate_proof.proofs.state.StatesGrow.{done_grows, one_behind, parameters_behind, nothing_grows, functions_declared_grow}
use Rattle.tg_translate_proof.proofs.state.NothingDeclared.{Quiet, stays, local_quiet, value_quiet, arms_quiet, assign_quiet, hold_place_quiet}
use Rattle.tg_translate_proof.proofs.state.NothingDeclared.{operation_quiet}
use Rattle.tg_translate_proof.proofs.invariant.Covered.{Declares, DeclareParams, DeclaresFunctions, HasVariable, HasFunction, IsWeighed}
use Rattle.tg_translate_proof.proofs.state.DeclaredBytes.{params_declare, names_declare, declares, bodies_declare}

-- what a list has at its end it has as a whole
abbrev pub Once : {A : Type 0} → List (ℕ × A) → Type 0
Once {A} whole = (at : ℕ) (a : A) (more rest : List (ℕ × A)) → whole ≡ more ++ rest → looked_up at rest ≡ Some a → looked_up at whole ≡ Some a

-- how often a byte has a home or a callee
abbrev pub found_times : ℕ → TranslationState → ℕ
found_times k s = times (λ h. h.0) k s.homes + times (λ c. c.0) k s.callees

-- a callee is an earlier one, or that of one of these functions
abbrev pub IsOwned : List Measures → (s t : TranslationState) → Type 0
IsOwned ms s t = (at : ℕ) (c : Callee) → looked_up at t.callees ≡ Some c → (looked_up at s.callees ≡ Some c) ⊎ ((m : Measures) × Contains ms m × (m.at ≡ at))

some_is : {A : Type 0} {a b : A} → Some a ≡ Some b → a ≡ b
some_is e = cc

named_here : {A : Type 0} (at : ℕ) (a : A) (xs : List (ℕ × A)) → looked_up at ((at, a) ∷ xs) ≡ Some a
named_here at a xs = ap (λ t. if t then Some a else looked_up at xs) (eq-eqb at at refl)

module _ (table : Table) (weight : (at : ℕ) → ℕ) where
  -- what a state has found stays in the table
  pub record InTable (t : TranslationState) : Type 0 where
    pub homes : IsSuffix table.homes t.homes
    pub callees : IsSuffix table.callees t.callees
    pub homes_once : Once table.homes
    pub callees_once : Once table.callees

  before_it : {A : Type 0} {d : Translated A} {s : TranslationState} → Growing d s → InTable (state_in d) → InTable s
  before_it g h = record {
    homes = behind_on h.homes g.on.homes;
    callees = behind_on h.callees g.on.callees;
    homes_once = h.homes_once;
    callees_once = h.callees_once;
  }

  -- each of these functions weighs what the table of weights says
  abbrev pub AreWeighed : List Measures → Type 0
  AreWeighed ms = (m : Measures) → Contains ms m → weight m.at ≡ activation m.nodes m.hops

  -- a function that was made, with the text that it was made of
  pub record IsTied (m : Measures) (f : Function Ts) : Type 0 where
    pub callee : Callee
    pub tabled : looked_up m.at table.callees ≡ Some callee
    pub label : callee.label.0 ≡ f.label
    pub level : m.level ≡ suc callee.level

  pub record AreTied (ms : List Measures) (fs gs : List (Function Ts)) : Type 0 where
    pub added : List (Function Ts)
    pub whole : gs ≡ fs ++ added
    pub tied : AllZip IsTied ms added

  tied_append : (ms ns : List Measures) (fs gs : List (Function Ts)) → AllZip IsTied ms fs → AllZip IsTied ns gs → AllZip IsTied (ms ++ ns) (fs ++ gs)
  tied_append [] ns [] gs h k = k
  tied_append [] ns (f ∷ fs) gs h k = absurd h
  tied_append (m ∷ ms) ns [] gs h k = absurd h
  tied_append (m ∷ ms) ns (f ∷ fs) gs h k = (h.0, tied_append ms ns fs gs h.1 k)

  tied_on : (ms ns : List Measures) (fs gs hs : List (Function Ts)) → AreTied ms fs gs → AreTied ns gs hs → AreTied (ms ++ ns) fs hs
  tied_on ms ns fs gs hs h k = record {
    added = h.added ++ k.added;
    whole = k.whole ∙ ap (λ l. l ++ k.added) h.whole ∙ append_assoc fs h.added k.added;
    tied = tied_append ms ns h.added k.added h.tied k.tied;
  }

  tied_none : (fs gs : List (Function Ts)) → gs ≡ fs → AreTied [] fs gs
  tied_none fs gs e = record { added = []; whole = e ∙ sym (append-nil fs); tied = tt }

  -- What is drawn from a state on, for a text that declares so many bytes and these functions, of
  -- whose declarations this holds.
  pub record Shows {A : Type 0} (N : ℕ → ℕ) (M : List Measures) (D : Type 0) (d : Translated A) (s : TranslationState) : Type 0 where
    pub grows : Growing d s
    pub counts : (k : ℕ) → found_times k (state_in d) ≤ found_times k s + N k
    pub owned : IsOwned M s (state_in d)
    pub finds : InTable (state_in d) → AreWeighed M → D × AreTied M s.functions (state_in d).functions

  -- One after another.

  pub both : {A B : Type 0} {N L : ℕ → ℕ} {M K : List Measures} {D E : Type 0} {s : TranslationState} {d : Translated A} {next : A → Translates B} → Shows N M D d s →
      ((a : A) (t : TranslationState) → Shows L K E (next a t) t) → Shows (λ k. N k + L k) (M ++ K) (D × E) (after d next) s
  both {N = N} {L = L} {M = M} {K = K} {s = s} {d = drawn a t} {next = next} h f =
      let g = f a t in
      record {
        grows = then_grows h.grows (λ b u. (f b u).grows);
        counts = λ k. let x = h.counts k in let y = g.counts k in omega (arith, x, y);
        owned = λ at c e. elim (g.owned at c e) [
          | inl i ↦ elim (h.owned at c i) [
            | inl j ↦ inl j
            | inr j ↦ inr (j.0, Contains-append_left M K j.0 j.1, j.2)
          ]
          | inr i ↦ inr (i.0, Contains-append_right M K i.0 i.1, i.2)
        ];
        finds = λ there weighs.
            let y = g.finds there (λ m c. weighs m (Contains-append_right M K m c)) in
            let x = h.finds (before_it g.grows there) (λ m c. weighs m (Contains-append_left M K m c)) in
            ((x.0, y.0), tied_on M K s.functions t.functions (state_in (next a t)).functions x.1 y.1);
      }

  pub quiet_then : {A B : Type 0} {N : ℕ → ℕ} {M : List Measures} {D : Type 0} {s : TranslationState} {d : Translated A} {next : A → Translates B} → Quiet d s →
      ((a : A) (t : TranslationState) → Shows N M D (next a t) t) → Shows N M D (after d next) s
  quiet_then {N = N} {M = M} {D = D} {s = s} {d = drawn a t} {next = next} h f =
      let g = f a t in
      record {
        grows = then_grows h.grows (λ b u. (f b u).grows);
        counts = λ k.
            let x = g.counts k in
            let y = ap (λ l. times (λ o. o.0) k l) h.homes in
            let z = ap (λ l. times (λ o. o.0) k l) h.callees in
            omega (arith, x, y, z);
        owned = λ at c e. elim (g.owned at c e) [ inl i ↦ inl (ap (λ l. looked_up at l) (sym h.callees) ∙ i) | inr i ↦ inr i ];
        finds = λ there weighs.
            let y = g.finds there weighs in
            (y.0, subst (λ l. AreTied M l (state_in (next a t)).functions) h.functions y.1);
      }

  pub then_stays : {A B : Type 0} {N : ℕ → ℕ} {M : List Measures} {D : Type 0} {s : TranslationState} {d : Translated A} {next : A → Translates B} → Shows N M D d s →
      ((a : A) (t : TranslationState) → Quiet (next a t) t) → Shows N M D (after d next) s
  then_stays {N = N} {M = M} {D = D} {s = s} {d = drawn a t} {next = next} h f =
      let g = f a t in
      record {
        grows = then_grows h.grows (λ b u. (f b u).grows);
        counts = λ k.
            let x = h.counts k in
            let y = ap (λ l. times (λ o. o.0) k l) g.homes in
            let z = ap (λ l. times (λ o. o.0) k l) g.callees in
            omega (arith, x, y, z);
        owned = λ at c e. h.owned at c (ap (λ l. looked_up at l) (sym g.callees) ∙ e);
        finds = λ there weighs.
            let y = h.finds (record {
              homes = subst (λ l. IsSuffix table.homes l) g.homes there.homes;
              callees = subst (λ l. IsSuffix table.callees l) g.callees there.callees;
              homes_once = there.homes_once;
              callees_once = there.callees_once;
            }) weighs in
            (y.0, subst (λ l. AreTied M s.functions l) (sym g.functions) y.1);
      }

  -- what declares nothing
  pub shows_none : {A : Type 0} {d : Translated A} {s : TranslationState} → Quiet d s → Shows (λ k. 0) [] (Unit {0}) d s
  shows_none {d = d} {s = s} h = record {
    grows = h.grows;
    counts = λ k.
        let y = ap (λ l. times (λ o. o.0) k l) h.homes in
        let z = ap (λ l. times (λ o. o.0) k l) h.callees in
        omega (arith, y, z);
    owned = λ at c e. inl (ap (λ l. looked_up at l) (sym h.callees) ∙ e);
    finds = λ there weighs. (tt, tied_none s.functions (state_in d).functions h.functions);
  }

  -- said of the same in other words
  pub told : {A : Type 0} {N : ℕ → ℕ} {M : List Measures} {D : Type 0} {d : Translated A} {s : TranslationState} (L : ℕ → ℕ) (K : List Measures) (E : Type 0) →
      ((k : ℕ) → N k ≤ L k) → M ≡ K → (D → E) → Shows N M D d s → Shows L K E d s
  told {N = N} {M = M} {d = d} {s = s} L K E few same on h = record {
    grows = h.grows;
    counts = λ k. let x = h.counts k in let y = few k in omega (arith, x, y);
    owned = λ at c e. elim (h.owned at c e) [ inl i ↦ inl i | inr i ↦ inr (i.0, subst (λ l. Contains l i.0) same i.1, i.2) ];
    finds = λ there weighs.
        let y = h.finds there (λ m c. weighs m (subst (λ l. Contains l m) same c)) in
        (on y.0, subst (λ l. AreTied l s.functions (state_in d).functions) same y.1);
  }

  -- A variable is declared.

  has_variable : (t : TranslationState) (at : ℕ) (home : Home) (rest : List (ℕ × Home)) → InTable t → IsSuffix t.homes ((at, home) ∷ rest) →
      HasVariable table home.level at
  has_variable t at home rest h b other e =
      let all : IsSuffix table.homes ((at, home) ∷ rest) = behind_on h.homes b in
      let here : looked_up at table.homes ≡ Some home = h.homes_once at home all.more ((at, home) ∷ rest) all.whole_is (named_here at home rest) in
      ap (λ o. o.level) (some_is (sym e ∙ here))

  home_declared : {A : Type 0} {a : A} (at : ℕ) (home : Home) (s : TranslationState) →
      Shows (λ k. same at k) [] (HasVariable table home.level at) (drawn a (record s { homes = (at, home) ∷ s.homes })) s
  home_declared at home s = record {
    grows = homes_grow s ((at, home) ∷ s.homes) (one_behind (at, home) s.homes) nothing_grows;
    counts = λ k. omega arith;
    owned = λ a c e. inl e;
    finds = λ h weighs. (has_variable (record s { homes = (at, home) ∷ s.homes }) at home s.homes h behind_none, tied_none s.functions s.functions refl);
  }

  pub declared_variable : (escapes : Bool) (level at : ℕ) (s : TranslationState) →
      Shows (λ k. same at k) [] (HasVariable table level at) (declare_variable escapes level at s) s
  declared_variable escapes level at s =
      quiet_then (local_quiet escapes s)
      (λ access t. home_declared {a = access} at (record { level = level; access = access }) t)

  -- Parameters are declared together.

  params_counted : (k level : ℕ) (ps : List Param) (homes : List Access) (seen : List (ℕ × Home)) →
      times (λ h. h.0) k (parameters level ps homes seen) ≤ times (λ h. h.0) k seen + params_declare k ps
  params_counted k level [] homes seen = omega arith
  params_counted k level (p ∷ ps) [] seen = omega arith
  params_counted k level (p ∷ ps) (home ∷ homes) seen =
      let h = params_counted k level ps homes ((at_of p.name, record { level = level; access = home }) ∷ seen) in omega (arith, h)

  params_found : (t : TranslationState) (level : ℕ) (ps : List Param) (homes : List Access) (seen : List (ℕ × Home)) → length homes ≡ length ps → InTable t →
      IsSuffix t.homes (parameters level ps homes seen) → DeclareParams (HasVariable table) (IsWeighed table weight) level ps
  params_found t level [] homes seen e h b = tt
  params_found t level (p ∷ ps) [] seen e h b = absurd (omega (arith, e))
  params_found t level (p ∷ ps) (home ∷ homes) seen e h b =
      let one : Home = record { level = level; access = home } in
      let more = (at_of p.name, one) ∷ seen in (
        has_variable t (at_of p.name) one seen h (behind_on b (parameters_behind level ps homes more)),
        params_found t level ps homes more (omega (arith, e)) h b,
      )

  homes_many : (i j : ℕ) (asks : List Bool) → length (homes_from i j asks) ≡ length asks
  homes_many i j [] = refl
  homes_many i j (true ∷ asks) = ap suc (homes_many (i + 1) j asks)
  homes_many i j (false ∷ asks) = ap suc (homes_many i (j + 1) asks)

  map_many : (escapes : ℕ → Bool) (ps : List Param) → length (map (λ p. escapes (at_of p.name)) ps) ≡ length ps
  map_many escapes [] = refl
  map_many escapes (p ∷ ps) = ap suc (map_many escapes ps)

  pub own_many : (escapes : ℕ → Bool) (kept : Bool) (ps : List Param) → length (own_homes (homes_from 0 0 (asked escapes kept ps))) ≡ length ps
  own_many escapes true ps = homes_many 1 0 (map (λ p. escapes (at_of p.name)) ps) ∙ map_many escapes ps
  own_many escapes false ps = homes_many 0 1 (map (λ p. escapes (at_of p.name)) ps) ∙ map_many escapes ps

  -- with parameters declared before it
  pub with_params : {A : Type 0} {N : ℕ →
      ℕ} {M : List Measures} {D : Type 0} {d : Translated A} (level : ℕ) (ps : List Param) (homes : List Access) (s : TranslationState) →
      length homes ≡ length ps → Shows N M D d (record s { homes = parameters level ps homes s.homes }) →
      Shows (λ k. params_declare k ps + N k) M (DeclareParams (HasVariable table) (IsWeighed table weight) level ps × D) d s
  with_params {N = N} {M = M} {d = drawn a t} level ps homes s e h = record {
    grows = homes_grow s (parameters level ps homes s.homes) (parameters_behind level ps homes s.homes) h.grows;
    counts = λ k. let x = h.counts k in let y = params_counted k level ps homes s.homes in omega (arith, x, y);
    owned = h.owned;
    finds = λ there weighs.
        let y = h.finds there weighs in
        ((params_found t level ps homes s.homes e there h.grows.on.homes, y.0), y.1);
  }

  -- Functions are declared together.

  abbrev pub HaveCallees : (level label : ℕ) → FunDecs → Type 0
  HaveCallees level label no_functions = Unit {0}
  HaveCallees level label (function f _ _ _ rest) =
      (looked_up (at_of f) table.callees ≡ Some (record { level = level; label = record { 0 = label } })) × HaveCallees level (label + 1) rest

  -- a name of the group, among earlier callees
  abbrev IsName : FunDecs → (at : ℕ) → Type 0
  IsName no_functions at = ⊥
  IsName (function f _ _ _ rest) at = (at_of f ≡ at) ⊎ IsName rest at

  abbrev pub state_by : (level : ℕ) → FunDecs → TranslationState → TranslationState
  state_by level fs s = state_in (declare_functions level fs s)

  abbrev with_callee : (level : ℕ) → Ident → TranslationState → TranslationState
  with_callee level f s =
      record s { label = s.label + 1; callees = (at_of f, record { level = level; label = record { 0 = s.label } }) ∷ s.callees }

  group_grows : (level : ℕ) (fs : FunDecs) (s : TranslationState) → Growing (declare_functions level fs s) s
  group_grows level fs s = functions_declared_grow level fs s

  group_counted : (k level : ℕ) (fs : FunDecs) (s : TranslationState) → found_times k (state_by level fs s) ≤ found_times k s + names_declare k fs
  group_counted k level no_functions s = omega arith
  group_counted k level (function f ps r e rest) s = let h = group_counted k level rest (with_callee level f s) in omega (arith, h)

  group_found : (level : ℕ) (fs : FunDecs) (s : TranslationState) → InTable (state_by level fs s) → HaveCallees level s.label fs
  group_found level no_functions s h = tt
  group_found level (function f ps r e rest) s h =
      let one : Callee = record { level = level; label = record { 0 = s.label } } in
      let all : IsSuffix table.callees ((at_of f, one) ∷ s.callees) = behind_on h.callees (group_grows level rest (with_callee level f s)).on.callees in (
        h.callees_once (at_of f) one all.more ((at_of f, one) ∷ s.callees) all.whole_is (named_here (at_of f) one s.callees),
        group_found level rest (with_callee level f s) h,
      )

  one_owned : (x at : ℕ) (c d : Callee) (rest : List (ℕ × Callee)) (t : Bool) → (x == at) ≡ t → (if t then Some d else looked_up at rest) ≡ Some c →
      (x ≡ at) ⊎ (looked_up at rest ≡ Some c)
  one_owned x at c d rest true is e = inl (eqb-true x at is)
  one_owned x at c d rest false is e = inr e

  group_owned : (level : ℕ) (fs : FunDecs) (s : TranslationState) (at : ℕ) (c : Callee) → looked_up at (state_by level fs s).callees ≡ Some c →
      (looked_up at s.callees ≡ Some c) ⊎ IsName fs at
  group_owned level no_functions s at c e = inl e
  group_owned level (function f ps r b rest) s at c e = elim (group_owned level rest (with_callee level f s) at c e) [
    | inl i ↦ elim (one_owned (at_of f) at c (record { level = level; label = record { 0 = s.label } }) s.callees (at_of f == at) refl i) [
      | inl j ↦ inr (inl j)
      | inr j ↦ inl j
    ]
    | inr i ↦ inr (inr i)
  ]

  group_functions : (level : ℕ) (fs : FunDecs) (s : TranslationState) → (state_by level fs s).functions ≡ s.functions
  group_functions level no_functions s = refl
  group_functions level (function f ps r e rest) s = group_functions level rest (with_callee level f s)

  name_measured : (n : ℕ) (seen : Levels) (fs : FunDecs) (at : ℕ) → IsName fs at → (m : Measures) × Contains (declared_functions n seen fs) m × (m.at ≡ at)
  name_measured n seen no_functions at h = absurd h
  name_measured n seen (function f ps r e rest) at (inl same) =
      (measures f.span.from (suc n) seen ps e, (0, omega arith, refl), same)
  name_measured n seen (function f ps r e rest) at (inr h) =
      let i = name_measured n seen rest at h in
      let inner = declared (suc n) (own_params (suc n) ps seen) e in
      let first = measures f.span.from (suc n) seen ps e in
      (i.0, Contains-append_right (first ∷ inner) (declared_functions n seen rest) i.0 i.1, i.2)

  group_then : {A : Type 0} {d : Translated A} (level : ℕ) (fs : FunDecs) (s : TranslationState) → Growing d (state_by level fs s) → Growing d s
  group_then level no_functions s g = g
  group_then level (function f ps r e rest) s g =
      callee_grows s (at_of f) (record { level = level; label = record { 0 = s.label } }) (group_then level rest (with_callee level f s) g)

  -- Bodies of a group, whose names are declared.

  pub record ShowsBodies (n label : ℕ) (seen : Levels) (fs : FunDecs) (d : Translated (Unit {0})) (s : TranslationState) : Type 0 where
    pub grows : Growing d s
    pub counts : (k : ℕ) → found_times k (state_in d) ≤ found_times k s + bodies_declare k fs
    pub owned : IsOwned (declared_functions n seen fs) s (state_in d)
    pub finds :
        HaveCallees n label fs → InTable (state_in d) → AreWeighed (declared_functions n seen fs) →
        DeclaresFunctions (HasVariable table) (IsWeighed table weight) n seen fs × AreTied (declared_functions n seen fs) s.functions (state_in d).functions

  -- a group, and what comes after it
  pub group_shows : {A : Type 0} {L : ℕ →
      ℕ} {K : List Measures} {E : Type 0} (n : ℕ) (seen : Levels) (fs : FunDecs) (s : TranslationState) (d : Translated (Unit {0})) (next : Unit {0} → Translates A) →
      ShowsBodies n s.label seen fs d (state_by n fs s) → ((t : TranslationState) → Shows L K E (next tt t) t) →
      Shows (λ k. names_declare k fs + (bodies_declare k fs + L k)) (declared_functions n seen fs ++ K)
      (DeclaresFunctions (HasVariable table) (IsWeighed table weight) n seen fs × E) (after d next) s
  group_shows {L = L} {K = K} n seen fs s (drawn a t) next h f =
      let g = f t in
      let u = state_by n fs s in
      let M = declared_functions n seen fs in
      record {
        grows = group_then n fs s (then_grows h.grows (λ b v. (f v).grows));
        counts = λ k. let x = h.counts k in let y = g.counts k in let z = group_counted k n fs s in omega (arith, x, y, z);
        owned = λ at c e. elim (g.owned at c e) [
          | inl i ↦ elim (h.owned at c i) [
            | inl j ↦ elim (group_owned n fs s at c j) [
              | inl l ↦ inl l
              | inr l ↦ (let q = name_measured n seen fs at l in inr (q.0, Contains-append_left M K q.0 q.1, q.2))
            ]
            | inr j ↦ inr (j.0, Contains-append_left M K j.0 j.1, j.2)
          ]
          | inr i ↦ inr (i.0, Contains-append_right M K i.0 i.1, i.2)
        ];
        finds = λ there weighs.
            let y = g.finds there (λ m c. weighs m (Contains-append_right M K m c)) in
            let before : InTable t = before_it g.grows there in
            let x = h.finds (group_found n fs s (before_it h.grows before)) before (λ m c. weighs m (Contains-append_left M K m c)) in (
              (x.0, y.0),
              tied_on M K s.functions t.functions (state_in (next tt t)).functions
                  (subst (λ l. AreTied M l t.functions) (group_functions n fs s) x.1) y.1,
            );
      }

  -- A body in a frame of its own.

  frame_of : {A : Type 0} → Translated A → List (Function Ts)
  frame_of d = (state_in d).functions

  body_shows : {N : ℕ → ℕ} {M : List Measures} {D : Type 0} {d : Translated Ts} (n label : ℕ) (asks : List Bool) (m : Measures) (s : TranslationState) →
      m.level ≡ suc n →
      Shows N M D d (opened s (frame_for label asks)) →
      (InTable (state_in (finish s d)) → looked_up m.at table.callees ≡ Some (record { level = n; label = record { 0 = label } })) →
      (InTable (state_in (finish s d)) → AreWeighed (m ∷ M) → D × AreTied (m ∷ M) s.functions (state_in (finish s d)).functions)
  body_shows {M = M} {d = drawn x u} n label asks m s deep h have there weighs =
      let y = h.finds (record { homes = there.homes; callees = there.callees; homes_once = there.homes_once; callees_once = there.callees_once })
      (λ k c. weighs k (Contains-append_right (m ∷ []) M k c)) in
      let own : AreTied M [] u.functions = y.1 in (
        y.0,
        record {
          added = with_body u.frame x ∷ own.added;
          whole = ap (λ l. s.functions ++ with_body u.frame x ∷ l) own.whole;
          tied = (
            record { callee = record { level = n; label = record { 0 = label } }; tabled = have there; label = sym h.grows.frame.label; level = deep },
            own.tied,
          );
        },
      )

  one_body : {N : ℕ → ℕ} {M : List Measures} {D : Type 0} {d : Translated Ts} (label : ℕ) (asks : List Bool) (s : TranslationState) →
      Shows N M D d (opened s (frame_for label asks)) → (k : ℕ) → found_times k (state_in (finish s d)) ≤ found_times k s + N k
  one_body {d = drawn x u} label asks s h k = h.counts k

  one_owned_body : {N : ℕ → ℕ} {M : List Measures} {D : Type 0} {d : Translated Ts} (label : ℕ) (asks : List Bool) (s : TranslationState) →
      Shows N M D d (opened s (frame_for label asks)) → IsOwned M s (state_in (finish s d))
  one_owned_body {d = drawn x u} label asks s h = h.owned

  -- a body, and those after it
  pub bodies_then : {N : ℕ →
      ℕ} {D : Type 0} {d : Translated Ts} (n label : ℕ) (seen : Levels) (f : Ident) (ps : List Param) (r : Option Ident) (e : Exp) (rest : FunDecs)
      (asks : List Bool)
      (s : TranslationState) (next : Translates (Unit {0})) →
      Shows N (declared (suc n) (own_params (suc n) ps seen) e) D d (opened s (frame_for label asks)) →
      ((k : ℕ) → N k ≤ params_declare k ps + declares k e) →
      (D → DeclareParams (HasVariable table) (IsWeighed table weight) (suc n) ps × Declares (HasVariable table) (IsWeighed table weight) (suc n)
      (own_params (suc n) ps seen) e) →
      ((t : TranslationState) → ShowsBodies n (label + 1) seen rest (next t) t) →
      ShowsBodies n label seen (function f ps r e rest) (after (finish s d) (λ _. next)) s
  bodies_then {N = N} {d = drawn x u} n label seen f ps r e rest asks s next h few on more =
      let d : Translated Ts = drawn x u in
      let t = state_in (finish s d) in
      let g = more t in
      let m = measures f.span.from (suc n) seen ps e in
      let M = declared (suc n) (own_params (suc n) ps seen) e in
      let K = declared_functions n seen rest in
      record {
        grows = then_grows {next = λ _. next} (done_grows s label asks d h.grows) (λ b v. (more v).grows);
        counts = λ k. let a = h.counts k in let b = g.counts k in let c = few k in omega (arith, a, b, c);
        owned = λ at c i. elim (g.owned at c i) [
          | inl j ↦ elim (h.owned at c j) [
            | inl l ↦ inl l
            | inr l ↦ inr (l.0, Contains-append_left (m ∷ M) K l.0 (Contains-append_right (m ∷ []) M l.0 l.1), l.2)
          ]
          | inr j ↦ inr (j.0, Contains-append_right (m ∷ M) K j.0 j.1, j.2)
        ];
        finds = λ have there weighs.
            let before : InTable t = before_it g.grows there in
            let b = g.finds have.1 there (λ k c. weighs k (Contains-append_right (m ∷ M) K k c)) in
            let a = body_shows n label asks m s refl h (λ _. have.0) before (λ k c. weighs k (Contains-append_left (m ∷ M) K k c)) in
            let own = on a.0 in
            let function_there : HasFunction table n (at_of f) = λ callee i. ap (λ o. o.level) (some_is (sym i ∙ have.0)) in (
              ((function_there, weighs m (0, omega arith, refl)), own.0, own.1, b.0),
              tied_on (m ∷ M) K s.functions t.functions (state_in (next t)).functions a.1 b.1,
            );
      }

  pub bodies_none : (n label : ℕ) (seen : Levels) (s : TranslationState) → ShowsBodies n label seen no_functions (drawn tt s) s
  bodies_none n label seen s = record {
    grows = nothing_grows;
    counts = λ k. omega arith;
    owned = λ at c e. inl e;
    finds = λ have there weighs. (tt, tied_none s.functions s.functions refl);
  }

  -- Everything that takes a part's translation shows what the part shows.
  module _ {N : ℕ → ℕ} {M : List Measures} {D : Type 0} {right : Want → Translates Made} (shows : (w : Want) (s : TranslationState) → Shows N M D (right w s) s) where
    arms_shows : (o : Op) (w : Want) (c : Cond) (s : TranslationState) →
        Shows N M D (after (arms w s) (λ a t. after (right a t) (λ m. give (deliver w a (chosen o a c m))))) s
    arms_shows o w c s = quiet_then (arms_quiet w s) (λ a t. then_stays (shows a t) (λ m u. stays))

    pub connective_shows : (o : Op) (w : Want) (c : Cond) (s : TranslationState) → Shows N M D (connective o w c right s) s
    connective_shows o want.Test c s = then_stays (shows want.Test s) (λ m t. stays)
    connective_shows o want.Value c s = arms_shows o want.Value c s
    connective_shows o (want.Into i) c s = arms_shows o (want.Into i) c s
    connective_shows o want.Dropped c s = arms_shows o want.Dropped c s

    pub value_shows : (s : TranslationState) → Shows N M D (after (right want.Value s) value_of) s
    value_shows s = then_stays (shows want.Value s) (λ m t. value_quiet m t)

    operator_shows : (o : Op) (strings direct : Bool) (left : Made) (s : TranslationState) →
        Shows N M D (after (value_of left s) (λ x t. after (after (right want.Value t) value_of) (λ y. operation o strings direct x y))) s
    operator_shows o strings direct left s =
        quiet_then (value_quiet left s) (λ x t. then_stays (value_shows t) (λ y u. operation_quiet o strings direct x y u))

    pub with_left_shows : (o : Op) (m : Option Means) (direct : Bool) (w : Want) (left : Made) (s : TranslationState) →
        Shows N M D (with_left o m direct w left right s) s
    with_left_shows op.And m direct w left s = connective_shows op.And w (test_of left) s
    with_left_shows op.Or m direct w left s = connective_shows op.Or w (test_of left) s
    with_left_shows o m direct w left s = operator_shows o (compares_strings m) direct left s

    pub assigned_shows : (p : Storage) (s : TranslationState) → Shows N M D (assigned p right s) s
    assigned_shows p s = then_stays (shows (want_for p) s) (λ m t. assign_quiet p m t)

    pub declaration_shows : (escapes : ℕ → Bool) (level at : ℕ) (s : TranslationState) →
        Shows (λ k. same at k + N k) M (HasVariable table level at × D) (declaration_of escapes level at right s) s
    declaration_shows escapes level at s =
        both (declared_variable (escapes at) level at s)
        (λ home t. then_stays (shows (want_for (own_place home)) t) (λ m u. assign_quiet (own_place home) m u))

  module _ {N L : ℕ → ℕ} {M K : List Measures} {D E : Type 0} {this other : Want → Translates Made} (this_shows : (w : Want) (s : TranslationState) →
      Shows N M D (this w s) s)
      (other_shows : (w : Want) (s : TranslationState) → Shows L K E (other w s) s) where
    pub chosen_shows : (w : Want) (c : Cond) (s : TranslationState) → Shows (λ k. N k + L k) (M ++ K) (D × E) (chosen_arm w c this other s) s
    chosen_shows w c s =
        quiet_then (arms_quiet w s)
        (λ v t. both (then_stays (this_shows v t) (λ m u. stays)) (λ x u. then_stays (then_stays (other_shows v u) (λ m o. stays)) (λ y o. stays)))

  pub updated_shows : {N : ℕ → ℕ} {M : List Measures} {D : Type 0} {right : Tx → Want → Translates Made} →
      ((x : Tx) (w : Want) (s : TranslationState) → Shows N M D (right x w s) s) →
      (p : Storage) (s : TranslationState) → Shows N M D (updated p right s) s
  updated_shows shows p s =
      quiet_then (hold_place_quiet p s)
      (λ held t. then_stays (shows (read_held held) (want_for (place_held held)) t) (λ m u. assign_quiet (place_held held) m u))
