-- Variables and parameters are declared; a part of a text has a context of its own, and leaves it.
use Rattle.std.proofs.Common.{◌≡◌, ◌≢◌, ◌<◌, ◌≤◌, ◌+◌, ℕ, zero, suc, Bool, true, false, Some, List, [], ◌∷◌, map, refl, ap, ◌∙◌, subst, arith, inl, inr}
use Rattle.std.specs.Prelude.{IsTrue}
use Rattle.std.specs.List.{Contains}
use Rattle.tg_symbols.specs.Tables.{looked_up}
use Rattle.tg_syntax.specs.declared.trees.Param.{Param}
use Rattle.tg_syntax.specs.Tree.{Decs, no_decs, types, variable, functions}
use Rattle.tg_frame.specs.declared.accesses.Access.{Access}
use Rattle.tg_frame.specs.declared.accesses.Access.TheVariants.{InTemp, InFrame}
use Rattle.tg_frame.specs.Homes.{is_slot, homes_from, homes_of, temps_of}
use Rattle.tg_translate.specs.declared.homes.Home.{Home}
use Rattle.tg_translate.specs.mirror.States.{TranslationState, Frame, Translated, drawn, one_temp, one_slot}
use Rattle.tg_translate.specs.mirror.Constructs.{in_body, in_test}
use Rattle.tg_translate.specs.mirror.Scopes.{declare_variable}
use Rattle.tg_translate.specs.mirror.Functions.{at_of, asked, parameters, own_homes}
use Rattle.tg_translate_laws.specs.Standing.{AreApart, params_of, owned_by}
use Rattle.tg_translate_laws.proofs.Actions.{left}
use Rattle.tg_translate_laws.proofs.Keeping.{Asks, Where, Ready, Step, Yields, GoodAccess, IsDrawn, drawn_on, rehomed}
use Rattle.tg_translate_laws.proofs.Scoping.{named_cases, named_other, more_contained, first_contained, behind_first}

-- contexts: with a variable more, with more variables, in a loop's body, in a loop's test
abbrev pub owning : (at : ℕ) → Where → Where
owning at c = record c { own = at ∷ c.own }

abbrev pub with_own : List ℕ → Where → Where
with_own own c = record c { own = own }

abbrev pub turning : Where → Where
turning c = record c { within = in_body c.within; loops = c.loops + 1; in_loop = true }

abbrev pub testing : Where → Where
testing c = record c { within = in_test c.within; loops = c.loops + 1 }

pub owned_more : (ds : Decs) (own : List ℕ) (at : ℕ) → Contains own at → Contains (owned_by ds own) at
owned_more no_decs own at h = h
owned_more (types _ rest) own at h = owned_more rest own at h
owned_more (variable x _ _ rest) own at h = owned_more rest (at_of x ∷ own) at (more_contained (at_of x) at own h)
owned_more (functions _ rest) own at h = owned_more rest own at h

-- Parts are entered and left.
module _ {asks : Asks} where
  -- a part is left, in which no fewer variables were the function's
  pub leave : {c d : Where} {s t : TranslationState} → ((at : ℕ) → Contains c.own at → Contains d.own at) → s.frame.temps ≤ t.frame.temps →
      Ready asks c s → Ready asks d t → Ready asks c t
  leave f h r q = record {
    from = q.from;
    callees = q.callees;
    unused = q.unused;
    functions = q.functions;
    owned = λ a at home k e. q.owned a at home (f at k) e;
    slots = q.slots;
    link = λ a l e. let k = r.link a l e in omega (arith, k, h);
    loops = r.loops;
  }

  pub leave_with : {A : Type 0} {c d : Where} {s : TranslationState} {V : TranslationState → A → Type 0} {dr : Translated A} → d.kept ≡ c.kept →
      ((at : ℕ) → Contains c.own at → Contains d.own at) →
      Ready asks c s → Yields asks d s V dr → Yields asks c s (λ t a. V t a × Ready asks d t) dr
  leave_with {s = s} {dr = dr} e f r h =
      let st = subst (λ k. Step asks k s (left dr)) e h.step in
      record { step = st; ready = leave f st.grows.temps r h.ready; value = (h.value, h.ready) }

  pub leave_yields : {A : Type 0} {c d : Where} {s : TranslationState} {V : TranslationState → A → Type 0} {dr : Translated A} → d.kept ≡ c.kept →
      ((at : ℕ) → Contains c.own at → Contains d.own at) →
      Ready asks c s → Yields asks d s V dr → Yields asks c s V dr
  leave_yields e f r h = let k = leave_with e f r h in record { step = k.step; ready = k.ready; value = k.value.0 }

  enter : {c : Where} {s : TranslationState} (leave loops : ℕ) (in_loop : Bool) → (asks.breaks → in_loop ≡ true → leave < loops) → Ready asks c s →
      Ready asks (record c { within = record c.within { leave = leave }; loops = loops; in_loop = in_loop }) s
  enter leave loops in_loop f r = record {
    from = r.from;
    callees = r.callees;
    unused = r.unused;
    functions = r.functions;
    owned = r.owned;
    slots = r.slots;
    link = r.link;
    loops = f;
  }

  pub enter_turn : {c : Where} {s : TranslationState} → Ready asks c s → Ready asks (turning c) s
  enter_turn {c} r = enter 0 (c.loops + 1) true (λ b e. omega arith) r

  pub enter_test : {c : Where} {s : TranslationState} → Ready asks c s → Ready asks (testing c) s
  enter_test {c} r = enter (c.within.leave + 1) (c.loops + 1) c.in_loop (λ b e. let h = r.loops b e in omega (arith, h)) r

module _ (asks : Asks) where
  -- A variable is declared.

  abbrev with_home : (at level : ℕ) → Frame → Access → TranslationState → TranslationState
  with_home at level f a s = record s { frame = f; homes = (at, record { level = level; access = a }) ∷ s.homes }

  home_step : (kept : List ℕ) (s : TranslationState) (at level : ℕ) (f : Frame) (a : Access) → f.label ≡ s.frame.label →
      s.frame.temps ≤ f.temps →
      (asks.temps → AreApart (at ∷ []) kept) → Step asks kept s (with_home at level f a s)
  home_step kept s at level f a e h apart =
      let home : Home = record { level = level; access = a } in
      rehomed asks kept s f ((at, home) ∷ s.homes) e h
      (λ t x k. named_other x at home s.homes (λ q. apart t x (subst (λ y. Contains (at ∷ []) y) q (first_contained at [])) k))

  home_ready : (c : Where) (s : TranslationState) (at level : ℕ) (f : Frame) (a : Access) → s.frame.temps ≤ f.temps → IsDrawn asks
      f.temps a →
      (asks.findings.escapes at ≡ true → IsTrue (is_slot a)) → Ready asks c s → Ready asks (owning at c) (with_home at level f a s)
  home_ready c s at level f a h d sl r = record {
    from = r.from;
    callees = r.callees;
    unused = r.unused;
    functions = r.functions;
    owned = λ t x home k e.
        elim (named_cases x at (record { level = level; access = a }) home s.homes e) [
          | inl q ↦ subst (λ v. IsDrawn asks f.temps v.access) q.1 d
          | inr q ↦ drawn_on asks s.frame.temps f.temps home.access h (r.owned t x home (behind_first at x c.own q.0 k) q.1)
        ];
    slots = λ t x home k e.
        elim (named_cases x at (record { level = level; access = a }) home s.homes e) [
          | inl q ↦ subst (λ v. IsTrue (is_slot v.access)) q.1 (sl (ap asks.findings.escapes q.0 ∙ k))
          | inr q ↦ r.slots t x home k q.1
        ];
    link = λ t l e. let k = r.link t l e in omega (arith, k, h);
    loops = r.loops;
  }

  abbrev pub Declares : (c : Where) (at : ℕ) → TranslationState → Access → Type 0
  Declares c at t a = GoodAccess asks t a × Ready asks (owning at c) t

  home_yields : (c : Where) (s : TranslationState) (at : ℕ) (f : Frame) (a : Access) → f.label ≡ s.frame.label → s.frame.temps ≤ f.temps →
      GoodAccess asks (with_home at c.within.level f a s) a → IsDrawn asks f.temps a → (asks.findings.escapes at ≡ true → IsTrue (is_slot a)) → Ready asks c s →
      (asks.temps → AreApart (at ∷ []) c.kept) → Yields asks c s (Declares c at) (drawn a (with_home at c.within.level f a s))
  home_yields c s at f a e h g d sl r apart =
      let q = home_ready c s at c.within.level f a h d sl r in
      record {
        step = home_step c.kept s at c.within.level f a e h apart;
        ready = leave (λ x k. more_contained at x c.own k) h r q;
        value = (g, q);
      }

  declared_as : (c : Where) (s : TranslationState) (at : ℕ) (b : Bool) → asks.findings.escapes at ≡ b → Ready asks c s →
      (asks.temps → AreApart (at ∷ []) c.kept) →
      Yields asks c s (Declares c at) (declare_variable b c.within.level at s)
  declared_as c s at true e r apart =
      home_yields c s at (one_slot s.frame) (InFrame s.frame.slots) refl (omega arith) tt tt (λ k. refl) r apart
  declared_as c s at false e r apart =
      home_yields c s at (one_temp s.frame) (InTemp (record { 0 = s.frame.temps })) refl (omega arith) (λ t. omega arith) (omega arith) (λ k. cc) r apart

  pub declare_yields : (c : Where) (s : TranslationState) (at : ℕ) → Ready asks c s → (asks.temps → AreApart (at ∷ []) c.kept) →
      Yields asks c s (Declares c at) (declare_variable (asks.findings.escapes at) c.within.level at s)
  declare_yields c s at r apart = declared_as c s at (asks.findings.escapes at) refl r apart

  -- Parameters are declared.

  abbrev pub AllDrawn : (temps at : ℕ) → List (ℕ × Home) → Type 0
  AllDrawn n at homes = (home : Home) → looked_up at homes ≡ Some home → IsDrawn asks n home.access

  abbrev pub AllSlots : List (ℕ × Home) → Type 0
  AllSlots homes = (at : ℕ) (home : Home) → asks.findings.escapes at ≡ true → looked_up at homes ≡ Some home → IsTrue
      (is_slot home.access)

  pub record Homed (params : List Param) (temps : ℕ) (old new : List (ℕ × Home)) : Type 0 where
    pub others : (at : ℕ) → (Contains (params_of params) at → ⊥) → looked_up at new ≡ looked_up at old
    pub stays : (at : ℕ) → AllDrawn temps at old → AllDrawn temps at new
    pub drawn : (at : ℕ) → Contains (params_of params) at → AllDrawn temps at new
    pub slots : AllSlots old → AllSlots new

  homed_drawn : (n at x : ℕ) (home : Home) (old : List (ℕ × Home)) → IsDrawn asks n home.access →
      (at ≢ x → AllDrawn n x old) → AllDrawn n x ((at, home) ∷ old)
  homed_drawn n at x home old d f h e =
      elim (named_cases x at home h old e) [ inl q ↦ subst (λ v. IsDrawn asks n v.access) q.1 d | inr q ↦ f q.0 h q.1 ]

  homed_more : (p : Param) (params : List Param) (n : ℕ) (home : Home) (old new : List (ℕ × Home)) → IsDrawn asks n
      home.access →
      (asks.findings.escapes (at_of p.name) ≡ true → IsTrue (is_slot home.access)) →
      Homed params n ((at_of p.name, home) ∷ old) new → Homed (p ∷ params) n old new
  homed_more p params n home old new d sl h = record {
    others = λ x f.
        h.others x (λ k. f (more_contained (at_of p.name) x (params_of params) k))
        ∙ named_other x (at_of p.name) home old (λ e. f
        (subst (λ y. Contains (at_of p.name ∷ params_of params) y) e
        (first_contained (at_of p.name) (params_of params))));
    stays = λ x f. h.stays x (homed_drawn n (at_of p.name) x home old d (λ ne. f));
    drawn = λ x k. drawn_there x k;
    slots = λ f. h.slots (λ x g k e.
        elim (named_cases x (at_of p.name) home g old e) [
          | inl q ↦ subst (λ v. IsTrue (is_slot v.access)) q.1 (sl (ap asks.findings.escapes q.0 ∙ k))
          | inr q ↦ f x g k q.1
        ]);
  }
    where
      drawn_there : (x : ℕ) → Contains (at_of p.name ∷ params_of params) x → AllDrawn n x new
      drawn_there x (zero, l, e) = h.stays x (homed_drawn n (at_of p.name) x home old d (λ ne. absurd (ne e)))
      drawn_there x (suc k, l, e) = h.drawn x (k, omega arith, e)

  abbrev escaping : List Param → List Bool
  escaping params = map (λ p. asks.findings.escapes (at_of p.name)) params

  param_homed : (level : ℕ) (p : Param) (params : List Param) (slots temps n : ℕ) (old : List (ℕ × Home)) (b : Bool) →
      ((slots temps : ℕ) (old : List (ℕ × Home)) → temps + temps_of (escaping params) ≤ n →
      Homed params n old (parameters level params (homes_from slots temps (escaping params)) old)) →
      asks.findings.escapes (at_of p.name) ≡ b → temps + temps_of (b ∷ escaping params) ≤ n →
      Homed (p ∷ params) n old (parameters level (p ∷ params) (homes_from slots temps (b ∷ escaping params)) old)
  param_homed level p params slots temps n old true more e h =
      let home : Home = record { level = level; access = InFrame slots } in
      homed_more p params n home old (parameters level params (homes_from (slots + 1) temps (escaping params))
      ((at_of p.name, home) ∷ old)) tt (λ k. refl)
      (more (slots + 1) temps ((at_of p.name, home) ∷ old) h)
  param_homed level p params slots temps n old false more e h =
      let home : Home = record { level = level; access = InTemp (record { 0 = temps }) } in
      homed_more p params n home old (parameters level params (homes_from slots (temps + 1) (escaping params))
      ((at_of p.name, home) ∷ old)) (omega (arith, h)) (λ k. cc)
      (more slots (temps + 1) ((at_of p.name, home) ∷ old) (omega (arith, h)))

  params_homed : (level : ℕ) (params : List Param) (n slots temps : ℕ) (old : List (ℕ × Home)) → temps + temps_of
      (escaping params) ≤ n →
      Homed params n old (parameters level params (homes_from slots temps (escaping params)) old)
  params_homed level [] n slots temps old h = record {
    others = λ at f. refl;
    stays = λ at f. f;
    drawn = λ at k. absurd (omega (arith, k.1));
    slots = λ f. f;
  }
  params_homed level (p ∷ params) n slots temps old h =
      param_homed level p params slots temps n old (asks.findings.escapes (at_of p.name)) (params_homed level params n) refl
      h

  -- after the static link
  abbrev homes_in : (kept : Bool) → List Param → List Access
  homes_in kept params = own_homes (homes_of (asked asks.findings.escapes kept params))

  pub all_homed : (level : ℕ) (kept : Bool) (params : List Param) (old : List (ℕ × Home)) →
      Homed params (temps_of (asked asks.findings.escapes kept params)) old
      (parameters level params (homes_in kept params) old)
  all_homed level true params old = params_homed level params (temps_of (escaping params)) 1 0 old (omega arith)
  all_homed level false params old = params_homed level params (temps_of (escaping params) + 1) 0 1 old (omega arith)
