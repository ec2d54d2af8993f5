-- Functions: each has a frame of its own, and stands after those that were done before it.
use Rattle.std.proofs.Common.{◌≡◌, ◌<◌, ◌≤◌, ◌+◌, ℕ, zero, suc, Bool, true, false, List, ◌∷◌, ◌++◌, refl, sym, ap, ◌∙◌, arith}
use Rattle.std.specs.List.{Contains}
use Rattle.std.proofs.lemmas.List.Elements.{Contains-append_left, Contains-append_right}
use Rattle.tg_syntax.specs.declared.trees.Param.{Param}
use Rattle.tg_syntax.specs.Tree.{FunDecs, no_functions, function}
use Rattle.tg_frame.specs.Homes.{temps_of}
use Rattle.tg_tree.specs.Tree.{Ts}
use Rattle.tg_tree.specs.Shapes.{EndsFunction}
use Rattle.tg_translate.specs.declared.homes.Within.{Within}
use Rattle.tg_translate.specs.declared.wants.Want.{Want}
use Rattle.tg_translate.specs.mirror.States.{TranslationState, Translates, Translated, drawn, after}
use Rattle.tg_translate.specs.mirror.Wants.{Made}
use Rattle.tg_translate.specs.mirror.Returning.{given_back}
use Rattle.tg_translate.specs.mirror.Functions.{at_of, asked, parameters, own_homes, frame_for, declare_functions, with_body, finished, finish, opened}
use Rattle.tg_translate.specs.mirror.Functions.{result_want, inside, gives_nothing, closing, body}
use Rattle.tg_translate_laws.specs.Standing.{AreApart, params_of}
use Rattle.tg_translate_laws.proofs.Fine.{each_append}
use Rattle.tg_translate_laws.proofs.Returning.{fine_parts, given_back_holds, given_back_ends}
use Rattle.tg_translate_laws.proofs.Counts.{times, times-append, same, below, below-next}
use Rattle.tg_translate_laws.proofs.Keeping.{Asks, Where, callee_labels, literal_labels, stands, bind, given, onward, Ready, Step, Yields, GoodTs, GoodMade}
use Rattle.tg_translate_laws.proofs.Keeping.{KnowsAt, FineFunction, GoodWant, functions_on, Grows, grows_none, grows_on, grows_for}
use Rattle.tg_translate_laws.proofs.Wanting as wanting
use Rattle.tg_translate_laws.proofs.Scoping.{more_contained}
use Rattle.tg_translate_laws.proofs.Declaring as declaring

-- a function's text, inside one that stands here
abbrev pub nested : (kept : Bool) → List Param → Where → Where
nested kept params c = record {
  within = inside c.within kept;
  loops = 0;
  in_loop = false;
  own = params_of params;
  kept = c.own ++ c.kept;
}

module _ (asks : Asks) where
  -- a body that is closed
  abbrev pub IsWhole : ℕ → TranslationState → Ts → Type 0
  IsWhole n s x = GoodTs asks n s x × EndsFunction x

  pub closing_yields : (c : Where) (s : TranslationState) (has_result : Bool) (m : Made) → Ready asks c s → GoodMade asks c.loops s m →
      Yields asks c s (IsWhole c.loops) (closing has_result m s)
  closing_yields c s true m r h =
      bind (wanting.value_yields m r h)
      (λ x t st r' k. given (given_back x) r'
      (given_back_holds _ _ _ _ (fine_parts asks.breaks (KnowsAt asks t) c.loops) x k, given_back_ends x))
  closing_yields c s false m r h =
      given (gives_nothing m) r
      ((wanting.dropped_good asks c.loops s m h, (tt, tt)), tt)

  -- from one state to a later one, where the labels from one on, up to another, are given away
  pub record Places (kept : List ℕ) (from to : ℕ) (s t : TranslationState) : Type 0 where
    pub grows : Grows asks kept s t
    pub balance : (n : ℕ) → stands n t + below n s.label + below n from ≡ stands n s + below n t.label + below n to

  pub places_none : (kept : List ℕ) (n : ℕ) (s : TranslationState) → Places kept n n s s
  places_none kept n s = record { grows = grows_none; balance = λ k. refl }

  pub places_more : (kept : List ℕ) (a b d : ℕ) (s t u : TranslationState) → Places kept a b s t → Places kept b d t u → Places kept a d s u
  places_more kept a b d s t u h k = record {
    grows = grows_on h.grows k.grows;
    balance = λ n. let p = h.balance n in let q = k.balance n in omega (arith, p, q);
  }

  -- A function's text is begun, and done.

  abbrev begun_state : (label : ℕ) → (kept : Bool) → (params : List Param) → Where → TranslationState → TranslationState
  begun_state label kept params c s =
      let f = frame_for label (asked asks.findings.escapes kept params) in
      record (opened s f) { homes = parameters (c.within.level + 1) params (own_homes f.params) s.homes }

  link_kept : (kept : Bool) (params : List Param) → kept ≡ false → 0 < temps_of (asked asks.findings.escapes kept params)
  link_kept true params e = cc
  link_kept false params e = omega arith

  begun_ready : (c : Where) (s : TranslationState) (label : ℕ) (kept : Bool) (params : List Param) → Ready asks c s →
      Ready asks (nested kept params c) (begun_state label kept params c s)
  begun_ready c s label kept params r =
      let h = declaring.all_homed asks (c.within.level + 1) kept params s.homes in
      record {
        from = r.from;
        callees = r.callees;
        unused = r.unused;
        functions = tt;
        owned = λ t at home k e. h.drawn at k home e;
        slots = λ t at home k e. h.slots (r.slots t) at home k e;
        link = λ t l e. link_kept kept params e;
        loops = λ b e. cc;
      }

  abbrev done : TranslationState → TranslationState → Ts → TranslationState
  done s u x = finished s.functions s.frame u x

  done_places : (c : Where) (s u : TranslationState) (label : ℕ) (kept : Bool) (params : List Param) (x : Ts) →
      (asks.temps → AreApart (params_of params) (c.own ++ c.kept)) →
      Step asks (c.own ++ c.kept) (begun_state label kept params c s) u → Places (c.own ++ c.kept) label (label + 1) s
      (done s u x)
  done_places c s u label kept params x apart h =
      let one = with_body u.frame x in
      record {
        grows =
            record {
              label = h.grows.label;
              temps = omega arith;
              name = refl;
              callees = h.grows.callees;
              literals = h.grows.literals;
              homes = λ t at k.
                  h.grows.homes t at k
                  ∙ (declaring.all_homed asks (c.within.level + 1) kept params s.homes).others at (λ q. apart t at q k);
            };
        balance = λ n.
            let p = h.balance n in
            let q = times-append (λ f. f.label) n s.functions (one ∷ u.functions) in
            let i : same one.label n ≡ same label n = ap (λ l. same l n) h.grows.name in
            let j = below-next n label in
            omega (arith, p, q, i, j);
      }

  done_ready : (c : Where) (s u : TranslationState) (label : ℕ) (kept : Bool) (params : List Param) (x : Ts) →
      (asks.temps → AreApart (params_of params) (c.own ++ c.kept)) →
      Step asks (c.own ++ c.kept) (begun_state label kept params c s) u → Ready asks c s → Ready asks (nested kept params c) u →
      IsWhole 0 u x →
      Ready asks c (done s u x)
  done_ready c s u label kept params x apart h r q w =
      let place = done_places c s u label kept params x apart h in
      record {
        from = q.from;
        callees = q.callees;
        unused = q.unused;
        functions =
            each_append (FineFunction asks (callee_labels u) (literal_labels u)) s.functions
            (with_body u.frame x ∷ u.functions)
            (functions_on asks (callee_labels s) (literal_labels s) (callee_labels u)
            (literal_labels u) h.grows.callees h.grows.literals
            s.functions r.functions)
            (record { body = w.0; last = w.1 }, q.functions);
        owned = λ t at home k e. r.owned t at home k (sym (place.grows.homes t at (Contains-append_left c.own c.kept at k)) ∙
            e);
        slots = q.slots;
        link = r.link;
        loops = r.loops;
      }

  -- what a body of a group leaves
  abbrev pub Placed : (c : Where) → (from to : ℕ) → TranslationState → Translated (Unit {0}) → Type 0
  Placed c from to s (drawn _ t) = Places (c.own ++ c.kept) from to s t × Ready asks c t

  finished_placed : (c : Where) (s : TranslationState) (label : ℕ) (kept : Bool) (params : List Param) (d : Translated Ts) →
      (asks.temps → AreApart (params_of params) (c.own ++ c.kept)) → Ready asks c s →
      Yields asks (nested kept params c) (begun_state label kept params c s) (IsWhole 0) d → Placed c label (label + 1) s
      (finish s d)
  finished_placed c s label kept params (drawn x u) apart r h =
      (done_places c s u label kept params x apart h.step, done_ready c s u label kept params x apart h.step r h.ready h.value)

  result_good : (s : TranslationState) (has_result : Bool) → GoodWant asks s (result_want has_result)
  result_good s true = tt
  result_good s false = tt

  pub body_placed : (c : Where) (s : TranslationState) (label at : ℕ) (has_result : Bool) (params : List Param)
      (text : Want → Within → Translates Made) →
      (asks.temps → AreApart (params_of params) (c.own ++ c.kept)) → Ready asks c s →
      ((t : TranslationState) (w : Want) → Ready asks (nested (asks.findings.keeps_link at) params c) t → GoodWant asks t w →
      Yields asks (nested (asks.findings.keeps_link at) params c) t (λ u m. GoodMade asks 0 u m)
      (text w (inside c.within (asks.findings.keeps_link at)) t)) →
      Placed c label (label + 1) s (body label asks.findings.escapes asks.findings.keeps_link at has_result params text c.within
      s)
  body_placed c s label at has_result params text apart r h =
      let kept = asks.findings.keeps_link at in
      let d : Where = nested kept params c in
      let t : TranslationState = begun_state label kept params c s in
      finished_placed c s label kept params (after (text (result_want has_result) (inside c.within kept) t)
      (closing has_result)) apart r
      (bind (h t (result_want has_result) (begun_ready c s label kept params r) (result_good t has_result))
      (λ m u st r' k. closing_yields d u has_result m r' k))

  -- The functions of a group are declared.

  abbrev pub after_group : FunDecs → (label : ℕ) → ℕ
  after_group no_functions l = l
  after_group (function _ _ _ _ rest) l = after_group rest (l + 1)

  pub record Opens (kept : List ℕ) (end : ℕ) (s t : TranslationState) : Type 0 where
    pub grows : Grows asks kept s t
    pub label : t.label ≡ end
    pub stays : (n : ℕ) → stands n t ≡ stands n s

  abbrev pub Opened : (c : Where) → (end : ℕ) → TranslationState → Translated (Unit {0}) → Type 0
  Opened c end s (drawn _ t) = Opens c.kept end s t × Ready asks c t

  abbrev with_callee : (at level : ℕ) → TranslationState → TranslationState
  with_callee at level s = record s {
    label = s.label + 1;
    callees =
        (at, record { level = level; label = record { 0 = s.label } }) ∷ s.callees;
  }

  callee_ready : (c : Where) (s : TranslationState) (at level : ℕ) → Ready asks c s → Ready asks c (with_callee at level s)
  callee_ready c s at level r = record {
    from = let k = r.from in omega (arith, k);
    callees = λ l k. one_of l k;
    unused = λ l h. r.unused l (omega (arith, h));
    functions =
        functions_on asks (callee_labels s) (literal_labels s)
        (callee_labels (with_callee at level s)) (literal_labels s)
        (λ l h. more_contained s.label l (callee_labels s) h) (λ l h. h) s.functions r.functions;
    owned = r.owned;
    slots = r.slots;
    link = r.link;
    loops = r.loops;
  }
    where
      one_of : (l : ℕ) → Contains (s.label ∷ callee_labels s) l → (33 ≤ l) × (l < s.label + 1) ×
          (times (λ k. k.label) l s.literals ≡ 0)
      one_of l (zero, i, e) = (let k = r.from in omega (arith, e, k), omega (arith, e), r.unused l (omega (arith, e)))
      one_of l (suc k, i, e) = let h = r.callees l (k, omega arith, e) in (h.0, omega (arith, h.1), h.2)

  callee_grows : (kept : List ℕ) (s : TranslationState) (at level : ℕ) → Grows asks kept s (with_callee at level s)
  callee_grows kept s at level = record {
    label = omega arith;
    temps = omega arith;
    name = refl;
    callees = λ l k. more_contained s.label l (callee_labels s) k;
    literals = λ l k. k;
    homes = λ t x k. refl;
  }

  opened_more : (c : Where) (end at level : ℕ) (s : TranslationState) (d : Translated (Unit {0})) → Opened c end
      (with_callee at level s) d → Opened c end s d
  opened_more c end at level s (drawn u t) h =
      (record { grows = grows_on (callee_grows c.kept s at level) h.0.grows; label = h.0.label; stays = h.0.stays }, h.1)

  pub declared_opens : (fs : FunDecs) (c : Where) (level : ℕ) (s : TranslationState) → Ready asks c s → Opened c
      (after_group fs s.label) s (declare_functions level fs s)
  declared_opens no_functions c level s r = (record { grows = grows_none; label = refl; stays = λ n. refl }, r)
  declared_opens (function f ps result e rest) c level s r =
      opened_more c (after_group rest (s.label + 1)) (at_of f) level s
      (declare_functions level rest (with_callee (at_of f) level s))
      (declared_opens rest c level (with_callee (at_of f) level s) (callee_ready c s (at_of f) level r))

  -- together, a group's labels and its bodies are a step
  group_step : (c : Where) (end : ℕ) (s t u : TranslationState) → Opens c.kept end s t → Places (c.own ++ c.kept) s.label end t u →
      Step asks c.kept s u
  group_step c end s t u h k = record {
    grows = grows_on h.grows (grows_for (λ at j. Contains-append_right c.own c.kept at j) k.grows);
    balance = λ n.
        let p = h.stays n in
        let q = k.balance n in
        let i : below n t.label ≡ below n end = ap (below n) h.label in
        omega (arith, p, q, i);
  }

  placed_next : {A : Type 0} (c : Where) (end : ℕ) (s t : TranslationState) (V : TranslationState → A → Type 0) (d : Translated (Unit {0}))
      (next : Translates A) →
      Opens c.kept end s t → Placed c s.label end t d →
      ((u : TranslationState) → Step asks c.kept s u → Ready asks c u → Yields asks c u V (next u)) → Yields asks c s V (after d (λ _. next))
  placed_next c end s t V (drawn a u) next o h k =
      let st = group_step c end s t u o h.0 in
      let g = k u st h.1 in
      record { step = onward st g.step; ready = g.ready; value = g.value }

  pub group_yields : {A : Type 0} (c : Where) (end : ℕ) (s : TranslationState) (V : TranslationState → A → Type 0) (d : Translated (Unit {0}))
      (bodies : Translates (Unit {0})) (next : Translates A) →
      Opened c end s d → ((t : TranslationState) → Ready asks c t → Placed c s.label end t (bodies t)) →
      ((u : TranslationState) → Step asks c.kept s u → Ready asks c u → Yields asks c u V (next u)) →
      Yields asks c s V (after d (λ _ t. after (bodies t) (λ _. next)))
  group_yields c end s V (drawn a t) bodies next o f k = placed_next c end s t V (bodies t) next o.0 (f t o.1) k

  pub placed_then : (c : Where) (a b end : ℕ) (s : TranslationState) (d : Translated (Unit {0})) (next : Translates (Unit {0})) →
      Placed c a b s d → ((t : TranslationState) → Ready asks c t → Placed c b end t (next t)) → Placed c a end s (after d (λ _. next))
  placed_then c a b end s (drawn u t) next h k = placed_on (next t) (k t h.1)
    where
      placed_on : (d : Translated (Unit {0})) → Placed c b end t d → Placed c a end s d
      placed_on (drawn v q) g = (places_more (c.own ++ c.kept) a b end s t q h.0 g.0, g.1)
