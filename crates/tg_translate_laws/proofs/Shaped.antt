-- What the walk says of a whole program.
use Rattle.std.proofs.Common.{◌≡◌, ◌≢◌, ◌<◌, ◌≤◌, ◌+◌, ℕ, false, List, [], ◌∷◌, ◌++◌, map, refl, sym, ap, ◌∙◌, subst, arith, inl, inr}
use Rattle.std.specs.Prelude.{◌⊎◌}
use Rattle.std.specs.List.{Contains}
use Rattle.std.proofs.lemmas.Bool.{cases_lt}
use Rattle.std.proofs.lemmas.List.{map-append}
use Rattle.std.proofs.lemmas.List.Elements.{Contains-append_left, Contains-append_cases}
use Rattle.tg_syntax.specs.Tree.{Exp}
use Rattle.tg_tree.specs.Tree.{Ts, Function, Code}
use Rattle.tg_tree.specs.Named.{Named, function, literal, fault, temporary, function_labels, literal_labels, HasItsTemps, IsLinked}
use Rattle.tg_tree.specs.Shapes.{IsClosed}
use Rattle.tg_translate.specs.declared.wants.Want.TheVariants as want
use Rattle.tg_translate.specs.mirror.States.{TranslationState, Translated, drawn}
use Rattle.tg_translate.specs.mirror.Functions.{with_body, beginning, frame_for, outermost, program}
use Rattle.tg_translate.specs.mirror.Translate.{program_body, translated}
use Rattle.tg_translate_laws.specs.Standing.{BreaksStand, Reaches}
use Rattle.tg_translate_laws.specs.laws.Laws.{names}
use Rattle.tg_translate_laws.proofs.Fine.{Each, breaks_ts, names_ts, each_contained}
use Rattle.tg_translate_laws.proofs.Counts.{times, times-append, times-map, times-first, same, same_self, below, below-next, below_yes, below_no, below_one}
use Rattle.tg_translate_laws.proofs.Counts.{once_apart, contained_counts, counted_contains}
use Rattle.tg_translate_laws.proofs.Keeping.{Asks, Where, callee_labels, bind, FineFunction, Knows, Ready, Yields}
use Rattle.tg_translate_laws.proofs.Nesting as nesting
use Rattle.tg_translate_laws.proofs.Walking.{walked}

abbrev first : TranslationState
first = beginning 33 (frame_for 32 [])

abbrev top : Where
top = record { within = outermost; loops = 0; in_loop = false; own = []; kept = [] }

module _ (asks : Asks) (e : Exp) where
  top_ready : Ready asks top first
  top_ready = record {
    from = omega arith;
    callees = λ l h. absurd (omega (arith, h.1));
    unused = λ l h. refl;
    functions = tt;
    owned = λ t at home h k. absurd (omega (arith, h.1));
    slots = λ t at home h k. cc;
    link = λ t h k. absurd (omega (arith, h));
    loops = λ b h. cc;
  }

  -- what the walk leaves
  pub record Shaped (code : Code Ts) (callees : List ℕ) (end : ℕ) : Type 0 where
    pub body : Function Ts
    pub rest : List (Function Ts)
    pub functions : code.functions ≡ body ∷ rest
    pub label : body.label ≡ 32
    pub fine : Each (FineFunction asks callees (map (λ l. l.label) code.literals)) (body ∷ rest)
    pub from : 33 ≤ end
    pub counts : (n : ℕ) → times (λ f. f.label) n rest + times (λ l. l.label) n code.literals + below n 33 ≡ below n end
    pub called : (l : ℕ) → Contains callees l → Contains (map (λ f. f.label) rest) l

  pub record HasShape (code : Code Ts) : Type 0 where
    pub callees : List ℕ
    pub end : ℕ
    pub shaped : Shaped code callees end

  shaped_of : (d : Translated Ts) → Yields asks top first (nesting.IsWhole asks 0) d →
      HasShape (program d)
  shaped_of (drawn x t) h = record {
    callees = callee_labels t;
    end = t.label;
    shaped = record {
      body = with_body t.frame x;
      rest = t.functions;
      functions = refl;
      label = h.step.grows.name;
      fine = (record { body = h.value.0; last = h.value.1 }, h.ready.functions);
      from = h.ready.from;
      counts = λ n. let k = h.step.balance n in omega (arith, k);
      called = λ l c.
          let k = h.ready.callees l c in
          let m = h.step.balance l in
          let i = below_no l 33 k.0 in
          let j = below_yes l t.label k.1 in
          counted_contains (λ f. f.label) t.functions l (omega (arith, k.2, m, i, j));
    };
  }

  pub has_shape : (asks.breaks → BreaksStand false e) → (asks.temps → Reaches asks.findings [] [] e) → HasShape (translated asks.findings e)
  has_shape b q =
      shaped_of (program_body asks.findings e first)
      (bind (walked asks e top first want.Dropped b q top_ready tt)
      (λ m t st r k. nesting.closing_yields asks top t false m r k))

  module _ (code : Code Ts) (h : HasShape code) where
    fine_one : (f : Function Ts) → Contains code.functions f → FineFunction asks h.callees (map (λ l. l.label) code.literals)
        f
    fine_one f c =
        each_contained (FineFunction asks h.callees (map (λ l. l.label) code.literals)) (h.shaped.body ∷ h.shaped.rest)
        h.shaped.fine f
        (subst (λ fs. Contains fs f) h.shaped.functions c)

    known_one : (f : Function Ts) → Contains code.functions f → (x : Named) → Contains (names f.body) x →
        Knows asks h.callees (map (λ l. l.label) code.literals) f.temps x
    known_one f c x k =
        each_contained (Knows asks h.callees (map (λ l. l.label) code.literals) f.temps)
        (names f.body)
        (names_ts asks.breaks (Knows asks h.callees (map (λ l. l.label) code.literals) f.temps) 0 f.body
        [] (fine_one f c).body tt) x k

    pub closed_one : asks.breaks → (f : Function Ts) → Contains code.functions f → IsClosed f.body
    closed_one b f c =
        let k = fine_one f c in
        record {
          breaks = breaks_ts asks.breaks (Knows asks h.callees (map (λ l. l.label) code.literals) f.temps)
              b 0 f.body k.body;
          last = k.last;
        }

    pub temps_one : asks.temps → (f : Function Ts) → Contains code.functions f → HasItsTemps names f
    temps_one t f c = λ i k. known_one f c (temporary i) k t

    -- how often a label is one of the program
    count_of : (n : ℕ) → times (λ f. f.label) n code.functions ≡ same 32 n + times (λ f. f.label) n h.shaped.rest
    count_of n =
        ap (times (λ f. f.label) n) h.shaped.functions ∙ ap (λ l. same l n + times (λ f. f.label) n h.shaped.rest)
        h.shaped.label

    pub all_once : (n : ℕ) → times (λ f. f.label) n code.functions + times (λ l. l.label) n code.literals + below n 32 ≤
        1
    all_once n =
        let i = count_of n in
        let j = h.shaped.counts n in
        let k = below_one n h.end in
        let m = below-next n 32 in
        omega (arith, i, j, k, m)

    pub above : (n : ℕ) → Contains (function_labels names code ++ literal_labels names code) n → 32 ≤ n
    above n c =
        let i = contained_counts (λ l. l) (function_labels names code ++ literal_labels names code) n
        (subst (λ xs. Contains xs n) (sym (map_self (function_labels names code ++ literal_labels names code))) c) in
        let j = times-append (λ l. l) n (function_labels names code) (literal_labels names code) in
        let k = times-map (λ f. f.label) code.functions n in
        let m = times-map (λ l. l.label) code.literals n in
        let o = all_once n in
        from_count n (omega (arith, i, j, k, m, o))
      where
        map_self : (xs : List ℕ) → map (λ l. l) xs ≡ xs
        map_self [] = refl
        map_self (x ∷ xs) = ap (λ ys. x ∷ ys) (map_self xs)

        from_count : (n : ℕ) → below n 32 ≡ 0 → 32 ≤ n
        from_count n i = elim (cases_lt n 32) [
          | inl lt ↦ absurd (let j = below_yes n 32 lt in omega (arith, i, j))
          | inr
              le ↦ le
        ]

    pub body_there : Contains (map (λ f. f.label) code.functions) 32
    body_there =
        counted_contains (λ f. f.label) code.functions 32
        (let i = count_of 32 in let j = same_self 32 in omega (arith, i, j))

    called_there : (l : ℕ) → Contains h.callees l → Contains (map (λ f. f.label) code.functions) l
    called_there l c =
        counted_contains (λ f. f.label) code.functions l
        (let i = count_of l in let j = contained_counts (λ f. f.label) h.shaped.rest l (h.shaped.called l c) in omega
        (arith, i, j))

    -- With the runtime's functions after them.

    module _ (routines : List (Function Ts))
        (labels : map (λ f. f.label) routines ≡ 0 ∷ 1 ∷ 2 ∷ 3 ∷ 4 ∷ 5 ∷ 6 ∷ 7 ∷ 8 ∷ 9 ∷ 10 ∷ 11 ∷ 12 ∷ [])
        (own : (f : Function Ts) → Contains routines f → (x : Named) → Contains (names f.body) x →
        ((l : ℕ) → x ≢ function l) × ((l : ℕ) → x ≢ literal l) × ((k : ℕ) → x ≡ fault k → k < 1048576)) where
      routine_counts : (n : ℕ) → times (λ f. f.label) n routines ≡ below n 13
      routine_counts n = sym (times-map (λ f. f.label) routines n) ∙ (ap (times (λ l. l) n) labels ∙ times-first n 13)

      abbrev whole : Code Ts
      whole = record { functions = code.functions ++ routines; literals = code.literals ++ [] }

      whole_once : (n : ℕ) → times (λ l. l) n (function_labels names whole ++ literal_labels names whole) ≤ 1
      whole_once n =
          let i = times-append (λ l. l) n (function_labels names whole) (literal_labels names whole) in
          let j = times-map (λ f. f.label) (code.functions ++ routines) n in
          let k = times-map (λ l. l.label) (code.literals ++ []) n in
          let m = times-append (λ f. f.label) n code.functions routines in
          let o = times-append (λ l. l.label) n code.literals [] in
          let p = routine_counts n in
          let q = all_once n in
          let s = fewer n in
          omega (arith, i, j, k, m, o, p, q, s)
        where
          fewer : (n : ℕ) → below n 13 ≤ below n 32
          fewer n =
              elim (cases_lt n 13) [
                | inl lt ↦ (let i = below_yes n 32 (omega (arith, lt)) in let j = below_one n 13 in omega (arith, i, j))
                | inr le ↦ (let i = below_no n 13 le in omega (arith, i))
              ]

      in_program : (l : ℕ) → Contains (map (λ f. f.label) code.functions) l → Contains (function_labels names whole) l
      in_program l c =
          subst (λ xs. Contains xs l) (sym (map-append (λ f. f.label) code.functions routines))
          (Contains-append_left (map (λ f. f.label) code.functions) (map (λ f. f.label) routines) l c)

      in_runtime : (l : ℕ) → l < 13 → Contains (function_labels names whole) l
      in_runtime l lt =
          counted_contains (λ f. f.label) (code.functions ++ routines) l
          (let i = times-append (λ f. f.label) l code.functions routines in
          let j = routine_counts l in
          let k = below_yes l 13 lt in
          omega (arith, i, j, k))

      called : (f : Function Ts) (l : ℕ) → Contains code.functions f ⊎ Contains routines f → Contains (names f.body)
          (function l) →
          Contains (function_labels names whole) l
      called f l (inl c) k = elim (known_one f c (function l) k)
          [ inl lt ↦ in_runtime l lt | inr m ↦ in_program l (called_there l m) ]
      called f l (inr c) k = absurd ((own f c (function l) k).0 l refl)

      addressed : (f : Function Ts) (l : ℕ) → Contains code.functions f ⊎ Contains routines f → Contains (names f.body)
          (literal l) →
          Contains (literal_labels names whole) l
      addressed f l (inl c) k =
          subst (λ xs. Contains xs l) (sym (map-append (λ m. m.label) code.literals []))
          (Contains-append_left (map (λ m. m.label) code.literals) [] l (known_one f c (literal l) k))
      addressed f l (inr c) k = absurd ((own f c (literal l) k).1 l refl)

      faulted : (f : Function Ts) (n : ℕ) → Contains code.functions f ⊎ Contains routines f → Contains (names f.body)
          (fault n) → n < 1048576
      faulted f n (inl c) k = known_one f c (fault n) k
      faulted f n (inr c) k = (own f c (fault n) k).2 n refl

      pub linked : IsLinked names whole
      linked = record {
        apart = once_apart (function_labels names whole ++ literal_labels names whole) whole_once;
        body = in_program 32 body_there;
        calls = λ f l c k. called f l (Contains-append_cases code.functions routines f c) k;
        addresses = λ f l c k. addressed f l (Contains-append_cases code.functions routines f c) k;
        faults = λ f n c k. faulted f n (Contains-append_cases code.functions routines f c) k;
      }
