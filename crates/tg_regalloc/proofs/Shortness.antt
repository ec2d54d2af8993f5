-- Each round but the last leaves fewer temporaries in the code, so there are few rounds and slots;
-- and every temporary goes to the frame exactly where the last round spills made ones alone.
use Rattle.std.proofs.Common.{lit≤, Option, None}
use Rattle.std.proofs.Common.{ℕ, zero, suc, ◌≡◌, ◌≢◌, ◌≤◌, ◌<◌, ◌+◌, ◌-◌, ◌||◌, List, [], ◌∷◌, Bool, true, false, Some, length, refl, ap, sym, subst}
use Rattle.std.proofs.Common.{◌∙◌, arith, ◌⊎◌, inl, inr}
use Rattle.std.specs.Prelude.{All, IsTrue, nat_eq, nat_le, nat_lt, filter, get_or, cond, if◌then◌else◌}
use Rattle.std.specs.List.{AllByRecursion, IsDistinct, cons_option, list_any, position_from}
use Rattle.std.specs.Option.{option_map}
use Rattle.std.proofs.lemmas.Bool.{ltb-true, ltb-false, le-ltb, le-leb}
use Rattle.std.proofs.lemmas.Bool.Decides.{nat_tests}
use Rattle.std.proofs.lemmas.Iterator.Adapters.{position_from-zero}
use Rattle.std.proofs.lemmas.List.Elements.{recursion_from_All}
use Rattle.std.proofs.lemmas.Option.{get_or_from_slice_get}
use Rattle.tg_irc_definition.specs.declared.steps.Step.{Step}
use Rattle.tg_irc_definition.specs.declared.candidates.NodeFacts.{NodeFacts}
use Rattle.tg_irc_definition.specs.declared.rounds.Round.{Round}
use Rattle.tg_irc_definition.specs.Graphs.{Set, bit, count, without, is_register}
use Rattle.tg_irc_definition.specs.Policies.{Rule}
use Rattle.tg_irc_definition.specs.States.{Problem, RoundState, start, facts_at}
use Rattle.tg_irc_definition.specs.Steps.{after, after_all, AreTaken}
use Rattle.tg_irc_definition.specs.Rounds.{end}
use Rattle.tg_irc_definition.specs.laws.Laws.{AreNodes, StandsWell}
use Rattle.tg_irc_definition.specs.laws.Classes.{class_of, NamesClasses}
use Rattle.tg_irc_definition.proofs.Deciding.{clash, or_left, or_right, same_test, tells}
use Rattle.tg_irc_definition.proofs.Counting.{count_le, count_out, stays_in}
use Rattle.tg_irc_definition.proofs.Answering.{listed_at}
use Rattle.tg_irc_definition.proofs.Standing.{stands_at_start, stands_after}
use Rattle.tg_irc_definition.proofs.AmongNodes.{rounds_are_of_nodes}
use Rattle.tg_irc_definition.proofs.Within.{class_is}
use Rattle.tg_irc_definition.proofs.Bare.{spilled_name_classes}
use Rattle.tg_interference.specs.Facts.{occurrences, facts_of, facts_of_nodes}
use Rattle.tg_regalloc.specs.Rewriting.{slot_after, is_original, slotted, slot_by}
use Rattle.tg_regalloc.specs.Rounds.{BetweenRounds, stage_of, IsRoundOf, AreRounds, slots_by, next_stage, last_round}
use Rattle.tg_regalloc.specs.Rounds.AreRounds.{last, more}
use Rattle.tg_regalloc.specs.laws.Explained.{problem_of}
use Rattle.tg_regalloc.specs.laws.Growth.{slots_given, AllocationsAreShort, SpillsMadeAlone, AllInFrameIsLast}
use Rattle.tg_regalloc.proofs.RewrittenBelow.{temps_below}
use Rattle.tg_regalloc.proofs.Renamed.{temp, temps_rise}
use Rattle.tg_regalloc.proofs.OneRound.{HasTempsBelow, is_graph, are_nodes}
use Rattle.tg_regalloc.proofs.Causes.{Ends, ends}
use Rattle.tg_regalloc.proofs.Slotting.{filtered}
use Rattle.tg_regalloc.proofs.Absent.{filtered_too, absent_slotless, occurs, absent_unspilled, code_avoids}

-- Lists and sets of numbers.

distinct_filtered : (p : ℕ → Bool) (xs : List ℕ) → IsDistinct nat_eq xs → IsDistinct nat_eq (filter p xs)
unfolding IsDistinct
distinct_filtered p [] h = tt
distinct_filtered p (x ∷ xs) h = by (p x) (distinct_filtered p xs h.1)
  where
    by : (b : Bool) → IsDistinct nat_eq (filter p xs) → IsDistinct nat_eq (if b then x ∷ filter p xs else filter p xs)
    by true r = (filtered_too (λ y. nat_eq x y ≡ false) p xs h.0, r)
    by false r = r

-- each member of a list passes the test of being in it
each_in : (xs ys : List ℕ) → ((z : ℕ) → list_any (nat_eq z) xs ≡ true → list_any (nat_eq z) ys ≡ true) →
    AllByRecursion (λ z. list_any (nat_eq z) ys ≡ true) xs
each_in [] ys f = tt
each_in (x ∷ xs) ys f =
    (f x (or_left (nat_eq x x) _ (same_test x x refl)), each_in xs ys (λ z h. f z (or_right (nat_eq z x) _ h)))

found : (x : ℕ) (xs : List ℕ) (at : ℕ) → list_any (nat_eq x) xs ≡ true → (j : ℕ) × (position_from (nat_eq x) at xs ≡ Some j)
found x [] at h = cc
found x (y ∷ ys) at h = by (nat_eq x y) h (λ e. found x ys (at + 1) e)
  where
    by : (b : Bool) → (b || list_any (nat_eq x) ys) ≡ true →
        (list_any (nat_eq x) ys ≡ true → (j : ℕ) × (position_from (nat_eq x) (at + 1) ys ≡ Some j)) →
        (j : ℕ) × (cond b (Some at) (position_from (nat_eq x) (at + 1) ys) ≡ Some j)
    by true e f = (at, refl)
    by false e f = f e

slot_found : (classes : List ℕ) (base x : ℕ) → list_any (nat_eq x) classes ≡ true → (j : ℕ) × (slot_by classes base x ≡ Some j)
slot_found classes base x h =
    let p = found x classes 0 h in
    (base + p.0, ap (option_map (λ k. base + k)) (position_from-zero (nat_eq x) classes ∙ p.1))

count_all : (S : Set) (n : ℕ) → count S n ≤ n
count_all S zero = lit≤ tt
count_all S (suc n) = let h = count_all S n in let b = few (S n) in omega (arith, h, b)
  where
    few : (b : Bool) → bit b ≤ 1
    few true = lit≤ tt
    few false = lit≤ tt

-- a number of these is in the one set and not in the other
record Leaves (n : ℕ) (S T : Set) (x : ℕ) : Type 0 where
  low : 25 ≤ x
  high : x < 25 + n
  was : S (x - 25) ≡ true
  goes : T (x - 25) ≡ false

-- so many fewer are in that
count_leaves : (n : ℕ) (T : Set) (xs : List ℕ) (S : Set) → IsDistinct nat_eq xs → AllByRecursion (λ x. Leaves n S T x) xs →
    ((t : ℕ) → t < n → T t ≡ true → S t ≡ true) → count T n + length xs ≤ count S n
unfolding IsDistinct
count_leaves n T [] S d h f = let a = count_le T S n f in omega (arith, a)
count_leaves n T (x ∷ xs) S d h f =
    let lo = h.0.low in
    let hi = h.0.high in
    let out = count_out S (x - 25) n (omega (arith, lo, hi)) h.0.was in
    let rest = count_leaves n T xs (without (x - 25) S) d.1 (others xs d.0 h.1)
    (λ t l e. stays_in (x - 25) t S (λ q. clash e (subst (λ w. T w ≡ false) (sym q) h.0.goes)) (f t l e)) in
    omega (arith, out, rest)
  where
    others : (ys : List ℕ) → AllByRecursion (λ y. nat_eq x y ≡ false) ys → AllByRecursion (λ y. Leaves n S T y) ys →
        AllByRecursion (λ y. Leaves n (without (x - 25) S) T y) ys
    others [] a b = tt
    others (y ∷ ys) a b =
        let lo = h.0.low in
        let lo' = b.0.low in (
          record {
            low = b.0.low;
            high = b.0.high;
            was = stays_in (x - 25) (y - 25) S (λ q. let e : x ≡ y = omega (arith, lo, lo', q) in clash (same_test x y e) a.0) b.0.was;
            goes = b.0.goes;
          },
          others ys a.1 b.1,
        )

not_empty : {x : ℕ} {xs : List ℕ} → x ∷ xs ≡ [] → ⊥
not_empty e = cc

in_filtered : (p : ℕ → Bool) (xs : List ℕ) (i d : ℕ) → i < length xs → p (get_or xs i d) ≡ true → filter p xs ≡ [] → ⊥
in_filtered p [] i d l h e = omega arith
in_filtered p (x ∷ xs) zero d l h e = not_empty (subst (λ b. (if b then x ∷ filter p xs else filter p xs) ≡ []) h e)
in_filtered p (x ∷ xs) (suc i) d l h e = by (p x) e (λ q. in_filtered p xs i d (omega arith) h q)
  where
    by : (b : Bool) → (if b then x ∷ filter p xs else filter p xs) ≡ [] → (filter p xs ≡ [] → ⊥) → ⊥
    by true q f = not_empty q
    by false q f = f q

-- One round.

module _ (rule : Rule) (n : ℕ) (s : BetweenRounds) (round : Round) (r : IsRoundOf rule n s round) (below : HasTempsBelow s) (some : n ≤ s.temps) where
  abbrev g : Problem
  g = problem_of rule n s r.graph

  nodes : AreNodes g
  nodes = are_nodes rule n s r.graph r.exact below

  names_classes : NamesClasses round
  names_classes = spilled_name_classes g round (is_graph r.graph) nodes r.run

  -- what is known of each spilled class
  abbrev IsKnown : ℕ → Type 0
  IsKnown x = (25 ≤ x) × (class_of round x ≡ x) × (x < 25 + n → occurs s.list (x - 25) ≡ true)

  each_known : All (λ x. IsKnown x) round.spilled
  each_known i d l =
      let x = get_or round.spilled i d in
      let low = ((rounds_are_of_nodes g round nodes r.run).spilled i d l).0 in
      (low, names_classes.own i d l, λ u. by x (tells (occurs s.list (x - 25))) low u refl)
    where
      by : (x : ℕ) → (occurs s.list (x - 25) ≡ true) ⊎ (occurs s.list (x - 25) ≡ false) → 25 ≤ x → x < 25 + n → get_or round.spilled i d ≡ x →
          occurs s.list (x - 25) ≡ true
      by x (inl h) lo u e = h
      by x (inr h) lo u e =
          let t : 25 + (x - 25) ≡ x = omega (arith, lo) in
          absurd (absent_unspilled rule n s round r below some (x - 25) (omega (arith, lo, u)) h i d l (e ∙ sym t))

  abbrev gone : ℕ → Bool
  gone t = occurs (next_stage n s round).list t

  -- each class that takes a slot leaves the code
  each_leaves : AllByRecursion (λ x. Leaves n (occurs s.list) gone x) (slotted n round)
  each_leaves =
      leaving (slotted n round)
      (filtered (λ x. IsKnown x) (is_original n) round.spilled (recursion_from_All (λ x. IsKnown x) round.spilled each_known))
      (each_in (slotted n round) (slotted n round) (λ z h. h))
    where
      leaving : (xs : List ℕ) → AllByRecursion (λ x. IsKnown x × (is_original n x ≡ true)) xs →
          AllByRecursion (λ z. list_any (nat_eq z) (slotted n round) ≡ true) xs → AllByRecursion (λ x. Leaves n (occurs s.list) gone x) xs
      leaving [] a b = tt
      leaving (x ∷ xs) a b =
          let k : IsKnown x = a.0.0 in
          let lo = k.0 in
          let hi = ltb-true x (25 + n) a.0.1 in
          let t : 25 + (x - 25) ≡ x = omega (arith, lo) in
          let f = slot_found (slotted n round) s.slots x b.0 in (
            record {
              low = k.0;
              high = hi;
              was = k.2 hi;
              goes = code_avoids (slots_by n s round) (x - 25) s.list s.temps (omega (arith, lo, hi, some))
                  (inr (f.0, ap (slot_by (slotted n round) s.slots) (ap (class_of round) t ∙ k.1) ∙ f.1));
            },
            leaving xs a.1 b.1,
          )

  pub leaves : count (occurs (next_stage n s round).list) n + length (slotted n round) ≤ count (occurs s.list) n
  leaves =
      count_leaves n gone (slotted n round) (occurs s.list) (distinct_filtered (is_original n) round.spilled names_classes.once) each_leaves
      (λ t l e. was_there t l (tells (occurs s.list t)) e)
    where
      was_there : (t : ℕ) → t < n → (occurs s.list t ≡ true) ⊎ (occurs s.list t ≡ false) → gone t ≡ true → occurs s.list t ≡ true
      was_there t l (inl h) e = h
      was_there t l (inr h) e =
          absurd (clash e (code_avoids (slots_by n s round) t s.list s.temps (omega (arith, l, some)) (inl h)))

-- All rounds.

record Shrinks (n : ℕ) (s t : BetweenRounds) (rounds : List Round) : Type 0 where
  few : length rounds ≤ count (occurs s.list) n + 1
  slots : t.slots ≤ s.slots + count (occurs s.list) n

some_in : {A : Type 0} (xs : List A) → xs ≢ [] → 1 ≤ length xs
some_in [] h = absurd (h refl)
some_in (x ∷ xs) h = omega arith

module _ (rule : Rule) (n : ℕ) where
  shrinks : {s t : BetweenRounds} {rounds : List Round} → AreRounds rule n s rounds t → HasTempsBelow s → n ≤ s.temps → Shrinks n s t rounds
  shrinks (last s round r e) below some = record { few = omega arith; slots = omega arith }
  shrinks (more s t round rounds r ne rest) below some =
      let a = leaves rule n s round r below some in
      let b = some_in (slotted n round) ne in
      let rises = temps_rise (slots_by n s round) s.list s.temps in
      let behind = shrinks rest (temps_below (slots_by n s round) s.list s.temps below) (omega (arith, some, rises)) in
      let f = behind.few in
      let g = behind.slots in
      record { few = omega (arith, a, b, f); slots = omega (arith, a, g) }

-- an original gets one slot at most, and none where it doesn't occur
module _ (rule : Rule) (n t : ℕ) (l : t < n) where
  none_given : {s u : BetweenRounds} {rounds : List Round} → AreRounds rule n s rounds u → HasTempsBelow s → n ≤ s.temps → occurs s.list t ≡ false →
      length (slots_given n s.slots rounds t) ≤ 0
  none_given (last s round r e) below some h =
      subst (λ o. length (cons_option o []) ≤ 0) (sym (absent_slotless rule n s round r below some t l h)) (lit≤ tt)
  none_given (more s u round rounds r ne rest) below some h =
      let rises = temps_rise (slots_by n s round) s.list s.temps in
      subst (λ o. length (cons_option o (slots_given n (s.slots + length (slotted n round)) rounds t)) ≤ 0)
      (sym (absent_slotless rule n s round r below some t l h))
      (none_given rest (temps_below (slots_by n s round) s.list s.temps below) (omega (arith, some, rises))
      (code_avoids (slots_by n s round) t s.list s.temps (omega (arith, l, some)) (inl h)))

  one_given : {s u : BetweenRounds} {rounds : List Round} → AreRounds rule n s rounds u → HasTempsBelow s → n ≤ s.temps →
      length (slots_given n s.slots rounds t) ≤ 1
  one_given (last s round r e) below some = one_last (slot_after n s.slots round t)
    where
      one_last : (o : Option ℕ) → length (cons_option o []) ≤ 1
      one_last None = lit≤ tt
      one_last (Some j) = lit≤ tt
  one_given (more s u round rounds r ne rest) below some =
      let rises = temps_rise (slots_by n s round) s.list s.temps in
      let still = temps_below (slots_by n s round) s.list s.temps below in
      by (slot_after n s.slots round t) refl (one_given rest still (omega (arith, some, rises)))
      (λ j e. none_given rest still (omega (arith, some, rises))
      (code_avoids (slots_by n s round) t s.list s.temps (omega (arith, l, some)) (inr (j, e))))
    where
      by : (o : Option ℕ) → slot_after n s.slots round t ≡ o →
          length (slots_given n (s.slots + length (slotted n round)) rounds t) ≤ 1 →
          ((j : ℕ) → slot_after n s.slots round t ≡ Some j → length (slots_given n (s.slots + length (slotted n round)) rounds t) ≤ 0) →
          length (cons_option o (slots_given n (s.slots + length (slotted n round)) rounds t)) ≤ 1
      by None e f g = f
      by (Some j) e f g = let z = g j e in omega (arith, z)

pub allocations_are_short : AllocationsAreShort
allocations_are_short rule code frame a h =
    record {
      rounds = let f = all.few in omega (arith, f, most);
      slots = by a.all_in_frame refl;
      once =
          λ t l. one_given rule code.temps t l h.rounds code.temps_below (omega arith);
    }
  where
    all : Shrinks code.temps (stage_of code frame.slots) h.end a.rounds
    all = shrinks rule code.temps h.rounds code.temps_below (omega arith)

    most : count (occurs code.list) code.temps ≤ code.temps
    most = count_all (occurs code.list) code.temps

    by : (in_frame : Bool) → a.all_in_frame ≡ in_frame → a.slots ≤ code.temps
    by false e = let c = (h.coloured e).slots in let s = all.slots in omega (arith, c, s, most)
    by true e = let c = (h.in_frame e).slots in omega (arith, c)

-- The last round.

module _ (rule : Rule) (n : ℕ) (s : BetweenRounds) (round : Round) (r : IsRoundOf rule n s round) (below : HasTempsBelow s) (some : n ≤ s.temps)
    (nothing : slotted n round ≡ []) where
  abbrev p : Problem
  p = problem_of rule n s r.graph

  stands_all : (q : RoundState) (steps : List Step) → StandsWell p q → AreTaken p q steps → StandsWell p (after_all p q steps)
  stands_all q [] h t = h
  stands_all q (step ∷ steps) h t = stands_all (after p q step) steps (stands_after p q step h t.0.possible) t.1

  marked : (x : ℕ) → x < 25 + s.temps → facts_at p (end p round) x ≡ facts_of s.list n x
  marked x l = get_or_from_slice_get (facts_of_nodes s.list s.temps n) x (facts_of s.list n x) (record { uses = 0; made = false })
      (listed_at (25 + s.temps) (facts_of s.list n) x l)

  facts_made : (x : ℕ) → 25 ≤ x → (facts_of s.list n x).made ≡ nat_le n (x - 25)
  facts_made x l =
      ap (λ b. (cond {A = NodeFacts} b (record { uses = 0; made = false }) (record { uses = occurrences (temp (x - 25)) s.list; made = nat_le n (x - 25) })).made)
      (le-ltb x 25 l)

  is_node : (x : ℕ) → x < 25 + s.temps → x < r.graph.nodes
  is_node x l = subst (λ m. x < m) (sym r.exact.nodes) l

  -- no class that is spilled holds a temporary that was handed in
  pub made_alone : (t : ℕ) → t < n → All (λ x. class_of round (25 + t) ≢ x) round.spilled
  made_alone t l i d u e =
      let temporary = (rounds_are_of_nodes p round (are_nodes rule n s r.graph r.exact below) r.run).spilled i d u in
      let low = temporary.0 in
      let high = temporary.1 in
      by (tells (nat_lt (get_or round.spilled i d) (25 + n))) low high
    where
      x : ℕ
      x = get_or round.spilled i d

      under : (end p round).alias (25 + t) ≡ get_or round.spilled i d
      under = sym (class_is p round r.run (25 + t) (is_node (25 + t) (omega (arith, l, some)))) ∙ e

      stands : StandsWell p (end p round)
      stands = stands_all (start p) round.steps (stands_at_start p) r.run.steps

      handed_in : (facts_at p (end p round) (25 + t)).made ≡ false
      handed_in =
          ap (λ (m : NodeFacts). m.made) (marked (25 + t) (omega (arith, l, some)))
          ∙ (facts_made (25 + t) (omega arith) ∙ small ((25 + t) - 25) (omega (arith, l)))
        where
          small : (j : ℕ) → j < n → nat_le n j ≡ false
          small j k = grind (arith, nat_tests)

      by : (nat_lt (get_or round.spilled i d) (25 + n) ≡ true) ⊎ (nat_lt (get_or round.spilled i d) (25 + n) ≡ false) →
          25 ≤ get_or round.spilled i d → get_or round.spilled i d < r.graph.nodes → ⊥
      by (inl h) low high = in_filtered (is_original n) round.spilled i d u h nothing
      by (inr h) low high =
          let big = ltb-false (get_or round.spilled i d) (25 + n) h in
          let inside : get_or round.spilled i d < 25 + s.temps = subst (λ m. get_or round.spilled i d < m) r.exact.nodes high in
          let made : (facts_at p (end p round) (get_or round.spilled i d)).made ≡ true =
          ap (λ (m : NodeFacts). m.made) (marked (get_or round.spilled i d) inside) ∙
          (facts_made (get_or round.spilled i d) low ∙ le-leb n (get_or round.spilled i d - 25) (omega (arith, big, low))) in
          clash
          (stands.well (25 + t) (is_node (25 + t) (omega (arith, l, some)))
          (subst (λ w. is_register w ≡ false) (sym under) (le-ltb (get_or round.spilled i d) 25 low))
          (subst (λ w. (facts_at p (end p round) w).made ≡ true) (sym under) made)) handed_in

-- the temporaries of the last code are those handed in and more
more_temps : (rule : Rule) (n : ℕ) {s t : BetweenRounds} {rounds : List Round} → AreRounds rule n s rounds t → n ≤ s.temps → n ≤ t.temps
more_temps rule n (last s round r e) some = some
more_temps rule n (more s t round rounds r ne rest) some =
    let rises = temps_rise (slots_by n s round) s.list s.temps in
    more_temps rule n rest (omega (arith, some, rises))

pub all_in_frame_is_last : AllInFrameIsLast
all_in_frame_is_last rule code frame a h = (forth, back a.all_in_frame refl)
  where
    e : Ends rule code.temps h.end (last_round a.rounds)
    e = ends rule code.temps h.rounds code.temps_below

    forth : IsTrue a.all_in_frame → SpillsMadeAlone code.temps (last_round a.rounds)
    forth t = record {
      something_spilled = (h.in_frame t).something_spilled;
      made = made_alone rule code.temps h.end (last_round a.rounds) e.is_round e.below (more_temps rule code.temps h.rounds (omega arith)) e.nothing_slotted;
    }

    back : (b : Bool) → a.all_in_frame ≡ b → SpillsMadeAlone code.temps (last_round a.rounds) → IsTrue a.all_in_frame
    back true q m = q
    back false q m = absurd (m.something_spilled (h.coloured q).nothing_spilled)
