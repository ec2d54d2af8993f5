-- A temporary without moves and without pairs gets the first colour; and a spilled class is named
-- once, by the node under which it stands.
use Rattle.std.proofs.Common.{◌≡◌, ◌≢◌, ℕ, ◌<◌, Bool, true, false, ◌&&◌, ◌⊎◌, inl, inr, refl, sym, ap, subst, ◌∙◌}
use Rattle.std.proofs.Common.{arith, ⊎_elim, List, [], ◌∷◌, ◌++◌, Option, Some}
use Rattle.std.specs.Prelude.{All, nat_lt, nat_eq, ◌==◌, if◌then◌else◌, find, fold, is_none}
use Rattle.std.specs.List.{AllByRecursion, IsDistinct, list_any, range_with_len}
use Rattle.std.proofs.lemmas.Bool.{ltb-true, lt-ltb}
use Rattle.std.proofs.lemmas.List.Elements.{All-from_recursion}
use Rattle.tg_irc_definition.specs.declared.steps.Step.{Step}
use Rattle.tg_irc_definition.specs.declared.steps.Step.TheVariants.{Simplify, Same, Constrain, Coalesce, Freeze, Spill}
use Rattle.tg_irc_definition.specs.declared.rounds.Round.{Round}
use Rattle.tg_irc_definition.specs.Graphs.{colour_count, some}
use Rattle.tg_irc_definition.specs.States.{Problem, RoundState, start, low, remains}
use Rattle.tg_irc_definition.specs.Steps.{can, after, after_all, AreTaken}
use Rattle.tg_irc_definition.specs.Selection.{Colouring, has_colour, precoloured, sees, is_free, pop, select}
use Rattle.tg_irc_definition.specs.Rounds.{end, IsRound}
use Rattle.tg_irc_definition.specs.laws.Laws.{IsTemporary, is_stacked}
use Rattle.tg_irc_definition.specs.laws.Classes.{IsAlone, BareAreFirstColoured, SpilledNameClasses, RegistersStandAbove}
use Rattle.tg_irc_definition.proofs.Deciding.{clash, both, and_true, either, or_left, or_right, neither, tells, never, not_true, from_false}
use Rattle.tg_irc_definition.proofs.Deciding.{same_node, same_test, some_is}
use Rattle.tg_irc_definition.proofs.Classes.{Holds, holds_at_start, holds_after, holds_from_start}
use Rattle.tg_irc_definition.proofs.Selecting.{any_is}
use Rattle.tg_irc_definition.proofs.Answering.{answered}
use Rattle.tg_irc_definition.proofs.AmongNodes.{all_pushed, spilled_among, rounds_are_of_nodes}
use Rattle.tg_irc_definition.proofs.Within.{class_is, untouched_stand_alone}

module _ (g : Problem) (s : RoundState) (x : ℕ) where
  abbrev first : Colouring → ℕ → Option ℕ
  first c y = find (is_free g s c y) (range_with_len 0 colour_count)

  -- it has none around, so the first colour is free at any time
  module _ (alone : (y : ℕ) → y < g.graph.nodes → s.alias y ≡ x → y ≡ x) (bare : (y : ℕ) → y < g.graph.nodes → g.graph.pairs x y ≡ false) where
    free : (c : Colouring) (j : ℕ) → is_free g s c x j ≡ true
    free c j =
        from_false (never (λ h. let a = any_is (sees g s c j) (λ y. s.alias y == x) 0 g.graph.nodes h in let l = a.1 in
        let same : a.0 ≡ x = alone a.0 (omega arith) (same_node (s.alias a.0) x a.2) in
        let b = (some_is (λ z. g.graph.pairs x z && has_colour (c.colour (s.alias z)) j) g.graph.nodes).0
        (subst (λ w. sees g s c j w ≡ true) same a.3) in
        clash (both (g.graph.pairs x b.0) _ b.2).0 (bare b.0 b.1)))

    first_is : (c : Colouring) → first c x ≡ Some 0
    first_is c = ap (λ b. if b then Some 0 else find (is_free g s c x) (range_with_len 1 24)) (free c 0)

    first_at : (c : Colouring) (y : ℕ) → (y == x) ≡ true → first c y ≡ Some 0
    first_at c y e = ap (first c) (same_node y x e) ∙ first_is c

    stays_first : (xs : List ℕ) (c : Colouring) → c.colour x ≡ Some 0 → (fold (pop g s) c xs).colour x ≡ Some 0
    stays_first [] c h = h
    stays_first (y ∷ xs) c h = stays_first xs (pop g s c y) (by (tells (x == y)))
      where
        by : ((x == y) ≡ true) ⊎ ((x == y) ≡ false) → (pop g s c y).colour x ≡ Some 0
        by (inl e) = ap (λ t. if t then first c y else c.colour x) e ∙ first_at c y (same_test y x (sym (same_node x y e)))
        by (inr e) = ap (λ t. if t then first c y else c.colour x) e ∙ h

    gets_first : (xs : List ℕ) (c : Colouring) → list_any (λ y. y == x) xs ≡ true → (fold (pop g s) c xs).colour x ≡ Some 0
    gets_first [] c h = cc
    gets_first (y ∷ xs) c h =
        ⊎_elim (λ e. stays_first xs (pop g s c y)
        (ap (λ t. if t then first c y else c.colour x) (same_test x y (sym (same_node y x e))) ∙ first_at c y e))
        (λ k. gets_first xs (pop g s c y) k) (either (y == x) _ h)

    abbrev Others : List ℕ → Type 0
    Others ys = AllByRecursion (λ y. y ≢ x) ys

    not_spilled : (xs : List ℕ) (c : Colouring) → Others c.spilled → Others (fold (pop g s) c xs).spilled
    not_spilled [] c h = h
    not_spilled (y ∷ xs) c h = not_spilled xs (pop g s c y) (by (tells (y == x)))
      where
        by : ((y == x) ≡ true) ⊎ ((y == x) ≡ false) → Others (pop g s c y).spilled
        by (inl e) = subst (λ o. Others (if is_none o then c.spilled ++ y ∷ [] else c.spilled)) (sym (first_at c y e)) h
        by (inr e) = either_way (is_none (first c y))
          where
            either_way : (b : Bool) → Others (if b then c.spilled ++ y ∷ [] else c.spilled)
            either_way true = all_pushed (λ z. z ≢ x) c.spilled y h (λ d. clash (same_test y x d) e)
            either_way false = h

-- at the end of a round each temporary was taken out
taken_out : (g : Problem) (round : Round) → IsRound g round → Holds g (end g round) → (x : ℕ) → IsTemporary g x →
    (end g round).alias x ≡ x → is_stacked (end g round) x ≡ true
taken_out g round r h x t own =
    ⊎_elim (λ k. absurd (clash (still (subst (λ w. s.remaining w ≡ true) own k)) none))
    (λ k. subst (λ w. is_stacked s w ≡ true) own k) (h.classes.alias_is_placed x t.1)
  where
    s : RoundState
    s = end g round

    none : some (remains g s) g.graph.nodes ≡ false
    none = (neither (some (remains g s) g.graph.nodes) _ (not_true r.over)).0

    still : s.remaining x ≡ true → some (remains g s) g.graph.nodes ≡ true
    still k =
        (some_is (remains g s) g.graph.nodes).1
        (x, t.1, and_true (and_true (lt-ltb x g.graph.nodes t.1) k) (from_false (never (λ e. let l = ltb-true x colour_count e in let m = t.0 in omega arith))))

pub bare_are_first_coloured : BareAreFirstColoured
bare_are_first_coloured g round graph nodes r x t untouched bare =
    record {
      colour = answered g round r x t.1 ∙ ap Some
          (ap (select g s).colour own ∙ gets_first g s x no_other bare s.stack precoloured (taken_out g round r holds x t own));
      not_spilled = subst (All (λ y. y ≢ x)) (sym r.spilled)
          (All-from_recursion (λ y. y ≢ x) (select g s).spilled (not_spilled g s x no_other bare s.stack precoloured tt));
    }
  where
    s : RoundState
    s = end g round

    holds : Holds g (end g round)
    holds = holds_from_start g graph nodes round.steps r.steps

    alone : IsAlone g round x
    alone = untouched_stand_alone g round r x t.1 untouched

    own : (end g round).alias x ≡ x
    own = sym (class_is g round r x t.1) ∙ alone.own

    no_other : (y : ℕ) → y < g.graph.nodes → (end g round).alias y ≡ x → y ≡ x
    no_other y l e = alone.no_other y l (class_is g round r y l ∙ e)

-- Spilled classes.

-- none of these numbers is that one
abbrev Apart : ℕ → List ℕ → Type 0
Apart x ys = AllByRecursion (λ y. nat_eq y x ≡ false) ys

abbrev ApartFrom : ℕ → List ℕ → Type 0
ApartFrom x ys = AllByRecursion (λ y. nat_eq x y ≡ false) ys

swapped : (x y : ℕ) → nat_eq x y ≡ false → nat_eq y x ≡ false
swapped x y h = never (λ e. clash (same_test x y (sym (same_node y x e))) h)

not_among : (x : ℕ) (ys : List ℕ) → list_any (λ y. y == x) ys ≡ false → ApartFrom x ys
not_among x [] h = tt
not_among x (y ∷ ys) h = let n = neither (y == x) _ h in (swapped y x n.0, not_among x ys n.1)

module _ (g : Problem) where
  distinct_after : (s : RoundState) (step : Step) → Holds g s → can g s step ≡ true → IsDistinct nat_eq s.stack →
      IsDistinct nat_eq (after g s step).stack
  unfolding IsDistinct
  distinct_after s (Simplify x) h c d = (
    not_among x s.stack (never (λ k. clash
        (both (nat_lt x g.graph.nodes) (s.remaining x) (both (nat_lt x g.graph.nodes && s.remaining x) _
        (both (remains g s x) (low g s x) (both (remains g s x && low g s x) _ c).0).0).0).1 (h.classes.stacked_is_gone x k))),
    d,
  )
  distinct_after s (Spill x) h c d = (
    not_among x s.stack (never (λ k. clash
        (both (nat_lt x g.graph.nodes) (s.remaining x) (both (nat_lt x g.graph.nodes && s.remaining x) _
        (both (remains g s x) _ c).0).0).1 (h.classes.stacked_is_gone x k))),
    d,
  )
  distinct_after s (Same i) h c d = d
  distinct_after s (Constrain i) h c d = d
  distinct_after s (Coalesce i kept gone b) h c d = d
  distinct_after s (Freeze x) h c d = d

  distinct_all : (s : RoundState) (steps : List Step) → Holds g s → AreTaken g s steps → IsDistinct nat_eq s.stack →
      IsDistinct nat_eq (after_all g s steps).stack
  distinct_all s [] h t d = d
  distinct_all s (step ∷ steps) h t d =
      distinct_all (after g s step) steps (holds_after g s step h t.0.possible) t.1 (distinct_after s step h t.0.possible d)

  -- what is spilled so far, and what is still to be popped
  record IsApart (spilled xs : List ℕ) : Type 0 where
    so_far : IsDistinct nat_eq spilled
    still : IsDistinct nat_eq xs
    apart : AllByRecursion (λ x. Apart x spilled) xs

  snoc_distinct : (ys : List ℕ) (y : ℕ) → IsDistinct nat_eq ys → Apart y ys → IsDistinct nat_eq (ys ++ y ∷ [])
  unfolding IsDistinct
  snoc_distinct [] y d h = (tt, tt)
  snoc_distinct (z ∷ ys) y d h = (all_pushed (λ w. nat_eq z w ≡ false) ys y d.0 h.0, snoc_distinct ys y d.1 h.1)

  all_snoc : (ys : List ℕ) (y : ℕ) (xs : List ℕ) → AllByRecursion (λ x. Apart x ys) xs → ApartFrom y xs →
      AllByRecursion (λ x. Apart x (ys ++ y ∷ [])) xs
  all_snoc ys y [] h k = tt
  all_snoc ys y (x ∷ xs) h k = (all_pushed (λ w. nat_eq w x ≡ false) ys y h.0 k.0, all_snoc ys y xs h.1 k.1)

  apart_popped : (b : Bool) (ys : List ℕ) (y : ℕ) (xs : List ℕ) → IsApart ys (y ∷ xs) → IsApart (if b then ys ++ y ∷ [] else ys) xs
  unfolding IsDistinct
  apart_popped true ys y xs h = record {
    so_far = snoc_distinct ys y h.so_far h.apart.0;
    still = h.still.1;
    apart = all_snoc ys y xs h.apart.1 h.still.0;
  }
  apart_popped false ys y xs h = record { so_far = h.so_far; still = h.still.1; apart = h.apart.1 }

  distinct_popped : (s : RoundState) (xs : List ℕ) (c : Colouring) → IsApart c.spilled xs → IsDistinct nat_eq (fold (pop g s) c xs).spilled
  distinct_popped s [] c h = h.so_far
  distinct_popped s (x ∷ xs) c h =
      distinct_popped s xs (pop g s c x)
      (apart_popped (is_none (find (is_free g s c x) (range_with_len 0 colour_count))) c.spilled x xs h)

none_apart : (xs : List ℕ) → AllByRecursion (λ x. Apart x []) xs
none_apart [] = tt
none_apart (x ∷ xs) = (tt, none_apart xs)

all_stacked : (P : ℕ → Type 0) (xs : List ℕ) → ((x : ℕ) → list_any (λ y. y == x) xs ≡ true → P x) → AllByRecursion P xs
all_stacked P [] h = tt
all_stacked P (x ∷ xs) h = (h x (or_left (x == x) _ (same_test x x refl)), all_stacked P xs (λ y k. h y (or_right (x == y) _ k)))

pub spilled_name_classes : SpilledNameClasses
unfolding IsDistinct
spilled_name_classes g round graph nodes r =
    record {
      own = λ i d l. let t = (rounds_are_of_nodes g round nodes r).spilled i d l in class_is g round r _ t.1 ∙ own i d l;
      once = subst (IsDistinct nat_eq) (sym r.spilled)
          (distinct_popped g s s.stack precoloured (record {
            so_far = tt;
            still = distinct_all g (start g) round.steps (holds_at_start g graph nodes) r.steps tt;
            apart = none_apart s.stack;
          }));
    }
  where
    s : RoundState
    s = end g round

    holds : Holds g (end g round)
    holds = holds_from_start g graph nodes round.steps r.steps

    own : All (λ x. (end g round).alias x ≡ x) round.spilled
    own =
        subst (All (λ x. (end g round).alias x ≡ x)) (sym r.spilled)
        (All-from_recursion (λ x. (end g round).alias x ≡ x) (select g s).spilled
        (spilled_among g s (λ x. s.alias x ≡ x) s.stack precoloured
        (all_stacked (λ x. s.alias x ≡ x) s.stack (λ x h. holds.classes.stacked_is_own x h)) tt))

pub registers_stand_above : RegistersStandAbove
registers_stand_above g round graph nodes r x l t =
    let k = (holds_from_start g graph nodes round.steps r.steps).classes in
    class_is g round r x l ∙ k.remaining_is_own x l (k.register_remains x l t)
