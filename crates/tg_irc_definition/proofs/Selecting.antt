-- Where nothing is taken out high, each class that is popped finds a colour.
use Rattle.std.proofs.Common.{◌≡◌, ◌≢◌, ℕ, zero, suc, ◌+◌, ◌<◌, ◌≤◌, true, false, not, ◌&&◌, ◌⊎◌, inl, inr, refl, sym}
use Rattle.std.proofs.Common.{ap, subst, ◌∙◌, arith, ⊎_elim, List, [], ◌∷◌, ◌++◌, Option, Some, None}
use Rattle.std.specs.Prelude.{nat_lt, nat_eq, ◌==◌, if◌then◌else◌, filter, find, fold, is_none}
use Rattle.std.specs.List.{list_any, range_with_len}
use Rattle.std.proofs.lemmas.Bool.{ltb-true}
use Rattle.std.proofs.lemmas.Bool.Decides.{eqb_tells}
use Rattle.tg_irc_definition.specs.declared.steps.Step.{Step}
use Rattle.tg_irc_definition.specs.declared.steps.Step.TheVariants.{Simplify, Same, Constrain, Coalesce, Freeze, Spill}
use Rattle.tg_irc_definition.specs.Graphs.{colour_count, is_register, Set, some, neighbours, degree}
use Rattle.tg_irc_definition.specs.States.{Problem, RoundState, start, low, remains}
use Rattle.tg_irc_definition.specs.Steps.{can, after, after_all, IsTaken, AreTaken}
use Rattle.tg_irc_definition.specs.Selection.{Colouring, has_colour, precoloured, is_free, pop}
use Rattle.tg_irc_definition.specs.laws.Laws.{is_spill, is_stacked, ColourableNeverSpills}
use Rattle.tg_irc_definition.proofs.Deciding.{clash, both, and_true, either, or_right, neither, tells, never, from_false}
use Rattle.tg_irc_definition.proofs.Deciding.{same_node, some_is}
use Rattle.tg_irc_definition.proofs.Counting.{was_in, free_colour}
use Rattle.tg_irc_definition.proofs.Classes.{Holds, holds_at_start, holds_after, holds_all, none_joins, stacked_to_end}
use Rattle.tg_irc_definition.proofs.Explaining.{same_to_end}
use Rattle.tg_irc_definition.proofs.NoSpill.{none_spilled}

-- Searches among the numbers from one on.
pub any_is : (p q : Set) (a n : ℕ) → list_any p (filter q (range_with_len a n)) ≡ true → (y : ℕ) × (y < a + n) ×
    (q y ≡ true) × (p y ≡ true)
any_is p q a zero h = cc
any_is p q a (suc n) h = by (tells (q a)) (any_is p q (a + 1) n)
  where
    more : (y : ℕ) × (y < (a + 1) + n) × (q y ≡ true) × (p y ≡ true) → (y : ℕ) × (y < a + suc n) × (q y ≡ true) ×
        (p y ≡ true)
    more r = let l = r.1 in (r.0, omega arith, r.2, r.3)

    by : (q a ≡ true) ⊎ (q a ≡ false) →
        (list_any p (filter q (range_with_len (a + 1) n)) ≡ true → (y : ℕ) × (y < (a + 1) + n) × (q y ≡ true) ×
        (p y ≡ true)) → (y : ℕ) × (y < a + suc n) × (q y ≡ true) × (p y ≡ true)
    by (inl e) r =
        ⊎_elim (λ t. (a, omega arith, e, t)) (λ t. more (r t))
        (either (p a) _ (subst
        (λ b. list_any p (if b then a ∷ filter q (range_with_len (a + 1) n) else filter q
        (range_with_len (a + 1) n)) ≡ true) e h))
    by (inr e) r =
        more (r (subst (λ b. list_any p
        (if b then a ∷ filter q (range_with_len (a + 1) n) else filter q (range_with_len (a + 1) n)) ≡ true) e h))

finds : (p : Set) (a n k : ℕ) → a ≤ k → k < a + n → p k ≡ true → is_none (find p (range_with_len a n)) ≡ false
finds p a zero k l m h = absurd (omega arith)
finds p a (suc n) k l m h = by (tells (p a)) (eqb_tells a k) (finds p (a + 1) n k)
  where
    by : (p a ≡ true) ⊎ (p a ≡ false) → ((nat_eq a k ≡ true) × (a ≡ k)) ⊎ ((nat_eq a k ≡ false) × (a ≢ k)) →
        (a + 1 ≤ k → k < (a + 1) + n → p k ≡ true → is_none (find p (range_with_len (a + 1) n)) ≡ false) →
        is_none (find p (range_with_len a (suc n))) ≡ false
    by (inl e) s r = ap (λ b. is_none (if b then Some a else find p (range_with_len (a + 1) n))) e
    by (inr e) (inl s) r = absurd (clash h (subst (λ w. p w ≡ false) s.1 e))
    by (inr e) (inr s) r =
        let d = s.1 in
        ap (λ b. is_none (if b then Some a else find p (range_with_len (a + 1) n))) e ∙ r (omega arith) (omega arith) h

module _ (g : Problem) where
  number : Option ℕ → ℕ
  number (Some k) = k
  number None = colour_count

  number_is : (o : Option ℕ) (k : ℕ) → has_colour o k ≡ true → number o ≡ k
  unfolding number
  number_is (Some c) k h = same_node c k h
  number_is None k h = cc

  none_has : (o : Option ℕ) (k : ℕ) → o ≡ None → has_colour o k ≡ false
  none_has o k e = ap (λ w. has_colour w k) e

  -- a class that was low when it was taken out finds a colour
  finds_colour : (s : RoundState) (x : ℕ) (steps : List Step) (c : Colouring) → Holds g s → can g s (Simplify x) ≡ true →
      AreTaken g (after g s (Simplify x)) steps → ((d : ℕ) → is_stacked s d ≡ true → c.colour d ≡ None) →
      is_none (find (is_free g (after_all g (after g s (Simplify x)) steps) c x) (range_with_len 0 colour_count)) ≡
      false
  finds_colour s x steps c d can_x t uncoloured =
      let found = free_colour (neighbours g.graph.nodes s.remaining s.pairs x)
      (λ r. number (c.colour (end.alias r))) g.graph.nodes colour_count few in
      let l = found.1 in
      finds (is_free g end c x) 0 colour_count found.0 (omega arith) (omega arith) (free found.0 found.2)
    where
      s1 : RoundState
      s1 = after g s (Simplify x)

      end : RoundState
      end = after_all g (after g s (Simplify x)) steps

      parts : (remains g s x ≡ true) × (low g s x ≡ true)
      parts = both (remains g s x) (low g s x) (both (remains g s x && low g s x) _ can_x).0

      few : degree g.graph.nodes s.remaining s.pairs x < colour_count
      few = ltb-true _ colour_count (both (not (is_register x)) _ parts.1).1

      then_holds : Holds g s1
      then_holds = holds_after g s (Simplify x) d can_x

      out : s1.remaining x ≡ false
      out = never (λ h. (was_in x x s.remaining h).0 refl)

      end_holds : Holds g end
      end_holds = holds_all g s1 steps then_holds t

      member : (y : ℕ) → (end.alias y == x) ≡ true → s.alias y ≡ x
      member y h = none_joins g s1 steps x y then_holds.sound t out (same_node (end.alias y) x h)

      same_end : (z : ℕ) → end.alias z ≡ end.alias (s.alias z)
      same_end z = same_to_end g s1 steps z (s.alias z) (sym (d.classes.alias_is_own z))

      taken : (j y z : ℕ) →
          ((r : ℕ) → r < g.graph.nodes → neighbours g.graph.nodes s.remaining s.pairs x r ≡ true →
          number (c.colour (end.alias r)) ≢ j) → y < g.graph.nodes → z < g.graph.nodes → s.alias y ≡ x →
          g.graph.pairs y z ≡ true → has_colour (c.colour (end.alias z)) j ≡ true → ⊥
      taken j y z none ly lz e p h =
          let r = s.alias z in
          let pair : s.pairs x r ≡ true = subst (λ w. s.pairs w r ≡ true) e (d.keeps y z ly lz p) in
          let h' : has_colour (c.colour (end.alias r)) j ≡ true = subst (λ w. has_colour (c.colour w) j ≡ true)
          (same_end z) h in
          ⊎_elim (λ i. none r (d.classes.alias_is_node z lz) (and_true i pair)
          (number_is (c.colour (end.alias r)) j h'))
          (λ i. let own : end.alias r ≡ r = end_holds.classes.stacked_is_own r
          (stacked_to_end g s1 steps r (or_right (x == r) _ i)) in
          clash h' (none_has (c.colour (end.alias r)) j (ap c.colour own ∙ uncoloured r i)))
          (d.classes.alias_is_placed z lz)

      free : (j : ℕ) → ((r : ℕ) → r < g.graph.nodes → neighbours g.graph.nodes s.remaining s.pairs x r ≡ true →
          number (c.colour (end.alias r)) ≢ j) → is_free g end c x j ≡ true
      free j none =
          from_false (never (λ h. let a = any_is
          (λ y. some (λ z. g.graph.pairs y z && has_colour (c.colour (end.alias z)) j) g.graph.nodes)
          (λ y. end.alias y == x) 0 g.graph.nodes h in let y = a.0 in let ly = a.1 in
          let b = (some_is (λ z. g.graph.pairs y z && has_colour (c.colour (end.alias z)) j) g.graph.nodes).0 a.3 in
          let q = both (g.graph.pairs y b.0) (has_colour (c.colour (end.alias b.0)) j) b.2 in
          taken j y b.0 none (omega arith) b.1 (member y a.2) q.0 q.1))

  -- from this state's stack on, with what isn't on it coloured at will, nothing is spilled
  record AllFind (end s : RoundState) : Type 0 where
    find_all : (c : Colouring) → c.spilled ≡ [] → ((d : ℕ) → is_stacked s d ≡ true → c.colour d ≡ None) →
        (fold (pop g end) c s.stack).spilled ≡ []

  still_find : (s : RoundState) (step : Step) (steps : List Step) → Holds g s → IsTaken g s step → is_spill step ≡ false →
      AreTaken g (after g s step) steps → AllFind (after_all g (after g s step) steps) s →
      AllFind (after_all g (after g s step) steps) (after g s step)
  still_find s (Spill x) steps d t e t' f = cc
  still_find s (Same j) steps d t _ t' f = record { find_all = f.find_all }
  still_find s (Constrain j) steps d t _ t' f = record { find_all = f.find_all }
  still_find s (Coalesce j kept gone b) steps d t _ t' f = record { find_all = f.find_all }
  still_find s (Freeze x) steps d t _ t' f = record { find_all = f.find_all }
  still_find s (Simplify x) steps d t _ t' f =
      record {
        find_all = λ c e uncoloured. f.find_all (pop g end c x) (spills_no c e uncoloured)
            (λ y h. others c y h (uncoloured y (or_right (x == y) _ h)));
      }
    where
      end : RoundState
      end = after_all g (after g s (Simplify x)) steps

      first : Colouring → Option ℕ
      first c = find (is_free g end c x) (range_with_len 0 colour_count)

      spills_no : (c : Colouring) → c.spilled ≡ [] →
          ((y : ℕ) → is_stacked (after g s (Simplify x)) y ≡ true → c.colour y ≡ None) → (pop g end c x).spilled ≡ []
      spills_no c e uncoloured =
          ap (λ t. if t then c.spilled ++ x ∷ [] else c.spilled)
          (finds_colour s x steps c d t.possible t' (λ y h. uncoloured y (or_right (x == y) _ h))) ∙ e

      others : (c : Colouring) (y : ℕ) → is_stacked s y ≡ true → c.colour y ≡ None → (pop g end c x).colour y ≡ None
      others c y h e =
          let r = both (nat_lt x g.graph.nodes) (s.remaining x)
          (both (nat_lt x g.graph.nodes && s.remaining x) _
          (both (remains g s x) (low g s x) (both (remains g s x && low g s x) _ t.possible).0).0).0 in
          ap (λ t. if t then first c else c.colour y)
          (never (λ q. clash r.1
          (subst (λ w. s.remaining w ≡ false) (same_node y x q) (d.classes.stacked_is_gone y h)))) ∙ e

  all_find : (s : RoundState) (steps : List Step) → Holds g s → AreTaken g s steps → list_any is_spill steps ≡ false →
      AllFind (after_all g s steps) s → AllFind (after_all g s steps) (after_all g s steps)
  all_find s [] d t n f = f
  all_find s (step ∷ steps) d t n f =
      let no_such = neither (is_spill step) _ n in
      all_find (after g s step) steps (holds_after g s step d t.0.possible) t.1 no_such.1
      (still_find s step steps d t.0 no_such.0 t.1 f)

pub colourable_never_spills : ColourableNeverSpills
colourable_never_spills g round graph nodes colourable r =
    record { steps = no_spills; spilled = r.spilled ∙ all.find_all precoloured refl at_start }
  where
    first_holds : Holds g (start g)
    first_holds = holds_at_start g graph nodes

    no_spills : list_any is_spill round.steps ≡ false
    no_spills = none_spilled g (start g) round.steps first_holds.sound colourable r.steps

    end : RoundState
    end = after_all g (start g) round.steps

    all : AllFind g end end
    all = all_find g (start g) round.steps first_holds r.steps no_spills (record { find_all = λ c e h. e })

    at_start : (d : ℕ) → is_stacked end d ≡ true → precoloured.colour d ≡ None
    at_start d h =
        ap (λ t. if t then Some d else None)
        ((holds_all g (start g) round.steps first_holds r.steps).classes.stacked_is_temporary d h)
