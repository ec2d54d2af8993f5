-- Nodes that interfere are of two classes, and where nothing is spilled each node has a colour.
use Rattle.std.proofs.Common.{◌≡◌, ℕ, Bool, true, false, ◌⊎◌, inl, inr, refl, sym, ap, subst, ◌∙◌}
use Rattle.std.proofs.Common.{⊎_elim, List, [], ◌∷◌, ◌++◌, Option, Some, None}
use Rattle.std.specs.Prelude.{◌==◌, if◌then◌else◌, find, fold, is_none}
use Rattle.std.specs.List.{list_any, range_with_len}
use Rattle.std.proofs.lemmas.Bool.{lt-ltb}
use Rattle.tg_irc_definition.specs.Graphs.{colour_count, is_register, some}
use Rattle.tg_irc_definition.specs.States.{Problem, RoundState, remains}
use Rattle.tg_irc_definition.specs.Selection.{Colouring, precoloured, is_free, pop, select}
use Rattle.tg_irc_definition.specs.Rounds.{end}
use Rattle.tg_irc_definition.specs.laws.Laws.{EachIsColoured, is_stacked}
use Rattle.tg_irc_definition.specs.laws.Classes.{ClassesAreApart}
use Rattle.tg_irc_definition.proofs.Deciding.{clash, and_true, either, neither, tells, not_true, from_false, same_node, same_test, some_is}
use Rattle.tg_irc_definition.proofs.Classes.{Holds, holds_from_start}
use Rattle.tg_irc_definition.proofs.Answering.{answered}
use Rattle.tg_irc_definition.proofs.ProperColouring.{two_classes}
use Rattle.tg_irc_definition.proofs.Within.{class_is}

pub classes_are_apart : ClassesAreApart
classes_are_apart g round graph nodes r x y lx ly p e =
    two_classes g (end g round) (holds_from_start g graph nodes round.steps r.steps) graph.symmetric x y lx ly p
    (sym (class_is g round r x lx) ∙ (e ∙ class_is g round r y ly))

no_more : {A : Type 0} (xs : List A) (x : A) → xs ++ x ∷ [] ≡ [] → ⊥
no_more [] x e = cc
no_more (y ∷ xs) x e = cc

there : (o : Option ℕ) → is_none o ≡ false → (a : ℕ) × (o ≡ Some a)
there (Some a) e = (a, refl)
there None e = cc

module _ (g : Problem) (s : RoundState) where
  abbrev first : Colouring → ℕ → Option ℕ
  first c x = find (is_free g s c x) (range_with_len 0 colour_count)

  -- where nothing is spilled by a pop, nothing was before, and it found a colour
  pops_well : (c : Colouring) (x : ℕ) → (pop g s c x).spilled ≡ [] → (c.spilled ≡ []) × (is_none (first c x) ≡ false)
  pops_well c x = by (is_none (first c x))
    where
      by : (b : Bool) → (if b then c.spilled ++ x ∷ [] else c.spilled) ≡ [] → (c.spilled ≡ []) × (b ≡ false)
      by true e = absurd (no_more c.spilled x e)
      by false e = (e, refl)

  was_empty : (xs : List ℕ) (c : Colouring) → (fold (pop g s) c xs).spilled ≡ [] → c.spilled ≡ []
  was_empty [] c e = e
  was_empty (x ∷ xs) c e = (pops_well c x (was_empty xs (pop g s c x) e)).0

  finds : (x : ℕ) (xs : List ℕ) (c : Colouring) → (fold (pop g s) c (x ∷ xs)).spilled ≡ [] → is_none (first c x) ≡ false
  finds x xs c e = (pops_well c x (was_empty xs (pop g s c x) e)).1

  keeps_colour : (xs : List ℕ) (c : Colouring) (x : ℕ) → (fold (pop g s) c xs).spilled ≡ [] →
      is_none (c.colour x) ≡ false → is_none ((fold (pop g s) c xs).colour x) ≡ false
  keeps_colour [] c x e h = h
  keeps_colour (y ∷ xs) c x e h = keeps_colour xs (pop g s c y) x e (by (x == y))
    where
      by : (b : Bool) → is_none (if b then first c y else c.colour x) ≡ false
      by true = finds y xs c e
      by false = h

  gets_colour : (xs : List ℕ) (c : Colouring) (x : ℕ) → (fold (pop g s) c xs).spilled ≡ [] →
      list_any (λ y. y == x) xs ≡ true → is_none ((fold (pop g s) c xs).colour x) ≡ false
  gets_colour [] c x e h = cc
  gets_colour (y ∷ xs) c x e h =
      ⊎_elim (λ q. keeps_colour xs (pop g s c y) x e (found q)) (gets_colour xs (pop g s c y) x e) (either (y == x) _ h)
    where
      found : (y == x) ≡ true → is_none (if x == y then first c y else c.colour x) ≡ false
      found q =
          subst (λ b. is_none (if b then first c y else c.colour x) ≡ false) (sym (same_test x y (sym (same_node y x q))))
          (finds y xs c e)

pub each_is_coloured : EachIsColoured
each_is_coloured g round graph nodes r nothing x l =
    let c = there _ (coloured (holds.classes.alias_is_placed x l)) in
    (c.0, answered g round r x l ∙ ap Some c.1)
  where
    s : RoundState
    s = end g round

    holds : Holds g (end g round)
    holds = holds_from_start g graph nodes round.steps r.steps

    under : ℕ
    under = (end g round).alias x

    none : (fold (pop g (end g round)) precoloured (end g round).stack).spilled ≡ []
    none = sym r.spilled ∙ nothing

    coloured : ((end g round).remaining ((end g round).alias x) ≡ true) ⊎
        (is_stacked (end g round) ((end g round).alias x) ≡ true) →
        is_none ((select g (end g round)).colour ((end g round).alias x)) ≡ false
    coloured (inr k) = gets_colour g (end g round) (end g round).stack precoloured ((end g round).alias x) none k
    coloured (inl k) = by (tells (is_register ((end g round).alias x)))
      where
        by : (is_register ((end g round).alias x) ≡ true) ⊎ (is_register ((end g round).alias x) ≡ false) →
            is_none ((select g (end g round)).colour ((end g round).alias x)) ≡ false
        by (inl t) =
            keeps_colour g (end g round) (end g round).stack precoloured ((end g round).alias x) none
            (ap (λ b. is_none (if b then Some ((end g round).alias x) else None)) t)
        by (inr f) =
            absurd (clash
            ((some_is (remains g (end g round)) g.graph.nodes).1 (
              (end g round).alias x,
              holds.classes.alias_is_node x l,
              and_true (and_true (lt-ltb _ _ (holds.classes.alias_is_node x l)) k) (from_false f),
            ))
            (neither (some (remains g (end g round)) g.graph.nodes) _ (not_true r.over)).0)
