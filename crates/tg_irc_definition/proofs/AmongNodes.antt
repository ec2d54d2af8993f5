-- What a round answers are nodes, and what it spills are temporaries.
use Rattle.std.proofs.Common.{◌≡◌, ℕ, ◌+◌, ◌<◌, ◌&&◌, true, false, not, sym, ap, subst, ◌∙◌, arith, ⊎_elim}
use Rattle.std.proofs.Common.{Bool, List, [], ◌∷◌, ◌++◌, length, map, zero, suc}
use Rattle.std.specs.Prelude.{All, nat_lt, ◌==◌, if◌then◌else◌, find, fold, is_none}
use Rattle.std.specs.List.{AllByRecursion, range_with_len}
use Rattle.std.proofs.lemmas.Bool.{ltb-true, ltb-false}
use Rattle.std.proofs.lemmas.List.Elements.{All-nil, All-cons, All-from_recursion}
use Rattle.std.proofs.lemmas.List.FromFn.{length-map-range_with_len}
use Rattle.tg_irc_definition.specs.declared.steps.Step.{Step}
use Rattle.tg_irc_definition.specs.declared.steps.Step.TheVariants.{Simplify, Same, Constrain, Coalesce, Freeze, Spill}
use Rattle.tg_irc_definition.specs.Graphs.{colour_count, is_register}
use Rattle.tg_irc_definition.specs.States.{Problem, RoundState, start, low, remains, move_at}
use Rattle.tg_irc_definition.specs.Steps.{can, after, after_all, AreTaken}
use Rattle.tg_irc_definition.specs.Selection.{Colouring, precoloured, is_free, pop, select}
use Rattle.tg_irc_definition.specs.Rounds.{end}
use Rattle.tg_irc_definition.specs.laws.Laws.{AreNodes, IsTemporary, RoundsAreOfNodes}
use Rattle.tg_irc_definition.proofs.Deciding.{both, not_true}
use Rattle.tg_irc_definition.proofs.Within.{Merged, merged_of}

pub all_pushed : (P : ℕ → Type 0) (xs : List ℕ) (x : ℕ) → AllByRecursion P xs → P x → AllByRecursion P (xs ++ x ∷ [])
all_pushed P [] x h k = (k, tt)
all_pushed P (y ∷ xs) x h k = (h.0, all_pushed P xs x h.1 k)

-- each class stands under a node, and what was taken out are temporaries
record IsAmong (g : Problem) (s : RoundState) : Type 0 where
  aliases : (x : ℕ) → x < g.graph.nodes → s.alias x < g.graph.nodes
  stack : AllByRecursion (IsTemporary g) s.stack

module _ (g : Problem) where
  temporary : (s : RoundState) (x : ℕ) → remains g s x ≡ true → IsTemporary g x
  temporary s x r =
      let p = both (nat_lt x g.graph.nodes && s.remaining x) (not (is_register x)) r in
      (ltb-false x colour_count (not_true p.1), ltb-true x g.graph.nodes (both (nat_lt x g.graph.nodes) (s.remaining x) p.0).0)

  module _ (nodes : AreNodes g) where
    among_at_start : IsAmong g (start g)
    among_at_start = record { aliases = λ x l. l; stack = tt }

    -- what a merge keeps is one of the move's ends
    kept_is_node : (s : RoundState) (j kept gone : ℕ) (b : Bool) → IsAmong g s → can g s (Coalesce j kept gone b) ≡ true → kept < g.graph.nodes
    kept_is_node s j kept gone b h c =
        ⊎_elim (λ p. subst (λ w. w < g.graph.nodes) p.0 (h.aliases _ ends.0))
        (λ p. subst (λ w. w < g.graph.nodes) p.1 (h.aliases _ ends.1))
        merges.ends
      where
        merges : Merged g s j kept gone
        merges = merged_of g s j kept gone b c

        ends : ((move_at g s j).to < g.graph.nodes) × ((move_at g s j).from < g.graph.nodes)
        ends = nodes j (record { to = 0; from = 0 }) merges.inside

    among_after : (s : RoundState) (step : Step) → IsAmong g s → can g s step ≡ true → IsAmong g (after g s step)
    among_after s (Simplify x) h c = record {
      aliases = h.aliases;
      stack = (temporary s x (both (remains g s x) (low g s x) (both (remains g s x && low g s x) _ c).0).0, h.stack);
    }
    among_after s (Spill x) h c = record { aliases = h.aliases; stack = (temporary s x (both (remains g s x) _ c).0, h.stack) }
    among_after s (Coalesce j kept gone b) h c = record {
      aliases = λ x l. either_below (s.alias x == gone) (kept_is_node s j kept gone b h c) (h.aliases x l);
      stack = h.stack;
    }
      where
        either_below : (t : Bool) {n k m : ℕ} → k < n → m < n → (if t then k else m) < n
        either_below true p q = p
        either_below false p q = q
    among_after s (Same j) h c = record { aliases = h.aliases; stack = h.stack }
    among_after s (Constrain j) h c = record { aliases = h.aliases; stack = h.stack }
    among_after s (Freeze x) h c = record { aliases = h.aliases; stack = h.stack }

    among_all : (s : RoundState) (steps : List Step) → IsAmong g s → AreTaken g s steps → IsAmong g (after_all g s steps)
    among_all s [] h t = h
    among_all s (step ∷ steps) h t = among_all (after g s step) steps (among_after s step h t.0.possible) t.1

  one_more : (P : ℕ → Type 0) (b : Bool) (xs : List ℕ) (x : ℕ) → AllByRecursion P xs → P x → AllByRecursion P (if b then xs ++ x ∷ [] else xs)
  one_more P true xs x h k = all_pushed P xs x h k
  one_more P false xs x h k = h

  -- what is spilled was taken out
  pub spilled_among : (s : RoundState) (P : ℕ → Type 0) (xs : List ℕ) (c : Colouring) → AllByRecursion P xs →
      AllByRecursion P c.spilled → AllByRecursion P (fold (pop g s) c xs).spilled
  spilled_among s P [] c h k = k
  spilled_among s P (x ∷ xs) c h k =
      spilled_among s P xs (pop g s c x) h.1
      (one_more P (is_none (find (is_free g s c x) (range_with_len 0 colour_count))) c.spilled x k h.0)

all_listed : (P : ℕ → Type 0) (f : ℕ → ℕ) (a n : ℕ) → ((x : ℕ) → x < a + n → P (f x)) → All P (map f (range_with_len a n))
all_listed P f a zero h = All-nil P
all_listed P f a (suc n) h =
    All-cons P (f a) (map f (range_with_len (a + 1) n)) (h a (omega arith)) (all_listed P f (a + 1) n (λ x l. h x (omega arith)))

pub rounds_are_of_nodes : RoundsAreOfNodes
rounds_are_of_nodes g round nodes r = record {
  each_alias = ap length r.aliases ∙ length-map-range_with_len (end g round).alias 0 g.graph.nodes;
  each_colour = ap length r.colours ∙ length-map-range_with_len (λ x. (select g (end g round)).colour ((end g round).alias x)) 0 g.graph.nodes;
  aliases = subst (All (λ x. x < g.graph.nodes)) (sym r.aliases) (all_listed (λ x. x < g.graph.nodes) (end g round).alias
      0 g.graph.nodes (λ x l. among.aliases x (omega arith)));
  spilled = subst (All (IsTemporary g)) (sym r.spilled)
      (All-from_recursion (IsTemporary g) _ (spilled_among g (end g round) (IsTemporary g) (end g round).stack precoloured among.stack tt));
}
  where
    among : IsAmong g (end g round)
    among = among_all g nodes (start g) round.steps (among_at_start g nodes) r.steps
