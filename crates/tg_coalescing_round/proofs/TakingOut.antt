-- How a temporary is taken out, by its neighbours so far.
use Rattle.std.proofs.Common.{◌≡◌, ℕ, ◌<◌, true, not, List, [], ◌∷◌, ◌++◌, length, get_or, take, refl, sym, ap, ◌∙◌, subst, arith}
use Rattle.std.specs.Prelude.{fold, nat_eq}
use Rattle.std.specs.List.{IsDistinct}
use Rattle.std.proofs.lemmas.Bool.{and_from, and_parts}
use Rattle.tg_graph.specs.declared.worklists.Worklist.TheVariants.{Stacked}
use Rattle.tg_graph.specs.Interference.{is_among, is_register, neighbours}
use Rattle.tg_graph.specs.Lists.{moved}
use Rattle.tg_coalescing_round.specs.glue.Works.{Work, degree_at, is_left, is_open}
use Rattle.tg_coalescing_round.specs.mirror.Steps.{CanLose, bereft}
use Rattle.tg_coalescing_round.proofs.AdvancingMembers.{among_at}
use Rattle.tg_coalescing_round.proofs.Folds.{none_before}
use Rattle.tg_coalescing_round.proofs.Left.{left_then}
use Rattle.tg_coalescing_round.proofs.Stepping.{all_bereft_degree, all_bereft_graph, all_bereft_left}

-- before its neighbours have one less
abbrev pub out : ℕ → Work → Work
out x w = record w { lists = moved w.lists x Stacked; stack = w.stack ++ x ∷ [] }

module _ (x : ℕ) (w : Work) where
  abbrev around : List ℕ
  around = neighbours w.graph x

  -- after so many have
  abbrev pub out_to : ℕ → Work
  out_to k = fold bereft (out x w) (take k around)

  out_graph : (k : ℕ) → (out_to k).graph ≡ w.graph
  out_graph k = all_bereft_graph (out x w) (take k around)

  open_before : (k z : ℕ) → is_open (out_to k) z ≡ true → is_open w z ≡ true
  open_before k z o =
      let parts = and_parts (not (is_register z)) (is_left (out_to k).lists z) o in
      and_from (not (is_register z)) (is_left w.lists z) parts.0
      (left_then w.lists x z Stacked refl (sym (all_bereft_left (out x w) (take k around) z) ∙ parts.1))

  -- the next one has a neighbour to lose
  out_counted : (k z : ℕ) → CanLose w x → IsDistinct nat_eq around → k < length around → z ≡ get_or around k 0 →
      is_open (out_to k) z ≡ true →
      0 < degree_at (out_to k) z
  out_counted k z c d l e o =
      let among : is_among z around ≡ true = ap (λ y. is_among y around) e ∙ among_at around k 0 l in
      let new = ap (λ y. is_among y (take k around)) e ∙ none_before around k 0 d l in
      let same : degree_at (out_to k) z ≡ degree_at w z = all_bereft_degree (out x w) (take k around) z new in
      omega (arith, same, c z among (open_before k z o))

  -- of any work that is as it is then
  module _ (k : ℕ) (v : Work) (so_far : v ≡ out_to k) where
    pub graph_there : v.graph ≡ w.graph
    graph_there = ap (λ (u : Work). u.graph) so_far ∙ out_graph k

    pub list_there : (ys : List ℕ) → ys ≡ neighbours v.graph x → ys ≡ around
    list_there ys e = e ∙ ap (λ g. neighbours g x) graph_there

    pub counted_there : (z : ℕ) → CanLose w x → IsDistinct nat_eq around → k < length around → z ≡ get_or around k 0 →
        is_open v z ≡ true →
        0 < degree_at v z
    counted_there z c d l e =
        subst (λ (u : Work). is_open u z ≡ true → 0 < degree_at u z) (sym so_far) (out_counted k z c d l e)
