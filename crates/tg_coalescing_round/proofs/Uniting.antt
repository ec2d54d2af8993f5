-- How two classes are merged, by the neighbours passed on so far.
use Rattle.std.proofs.Common.{◌≡◌, ◌≢◌, ℕ, ◌+◌, ◌<◌, ◌≤◌, Bool, true, false, not, List, length, get_or, take, refl, sym, ap, ◌∙◌, subst, arith}
use Rattle.std.specs.Prelude.{fold}
use Rattle.std.proofs.lemmas.Bool.{and_from, and_parts}
use Rattle.std.proofs.lemmas.List.{length-take}
use Rattle.tg_graph.specs.declared.worklists.Worklist.TheVariants.{Merged}
use Rattle.tg_graph.specs.Interference.{IsGraph, colours, interferes, is_among, is_register, most_nodes, neighbours}
use Rattle.tg_graph.specs.Lists.{moved}
use Rattle.tg_graph.proofs.Joining.{few_neighbours}
use Rattle.tg_coalescing_round.specs.glue.Groupings as groupings
use Rattle.tg_coalescing_round.specs.glue.Tables as tables
use Rattle.tg_coalescing_round.specs.glue.Tables.{Table, woken}
use Rattle.tg_coalescing_round.specs.glue.Works.{Work, awake, degree_at, is_left, is_open}
use Rattle.tg_coalescing_round.specs.mirror.Steps.{CanLose, passed_on}
use Rattle.tg_coalescing_round.proofs.AdvancingMembers.{among_at}
use Rattle.tg_coalescing_round.proofs.Folds.{among_take, none_before}
use Rattle.tg_coalescing_round.proofs.Left.{left_then}
use Rattle.tg_coalescing_round.proofs.Edges.{all_passed_degree, all_passed_kept, all_passed_left}
use Rattle.tg_coalescing_round.proofs.Edges.{all_passed_neighbours, all_passed_nodes, interferes_either_way, interferes_not_itself}

-- before neighbours are passed on
abbrev pub as_one : (kept gone : ℕ) → Work → Work
as_one kept gone w = record w {
  lists = moved w.lists gone Merged;
  classes = groupings.joined kept gone w.classes;
  moves = tables.joined kept gone w.moves;
}

-- after so many are
abbrev pub one_to : (kept gone : ℕ) → Work → ℕ → Work
one_to kept gone w k = fold (passed_on kept) (as_one kept gone w) (take k (neighbours w.graph gone))

-- what merges ask of the graph and the two nodes
pub record CanMerge (kept gone : ℕ) (w : Work) : Type 0 where
  pub graph : IsGraph w.graph
  pub few : w.graph.nodes ≤ most_nodes
  pub node : gone < w.graph.nodes
  pub temporary : colours ≤ gone
  pub apart : interferes w.graph kept gone ≡ false
  pub differ : kept ≢ gone
  pub counted : CanLose w gone
  pub room : degree_at w kept ≤ w.graph.nodes

module _ (kept gone : ℕ) (w : Work) (c : CanMerge kept gone w) where
  abbrev around : List ℕ
  around = neighbours w.graph gone

  abbrev one : Work
  one = as_one kept gone w

  abbrev upto : ℕ → Work
  upto k = one_to kept gone w k

  one_nodes : (k : ℕ) → (upto k).graph.nodes ≡ w.graph.nodes
  one_nodes k = all_passed_nodes kept one (take k around)

  gone_not_around : is_among gone around ≡ false
  gone_not_around = c.graph.exact gone gone c.temporary ∙ interferes_not_itself w.graph gone

  kept_not_around : is_among kept around ≡ false
  kept_not_around =
      c.graph.exact gone kept c.temporary ∙ (interferes_either_way w.graph gone kept ∙ c.apart)

  one_neighbours : (k : ℕ) → neighbours (upto k).graph gone ≡ around
  one_neighbours k =
      all_passed_neighbours kept one (take k around) gone c.temporary (λ e. c.differ (sym e))
      (among_take gone around k gone_not_around)

  -- none of them is the kept node
  pub others_differ : (k z : ℕ) → k < length around → z ≡ get_or around k 0 → kept ≢ z
  others_differ k z l e p =
      let among : is_among kept around ≡ true = ap (λ y. is_among y around) (p ∙ e) ∙ among_at around k 0 l in
      both (is_among kept around) among kept_not_around
    where
      both : (b : Bool) → b ≡ true → b ≡ false → ⊥
      both b q r = cc

  open_before : (k z : ℕ) → is_open (upto k) z ≡ true → is_open w z ≡ true
  open_before k z o =
      let parts = and_parts (not (is_register z)) (is_left (upto k).lists z) o in
      and_from (not (is_register z)) (is_left w.lists z) parts.0
      (left_then w.lists gone z Merged refl (sym (all_passed_left kept one (take k around) z) ∙ parts.1))

  -- the next one has a neighbour to lose, and the kept node has room for it
  one_counted : (k z : ℕ) → k < length around → z ≡ get_or around k 0 → is_open (upto k) z ≡ true →
      0 < degree_at (upto k) z
  one_counted k z l e o =
      let among : is_among z around ≡ true = ap (λ y. is_among y around) e ∙ among_at around k 0 l in
      let new = ap (λ y. is_among y (take k around)) e ∙ none_before around k 0 (c.graph.distinct gone) l in
      let same : degree_at (upto k) z ≡ degree_at w z =
      all_passed_degree kept one (take k around) z (λ p. others_differ k z l e (sym p)) new in
      omega (arith, same, c.counted z among (open_before k z o))

  one_room : (k : ℕ) → k < length around → degree_at (upto k) kept + 1 < 4294967296
  one_room k l =
      omega (
        arith,
        all_passed_kept kept one (take k around) (among_take kept around k kept_not_around),
        length-take k around,
        few_neighbours w.graph gone c.graph c.temporary c.node,
        c.room,
        c.few,
      )

  -- of any work that is as it is then
  module _ (k : ℕ) (v : Work) (so_far : v ≡ upto k) where
    pub nodes_there : v.graph.nodes ≡ w.graph.nodes
    nodes_there = ap (λ (u : Work). u.graph.nodes) so_far ∙ one_nodes k

    pub list_there : (ys : List ℕ) → ys ≡ neighbours v.graph gone → ys ≡ around
    list_there ys e = e ∙ (ap (λ (u : Work). neighbours u.graph gone) so_far ∙ one_neighbours k)

    pub counted_there : (z : ℕ) → k < length around → z ≡ get_or around k 0 → is_open v z ≡ true → 0 < degree_at v z
    counted_there z l e =
        subst (λ (u : Work). is_open u z ≡ true → 0 < degree_at u z) (sym so_far) (one_counted k z l e)

    pub room_there : k < length around → degree_at v kept + 1 < 4294967296
    room_there l = subst (λ (u : Work). degree_at u kept + 1 < 4294967296) (sym so_far) (one_room k l)

-- moves near a node are tried again in place
pub awake_as : (u v : Work) (t : Table) (z : ℕ) → u ≡ v → t ≡ woken z u.moves → record u { moves = t } ≡ awake z v
awake_as u v t z e f = ap (λ s. record u { moves = s }) f ∙ ap (λ (s : Work). awake z s) e
