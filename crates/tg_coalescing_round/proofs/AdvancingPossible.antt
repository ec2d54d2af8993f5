-- Which steps are possible where the work is in order, by its worklists.
use Rattle.std.proofs.Common.{◌≡◌, ℕ, ◌<◌, Bool, true, false, not, ◌&&◌, List, [], length, refl, sym, ap, subst, ◌∙◌, arith}
use Rattle.std.specs.Prelude.{◌==◌, nat_lt, IsFalse}
use Rattle.tg_irc_definition.specs.declared.steps.Step.TheVariants.{Simplify, Freeze}
use Rattle.tg_irc_definition.specs.declared.moves.Move.{Move}
use Rattle.tg_irc_definition.specs.States.{Problem, RoundState, problem, remains, is_move_related, low}
use Rattle.tg_irc_definition.specs.States as states
use Rattle.tg_irc_definition.specs.Steps.{can, can_move}
use Rattle.tg_irc_definition.specs.laws.Degrees.{degree_of}
use Rattle.tg_irc_definition.proofs.Deciding.{clash, both, and_true, never, from_false, or_false, same_node}
use Rattle.tg_graph.specs.declared.worklists.Worklist.{Worklist}
use Rattle.tg_graph.specs.declared.worklists.Worklist.TheVariants as worklists
use Rattle.tg_graph.specs.Interference.{is_among, is_register}
use Rattle.tg_graph.specs.Lists.{nodes_in, number}
use Rattle.tg_coalescing_round.specs.glue.Tables.{state_at, is_waiting, is_unsettled, is_related}
use Rattle.tg_coalescing_round.specs.glue.Works.{Work, degree_at, is_left, is_open, list_of}
use Rattle.tg_coalescing_round.specs.glue.Standing.{shown, state_of, HasDegrees, IsOrderly}
use Rattle.tg_coalescing_round.proofs.AdvancingListing.{by_tests}
use Rattle.tg_coalescing_round.proofs.AdvancingOrder.{HasMoves, open_remains, remains_open, related_told, unsettled_told, unsettled_below}

pub is_simplify : (b c : Bool) → (1 == number (by_tests b c)) ≡ (b && not c)
is_simplify true true = refl
is_simplify true false = refl
is_simplify false c = refl

pub is_freeze : (b c : Bool) → (2 == number (by_tests b c)) ≡ (b && c)
is_freeze true true = refl
is_freeze true false = refl
is_freeze false c = refl

-- a step at a temporary that remains is possible as its list says
module _ (w : Work) (h : HasMoves w) (degrees : HasDegrees w) (x : ℕ) (l : x < w.graph.nodes) (o : is_open w x ≡ true)
  where
    remains_here : remains (shown w) (state_of w) x ≡ true
    remains_here = open_remains w x l o

    pub low_told : low (shown w) (state_of w) x ≡ nat_lt (degree_at w x) 25
    low_told =
        ap (λ b. b && nat_lt (degree_of (shown w) (state_of w) x) 25) (both (not (is_register x)) (is_left w.lists x) o).0
        ∙ ap (λ n. nat_lt n 25) (sym (degrees.exact x remains_here))

    pub simplify_told : can (shown w) (state_of w) (Simplify x) ≡ (1 == number (list_of w x))
    simplify_told =
        ap (λ b. b && low (shown w) (state_of w) x && not (is_move_related (shown w) (state_of w) x)) remains_here
        ∙ (ap (λ b. b && not (is_move_related (shown w) (state_of w) x)) low_told
        ∙ (ap (λ b. nat_lt (degree_at w x) 25 && not b) (sym (related_told w h x l))
        ∙ sym (is_simplify (nat_lt (degree_at w x) 25) (is_related w.moves x))))

    pub freeze_told : can (shown w) (state_of w) (Freeze x) ≡ (2 == number (list_of w x))
    freeze_told =
        ap (λ b. b && low (shown w) (state_of w) x && is_move_related (shown w) (state_of w) x) remains_here
        ∙ (ap (λ b. b && is_move_related (shown w) (state_of w) x) low_told
        ∙ (ap (λ b. nat_lt (degree_at w x) 25 && b) (sym (related_told w h x l))
        ∙ sym (is_freeze (nat_lt (degree_at w x) 25) (is_related w.moves x))))

-- a list for temporaries that remain
pub record IsForOpen (list : Worklist) : Type 0 where
  pub not_fixed : (0 == number list) ≡ false
  pub not_stacked : (4 == number list) ≡ false
  pub not_merged : (5 == number list) ≡ false

pub for_simplify : IsForOpen worklists.Simplify
for_simplify = record { not_fixed = refl; not_stacked = refl; not_merged = refl }

pub for_freeze : IsForOpen worklists.Freeze
for_freeze = record { not_fixed = refl; not_stacked = refl; not_merged = refl }

pub for_spill : IsForOpen worklists.Spill
for_spill = record { not_fixed = refl; not_stacked = refl; not_merged = refl }

module _ (w : Work) (h : IsOrderly w) where
  pub moves_of : HasMoves w
  moves_of = record { sized = h.sized; grouping = h.grouping; table = h.table; ends = h.ends }

  pub record IsIn (x : ℕ) (list : Worklist) : Type 0 where
    pub node : x < w.graph.nodes
    pub remains : is_open w x ≡ true
    pub place : (number list == number (list_of w x)) ≡ true

  pub in_list : (x : ℕ) (list : Worklist) → IsForOpen list → is_among x (nodes_in w.lists list) ≡ true → IsIn x list
  in_list x list k e = record {
    node = l;
    remains = o;
    place = sym (h.placed.listed x l o list) ∙ e;
  }
    where
      l : x < w.graph.nodes
      l = let below = h.placed.partition.nodes list x e in omega (arith, below, h.sized.lists)

      one : (m : Worklist) × ((n : Worklist) → is_among x (nodes_in w.lists n) ≡ (number n == number m))
      one = h.placed.partition.one x (h.placed.partition.nodes list x e)

      same : number list ≡ number one.0
      same = same_node (number list) (number one.0) (sym (one.1 list) ∙ e)

      out : (n : Worklist) → (number n == number list) ≡ false → is_among x (nodes_in w.lists n) ≡ false
      out n f = one.1 n ∙ (ap (λ k. number n == k) (sym same) ∙ f)

      o : is_open w x ≡ true
      o =
          and_true (from_false (sym (h.placed.fixed x l) ∙ out worklists.Fixed k.not_fixed))
          (from_false (or_false (out worklists.Stacked k.not_stacked) (out worklists.Merged k.not_merged)))

  -- where a list is empty no step of its kind is possible
  none_listed : (xs : List ℕ) (x : ℕ) → xs ≡ [] → is_among x xs ≡ true → ⊥
  none_listed xs x e t = clash t (ap (is_among x) e)

  pub no_simplify : w.lists.simplify ≡ [] → (x : ℕ) → IsFalse (can (shown w) (state_of w) (Simplify x))
  no_simplify e x =
      never (λ c.
      let r = remains_open w x (both (remains (shown w) (state_of w) x) _ (both _ _ c).0).0 in
      none_listed w.lists.simplify x e
      (h.placed.listed x r.0 r.1 worklists.Simplify
      ∙ (sym (simplify_told w moves_of h.degrees x r.0 r.1) ∙ c)))

  pub no_freeze : w.lists.freeze ≡ [] → (x : ℕ) → IsFalse (can (shown w) (state_of w) (Freeze x))
  no_freeze e x =
      never (λ c.
      let r = remains_open w x (both (remains (shown w) (state_of w) x) _ (both _ _ c).0).0 in
      none_listed w.lists.freeze x e
      (h.placed.listed x r.0 r.1 worklists.Freeze
      ∙ (sym (freeze_told w moves_of h.degrees x r.0 r.1) ∙ c)))

  -- where none is to be tried no move can be settled
  pub waits : (i : ℕ) → w.moves.ready ≡ [] → i < length w.moves.moves → is_unsettled w.moves i ≡ true →
      is_waiting (state_at w.moves i) ≡ true
  waits i e l u =
      by (is_unsettled w.moves i) (is_waiting (state_at w.moves i)) u (sym (h.ready.exact i l) ∙ ap (is_among i) e)
    where
      by : (a b : Bool) → a ≡ true → (a && not b) ≡ false → b ≡ true
      by true true p q = refl
      by true false p q = sym q
      by false b p q = cc

  pub no_move : w.moves.ready ≡ [] → (i : ℕ) → IsFalse (can_move (shown w) (state_of w) i)
  no_move e i =
      never (λ c.
      let u = (both (states.is_unsettled (shown w) (state_of w) i) _ c).0 in
      let l = unsettled_below w moves_of i u in
      clash c (h.ready.waiting i l (waits i e l (sym (unsettled_told w moves_of i l) ∙ u))))

-- What depends on the nodes and the moves alone holds of a problem that has the same.
module _ (g : Problem) (w : Work) (nodes : w.graph.nodes ≡ g.graph.nodes) (moves : w.moves.moves ≡ g.moves) where
  abbrev pub with_parts : ℕ → List Move → Problem
  with_parts n ms = problem (record { nodes = n; pairs = g.graph.pairs }) ms g.facts g.rule

  pub at_problem : (P : ℕ → List Move → Type 0) → P w.graph.nodes w.moves.moves → P g.graph.nodes g.moves
  at_problem P p = subst (λ n. P n g.moves) nodes (subst (λ ms. P w.graph.nodes ms) moves p)
