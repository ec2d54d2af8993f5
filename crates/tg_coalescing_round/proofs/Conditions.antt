-- What a step of orderly work asks for, by the lists from which it is taken.
use Rattle.std.proofs.Common.{◌≡◌, ℕ, ◌+◌, ◌-◌, ◌<◌, ◌≤◌, true, false, not, ◌&&◌, List, [], ◌∷◌, length, Option, Some, None, slice_get, refl, sym, ap}
use Rattle.std.proofs.Common.{◌∙◌, subst, ⊎_elim, arith}
use Rattle.std.specs.Prelude.{filter}
use Rattle.std.specs.List.{range_with_len}
use Rattle.std.specs.Option.{is_some}
use Rattle.std.proofs.lemmas.Bool.{cases_lt, lt-ltb}
use Rattle.std.proofs.lemmas.List.{length-map}
use Rattle.std.proofs.lemmas.List.Sums.{length-filter}
use Rattle.tg_graph.specs.declared.worklists.Worklist.TheVariants as worklists
use Rattle.tg_graph.specs.Interference.{colours, interferes, is_among, is_register, neighbours}
use Rattle.tg_graph.proofs.Joining.{either_way, stays_below}
use Rattle.tg_graph.proofs.Members.{among_within}
use Rattle.tg_irc_definition.proofs.Counting.{count_out}
use Rattle.tg_irc_definition.proofs.Deciding.{and_true, both, clash, not_true}
use Rattle.tg_coalescing_round.specs.glue.Works.{Work, degree_at, is_left, is_open}
use Rattle.tg_irc_definition.specs.Policies.{Rule, candidate_at}
use Rattle.tg_coalescing_round.specs.glue.Advancing.{Advances, Progresses, Spills}
use Rattle.tg_coalescing_round.specs.mirror.Steps.{candidate, candidates, simplified, tried, frozen, spilled}
use Rattle.tg_coalescing_round.specs.glue.Standing.{state_of, is_done, is_empty, IsOrderly}
use Rattle.tg_coalescing_round.proofs.AdvancingFreeze.{freeze_advances}
use Rattle.tg_coalescing_round.proofs.AdvancingSimplify.{simplify_advances}
use Rattle.tg_coalescing_round.proofs.AdvancingSpill.{spill_advances}
use Rattle.tg_coalescing_round.proofs.AdvancingTry.{try_advances}
use Rattle.tg_coalescing_round.proofs.AdvancingMembers.{among_first, count_some}
use Rattle.tg_coalescing_round.proofs.AdvancingOrder.{left_remains, open_remains}
use Rattle.tg_coalescing_round.proofs.AdvancingPossible.{in_list, for_simplify, for_freeze, for_spill}

pub temporary_of : (w : Work) (x : ℕ) → is_open w x ≡ true → colours ≤ x
temporary_of w x o =
    ⊎_elim (λ (k : x < 25). absurd (clash (lt-ltb x 25 k) (not_true (both (not (is_register x)) _ o).0))) (λ (k : 25 ≤ x). k)
    (cases_lt x 25)

-- a list of which the first is none
pub none_first : (xs : List ℕ) → None ≡ slice_get xs 0 → xs ≡ []
none_first [] e = refl
none_first (x ∷ xs) e = cc

module _ (w : Work) (h : IsOrderly w) where
  -- a temporary that remains and has a neighbour that does has a counter above 0
  pub neighbours_counted : (x : ℕ) → x < w.graph.nodes → is_open w x ≡ true → (z : ℕ) →
      is_among z (neighbours w.graph x) ≡ true → is_open w z ≡ true → 0 < degree_at w z
  neighbours_counted x l o z e k =
      let low = temporary_of w x o in
      let joined = sym (h.graph.exact x z low) ∙ e in
      let below = stays_below w.graph x z h.graph low l joined in
      let left = left_remains w x l (both (not (is_register x)) (is_left w.lists x) o).1 in
      let one = count_out (λ y. (state_of w).remaining y && interferes w.graph z y) x w.graph.nodes l
      (and_true left (either_way w.graph z x ∙ joined)) in
      let same = h.degrees.exact z (open_remains w z below k) in
      omega (arith, same, one)

  pub first_simplify : (x : ℕ) → slice_get w.lists.simplify 0 ≡ Some x → (x < w.graph.nodes) × (is_open w x ≡ true)
  first_simplify x e =
      let at = in_list w h x worklists.Simplify for_simplify (among_first w.lists.simplify x e) in (at.node, at.remains)

  pub first_freeze : (x : ℕ) → slice_get w.lists.freeze 0 ≡ Some x → (x < w.graph.nodes) × (is_open w x ≡ true)
  first_freeze x e =
      let at = in_list w h x worklists.Freeze for_freeze (among_first w.lists.freeze x e) in (at.node, at.remains)

  -- where a temporary may be spilled there is a candidate
  some_candidate : (x : ℕ) → slice_get w.lists.spill 0 ≡ Some x → 0 < length (candidates w)
  some_candidate x e =
      let at = in_list w h x worklists.Spill for_spill (among_first w.lists.spill x e) in
      let low = temporary_of w x at.remains in
      let range = range_with_len colours (w.graph.nodes - colours) in
      let there = among_within x colours (w.graph.nodes - colours) low (omega (arith, at.node, low)) in
      let some = count_some (is_left w.lists) x range there (both (not (is_register x)) (is_left w.lists x) at.remains).1 in
      omega (arith, length-map (filter (is_left w.lists) range) (candidate w), length-filter (is_left w.lists) range, some)

  pub spill_candidate : (o : Option ℕ) → o ≡ slice_get w.lists.spill 0 → true ≡ is_some o → 0 < length (candidates w)
  spill_candidate None e t = cc
  spill_candidate (Some x) e t = some_candidate x (sym e)

pub no_spill : (o : Option ℕ) (xs : List ℕ) → o ≡ slice_get xs 0 → false ≡ is_some o → xs ≡ []
no_spill None xs e t = none_first xs e
no_spill (Some x) xs e t = cc

pub nothing_left : (w : Work) → w.lists.simplify ≡ [] → w.moves.ready ≡ [] → w.lists.freeze ≡ [] → w.lists.spill ≡ [] →
    is_done w ≡ true
nothing_left w a b c d =
    and_true (and_true (and_true (ap is_empty a) (ap is_empty b)) (ap is_empty c)) (ap is_empty d)

-- What is done of each kind is progress under every rule.
module _ (rule : Rule) (w v : Work) where
  advance_progresses : Advances w v → Progresses rule w v
  advance_progresses a = record { on = a.on; run = λ g e r. a.run g r }

  module _ (h : IsOrderly w) where
    pub simplify_progresses : (x : ℕ) → slice_get w.lists.simplify 0 ≡ Some x → v ≡ simplified x w → Progresses rule w v
    simplify_progresses x f e =
        advance_progresses (subst (Advances w) (sym e) (simplify_advances x w h f))

    pub try_progresses : w.lists.simplify ≡ [] → (i : ℕ) → slice_get w.moves.ready 0 ≡ Some i →
        v ≡ tried i w →
        Progresses rule w v
    try_progresses a i f e = advance_progresses (subst (Advances w) (sym e) (try_advances i w h a f))

    pub freeze_progresses : w.lists.simplify ≡ [] → w.moves.ready ≡ [] → (x : ℕ) →
        slice_get w.lists.freeze 0 ≡ Some x → v ≡ frozen x w →
        Progresses rule w v
    freeze_progresses a b x f e = advance_progresses (subst (Advances w) (sym e) (freeze_advances x w h a b f))

    pub spill_progresses : w.lists.simplify ≡ [] → w.moves.ready ≡ [] → w.lists.freeze ≡ [] → (at : ℕ) →
        at < length (candidates w) → rule (candidates w) at ≡ true →
        v ≡ spilled ((candidate_at (candidates w) at).temp + colours) w →
        Progresses rule w v
    spill_progresses a b c at l allowed e =
        let s = subst (λ (u : Work). Spills w u at) (sym e) (spill_advances at w h a b c l) in
        record {
          on = s.on;
          run = λ g same r. s.run g (ap (λ (q : Rule). q (candidates w) at) same ∙ allowed) r;
        }
