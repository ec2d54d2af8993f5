-- Two classes of work in order become one: what the code computes has the parts of which its laws speak.
use Rattle.std.proofs.Common.{◌≡◌, ◌≢◌, ℕ, ◌+◌, ◌-◌, ◌<◌, ◌≤◌, Bool, true, false, not, ◌&&◌, ◌||◌, List, length}
use Rattle.std.proofs.Common.{get_or, refl, sym, ap, subst, ◌∙◌, ⊎_elim}
use Rattle.std.specs.Prelude.{◌==◌, nat_lt, count_by, fold}
use Rattle.std.proofs.lemmas.Bool.{cases_eq, ltb-false}
use Rattle.tg_irc_definition.specs.Graphs.{bit}
use Rattle.tg_irc_definition.proofs.Deciding.{clash, both, and_true, not_true}
use Rattle.tg_graph.specs.declared.worklists.Worklist.TheVariants as worklists
use Rattle.tg_graph.specs.Interference.{IsGraph, is_among, is_register, interferes, neighbours}
use Rattle.tg_graph.specs.Lists.{number, moved}
use Rattle.tg_graph.proofs.Joining.{either_way, stays_below}
use Rattle.tg_coalescing_round.specs.glue.Lists.{list_at}
use Rattle.tg_coalescing_round.specs.glue.Tables.{Table, state_at, is_waiting, woken}
use Rattle.tg_coalescing_round.specs.glue.Works.{Work, degree_at, is_left, is_open, relisted, awake}
use Rattle.tg_coalescing_round.specs.mirror.Steps.{passed_on, merged}
use Rattle.tg_coalescing_round.specs.glue.Standing.{IsOrderly}
use Rattle.tg_coalescing_round.proofs.AdvancingWaking.{IsWoken, woken_then, woken_class, wakes_class, stays_awake}
use Rattle.tg_coalescing_round.proofs.AdvancingListing.{IsShifted, shifted_then, IsListed, by_tests, moved_it}
use Rattle.tg_coalescing_round.proofs.AdvancingListing.{moved_other, relisted_same, relisted_shifts, lists_it, lists_other}
use Rattle.tg_coalescing_round.proofs.AdvancingLosing.{IsRoused}
use Rattle.tg_coalescing_round.proofs.AdvancingPassingOn.{IsPassed, remade}
use Rattle.tg_coalescing_round.proofs.AdvancingPassingOne.{IsBeside, brought, passed_all}
use Rattle.tg_coalescing_round.proofs.AdvancingClasses.{classes_after}
use Rattle.tg_coalescing_round.proofs.AdvancingEnds.{moves_after, related_other}

-- two classes that may become one
pub record MayMerge (w : Work) (kept gone : ℕ) : Type 0 where
  pub kept_node : kept < w.graph.nodes
  pub kept_left : is_left w.lists kept ≡ true
  pub gone_node : gone < w.graph.nodes
  pub gone_open : is_open w gone ≡ true
  pub differ : kept ≢ gone
  pub no_pair : interferes w.graph kept gone ≡ false

module _ (w : Work) (h : IsOrderly w) (kept gone : ℕ) (may : MayMerge w kept gone) where
  abbrev pub one : Work
  one = record w {
    lists = moved w.lists gone worklists.Merged;
    classes = classes_after w h kept gone may.kept_node may.gone_node may.differ;
    moves = moves_after w h kept gone may.kept_node may.gone_node may.differ;
  }

  pub gone_low : is_register gone ≡ false
  gone_low = not_true (both (not (is_register gone)) (is_left w.lists gone) may.gone_open).0

  pub gone_left : is_left w.lists gone ≡ true
  gone_left = (both (not (is_register gone)) (is_left w.lists gone) may.gone_open).1

  pub temporary : 25 ≤ gone
  temporary = ltb-false gone 25 gone_low

  -- the node that goes is left no more, and the others as they were
  pub one_here : is_left one.lists gone ≡ false
  one_here =
      ap (λ b. not (is_among gone one.lists.stacked || b)) (moved_it w.lists gone worklists.Merged worklists.Merged)
      ∙ always (is_among gone one.lists.stacked)
    where
      always : (b : Bool) → not (b || true) ≡ false
      always true = refl
      always false = refl

  pub one_there : (z : ℕ) → z ≢ gone → is_left one.lists z ≡ is_left w.lists z
  one_there z d =
      ap (λ b. not (b || is_among z one.lists.merged)) (moved_other w.lists gone z worklists.Merged worklists.Stacked d)
      ∙ ap (λ b. not (is_among z w.lists.stacked || b)) (moved_other w.lists gone z worklists.Merged worklists.Merged d)

  pub still_left : (z : ℕ) → is_left one.lists z ≡ true → (z ≢ gone) × (is_left w.lists z ≡ true)
  still_left z e =
      let d : z ≢ gone = λ p. clash (subst (λ y. is_left one.lists y ≡ true) p e) one_here in
      (d, sym (one_there z d) ∙ e)

  pub one_fixed : (z : ℕ) → z < w.graph.nodes → is_among z one.lists.fixed ≡ is_register z
  one_fixed z k =
      ⊎_elim
      (λ (p : z ≡ gone). subst (λ y. is_among y one.lists.fixed ≡ is_register y) (sym p)
      (moved_it w.lists gone worklists.Merged worklists.Fixed ∙ sym gone_low))
      (λ (d : z ≢ gone). moved_other w.lists gone z worklists.Merged worklists.Fixed d ∙ h.placed.fixed z k)
      (cases_eq z gone)

  -- each other temporary stays where it belongs
  pub one_listed : (z : ℕ) → z < w.graph.nodes → z ≢ kept → IsListed one z
  one_listed z k e o list =
      let p = both (not (is_register z)) (is_left one.lists z) o in
      let q = still_left z p.1 in
      moved_other w.lists gone z worklists.Merged list q.0
      ∙ (h.placed.listed z k (and_true p.0 q.1) list
      ∙ sym (ap (λ b. number list == number (by_tests (nat_lt (degree_at w z) 25) b))
      (related_other w h kept gone may.kept_node may.gone_node may.differ z e q.0)))

  pub neighbour_below : (y : ℕ) → is_among y (neighbours w.graph gone) ≡ true → y < w.graph.nodes
  neighbour_below y e =
      stays_below w.graph gone y h.graph temporary may.gone_node (sym (h.graph.exact gone y temporary) ∙ e)

  beside : (y : ℕ) → is_among y (neighbours w.graph gone) ≡ true → IsBeside kept one y
  beside y e = record {
    node = neighbour_below y e;
    place = subst (λ n. y < n) (sym h.sized.lists) (neighbour_below y e);
    fixed = one_fixed y (neighbour_below y e);
    apart = λ p. clash (subst (λ x. interferes w.graph gone x ≡ true) p (sym (h.graph.exact gone y temporary) ∙ e))
        (either_way w.graph gone kept ∙ may.no_pair);
  }

  -- the kept node has the neighbours, its moves are to be tried again, and it is where it belongs
  pub record IsMerged (v : Work) : Type 0 where
    pub same : v ≡ remade one v.graph v.lists v.degrees v.moves
    pub size : v.graph.nodes ≡ w.graph.nodes
    pub graph : IsGraph v.graph
    pub pairs : (a b : ℕ) → interferes v.graph a b ≡
        (interferes w.graph a b || ((a == kept) && is_among b (neighbours w.graph gone)) ||
        ((b == kept) && is_among a (neighbours w.graph gone)))
    pub lists : IsShifted one.lists v.lists
    pub moves : IsWoken one.moves v.moves
    pub sized : length v.degrees ≡ length w.degrees
    pub others : (z : ℕ) → z ≢ kept → degree_at v z ≡
        degree_at w z - bit (is_open one z && (is_among z (neighbours w.graph gone) && interferes w.graph kept z))
    pub grows : is_register kept ≡ false →
        degree_at v kept ≡ degree_at w kept + count_by (brought kept one) (neighbours w.graph gone)
    pub stays : is_register kept ≡ true → degree_at v kept ≡ degree_at w kept
    pub listed : (z : ℕ) → (z ≢ kept → IsListed one z) → IsListed v z
    pub roused : (z : ℕ) → z ≢ kept → is_open one z ≡ true → is_among z (neighbours w.graph gone) ≡ true →
        interferes w.graph kept z ≡ true → degree_at v z ≡ 24 → IsRoused w.graph one.moves.touching v.moves z
    pub awake_at : (z i : ℕ) → is_among z (neighbours w.graph gone) ≡ true →
        is_among i (list_at one.moves.touching z) ≡ true → is_waiting (state_at v.moves i) ≡ false
    pub awake_kept : (i : ℕ) → is_among i (list_at one.moves.touching kept) ≡ true →
        is_waiting (state_at v.moves i) ≡ false

  abbrev passed : Work
  passed = fold (passed_on kept) one (neighbours w.graph gone)

  p : IsPassed kept one passed (λ z. is_among z (neighbours w.graph gone))
      (count_by (brought kept one) (neighbours w.graph gone))
  p =
      passed_all kept one (neighbours w.graph gone) (h.graph.distinct gone) h.graph h.some may.kept_node
      (subst (λ n. kept < n) (sym h.sized.degrees) may.kept_node) beside

  abbrev roused_kept : Work
  roused_kept = awake kept passed

  abbrev placed : Work
  placed = relisted kept roused_kept

  shifts : IsShifted passed.lists placed.lists
  shifts =
      relisted_shifts kept roused_kept
      (subst (λ n. kept < n) (sym (p.lists.nodes ∙ h.sized.lists)) may.kept_node)
      (p.lists.fixed kept ∙ one_fixed kept may.kept_node)

  abbrev form : Work
  form = record roused_kept { lists = placed.lists }

  roused_list : (z : ℕ) → IsListed passed z → IsListed roused_kept z
  roused_list z q o list =
      q o list
      ∙ sym (ap (λ (us : List ℕ). number list == number (by_tests (nat_lt (degree_at passed z) 25)
      (nat_lt 0 (get_or us z 0)))) (ap (λ (t : Table). t.unsettled) (woken_class kept passed.moves).same))

  listed_form : (z : ℕ) → (z ≢ kept → IsListed one z) → IsListed form z
  listed_form z q =
      subst (λ v. IsListed v z) (relisted_same kept roused_kept)
      (⊎_elim
      (λ (e : z ≡ kept). subst (λ y. IsListed placed y) (sym e) (lists_it kept roused_kept shifts))
      (λ (d : z ≢ kept). lists_other kept roused_kept shifts z d (roused_list z (p.listed z d (q d))))
      (cases_eq z kept))

  on : (i : ℕ) → is_waiting (state_at passed.moves i) ≡ false → is_waiting (state_at (woken kept passed.moves) i) ≡ false
  on i e = stays_awake passed.moves (woken kept passed.moves) i (woken_class kept passed.moves) e

  form_merged : IsMerged form
  form_merged = record {
    same = ap (λ (x : Work). remade x passed.graph placed.lists passed.degrees (woken kept passed.moves)) p.same;
    size = p.size;
    graph = p.graph;
    pairs = p.pairs;
    lists = shifted_then one.lists passed.lists placed.lists p.lists shifts;
    moves = woken_then one.moves passed.moves (woken kept passed.moves) p.moves (woken_class kept passed.moves);
    sized = p.sized;
    others = p.others;
    grows = p.grows;
    stays = p.stays;
    listed = listed_form;
    roused = λ z d o k q e a i f g. on i (p.roused z d o k q e a i f g);
    awake_at = λ z i k e. on i (p.awake_at z i k e);
    awake_kept = λ i e. wakes_class kept i passed.moves
        (ap (λ (t : Table). is_among i (list_at t.touching kept)) p.moves.same ∙ e);
  }

  pub merged_merged : IsMerged (merged kept gone w)
  unfolding merged
  merged_merged = subst IsMerged (sym (relisted_same kept roused_kept)) form_merged
