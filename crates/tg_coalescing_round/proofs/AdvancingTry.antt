-- The first move to be tried: what it leads to.
use Rattle.std.proofs.Common.{◌≡◌, ◌≢◌, ℕ, ◌<◌, Bool, true, false, not, ◌&&◌, ◌||◌, List, []}
use Rattle.std.proofs.Common.{Some, refl, sym, ap, subst, ◌∙◌, arith}
use Rattle.std.specs.Prelude.{◌==◌, nat_lt, slice_get, sum_by, if◌then◌else◌}
use Rattle.tg_irc_definition.specs.declared.moves.MoveState.{MoveState}
use Rattle.tg_irc_definition.specs.declared.moves.MoveState.TheVariants.{Coalesced, Constrained}
use Rattle.tg_irc_definition.specs.declared.steps.Step.{Step}
use Rattle.tg_irc_definition.specs.declared.steps.Step.TheVariants.{Same, Constrain}
use Rattle.tg_irc_definition.specs.States.{Problem, RoundState, members, facts_at, all_made}
use Rattle.tg_irc_definition.specs.States as states
use Rattle.tg_irc_definition.specs.Steps.{can, after, is_safe, stands_under, IsTaken}
use Rattle.tg_irc_definition.proofs.Deciding.{clash, and_true, both, never, or_left, or_right, same_test}
use Rattle.tg_graph.specs.Interference.{Interference, is_register, interferes}
use Rattle.tg_graph.specs.Lists.{Lists}
use Rattle.tg_coalescing_round.specs.glue.Groupings.{is_made}
use Rattle.tg_coalescing_round.specs.glue.Works.{Work, degree_at, is_left, settled, stepped, to, from}
use Rattle.tg_coalescing_round.specs.mirror.Passing.{passes}
use Rattle.tg_coalescing_round.specs.mirror.Passing as passing
use Rattle.tg_coalescing_round.specs.mirror.Steps.{merged, coalesced, tried}
use Rattle.tg_coalescing_round.specs.glue.Tables.{first_taken, parked}
use Rattle.tg_coalescing_round.specs.glue.Standing.{shown, state_of, IsOrderly, IsRunOf}
use Rattle.tg_coalescing_round.specs.glue.Advancing.{Advances, TryAdvances}
use Rattle.tg_coalescing_round.proofs.AdvancingListing.{IsShifted, IsListed}
use Rattle.tg_coalescing_round.proofs.AdvancingPossible.{with_parts, at_problem}
use Rattle.tg_coalescing_round.proofs.AdvancingMeasure.{goes_less}
use Rattle.tg_coalescing_round.proofs.AdvancingRuns.{steps_on, state_on}
use Rattle.tg_coalescing_round.proofs.AdvancingSteps.{orderly_stepped, taken}
use Rattle.tg_coalescing_round.proofs.AdvancingSettling.{built, settled_same, settled_shifts, settled_listed}
use Rattle.tg_coalescing_round.proofs.AdvancingTrying.{index, unsettled, begun, begun_kept, registers_interfere, same_advances, constrain_advances}
use Rattle.tg_coalescing_round.proofs.AdvancingParking.{not_moving, park_advances}
use Rattle.tg_coalescing_round.proofs.AdvancingWaking.{requeued}
use Rattle.tg_coalescing_round.proofs.AdvancingPassingOn.{remade}
use Rattle.tg_coalescing_round.proofs.AdvancingMerging.{MayMerge, IsMerged, merged_merged}
use Rattle.tg_coalescing_round.proofs.AdvancingStanding.{Leads, first_leads, second_leads, stands_told}
use Rattle.tg_coalescing_round.proofs.AdvancingSafe.{Coalesces, step, kept_below, gone_below, kept_remains, gone_remains, kept_gone}
use Rattle.tg_coalescing_round.proofs.AdvancingSafe.{safe, by_briggs, possible}
use Rattle.tg_coalescing_round.proofs.AdvancingCoalescing.{once, orderly_once, may, whole, last, state_last, orderly_last}
use Rattle.tg_coalescing_round.proofs.AdvancingCoalesced.{uses_after, made_after}

-- Two classes become one.
module _ (i : ℕ) (w : Work) (h : IsOrderly w) (first : slice_get w.moves.ready 0 ≡ Some i)
    (simplify : w.lists.simplify ≡ []) (kept gone : ℕ) (c : Coalesces w i kept gone)
    (stands : (g : Problem) → IsRunOf g w → stands_under g (state_of w) kept gone ≡ true) where
  possible_in : (g : Problem) → IsRunOf g w → can g (state_of w) (step i w h first kept gone c) ≡ true
  possible_in g run =
      and_true
      (and_true
      (at_problem g w run.nodes run.moves
      (λ n ms. let p = with_parts g w run.nodes run.moves n ms in
      (states.is_unsettled p (state_of w) i && is_safe p (state_of w) i &&
      ((states.to p (state_of w) i == kept && states.from p (state_of w) i == gone) ||
      (states.to p (state_of w) i == gone && states.from p (state_of w) i == kept))) ≡ true)
      (safe i w h first kept gone c))
      (stands g run))
      (by_briggs i w h first kept gone c)

  module _ (lists : Lists) (shifts : IsShifted w.lists lists)
      (listed : (z : ℕ) → z < w.graph.nodes →
      IsListed (built (begun i w h first) (begun_kept i w h first) i (index i w h first) (unsettled i w h first)
      Coalesced refl lists) z) where
    abbrev u : Work
    u = once i w h first kept gone c lists shifts listed

    abbrev o : IsOrderly u
    o = orderly_once i w h first kept gone c lists shifts listed

    abbrev m : MayMerge u kept gone
    m = may i w h first kept gone c lists shifts listed

    module _ (g : Interference) (left : Lists) (degrees : List ℕ) (states : List MoveState) (ready : List ℕ)
        (b : IsMerged u o kept gone m
        (remade (whole i w h first kept gone c lists shifts listed) g left degrees
        (requeued states ready (whole i w h first kept gone c lists shifts listed).moves))) where
      abbrev v : Work
      v = last i w h first kept gone c lists shifts listed g left degrees states ready b

      abbrev st : Step
      st = step i w h first kept gone c

      state_v : state_of v ≡ after (shown w) (state_of w) st
      state_v = state_last i w h first kept gone c lists shifts listed g left degrees states ready b

      orderly : IsOrderly (stepped st v)
      orderly =
          orderly_stepped st v (orderly_last i w h first kept gone c lists shifts listed g left degrees states ready b)

      runs : (p : Problem) → IsRunOf p w → IsRunOf p (stepped st v)
      runs p run = record {
        graph = run.graph;
        ends = run.ends;
        nodes = b.size ∙ run.nodes;
        moves = run.moves;
        steps = steps_on p w run (stepped st v) st is_taken refl state_v;
        state = state_on p w run (stepped st v) st is_taken refl state_v;
        uses = λ x l.
            uses_after p w h run kept gone kept_node gone_node apart kept_stays gone_stays x (subst (λ n. x < n) b.size l)
            ∙ ap (λ (t : RoundState). sum_by (λ y. (facts_at p t y).uses) (members p t x)) (sym state_v);
        made = λ x l e.
            made_after p w h run kept gone kept_node gone_node apart kept_stays gone_stays x
            (subst (λ n. x < n) b.size l) e
            ∙ ap (λ (t : RoundState). all_made p t x) (sym state_v);
      }
        where
          kept_node : kept < w.graph.nodes
          kept_node = kept_below i w h first kept gone c

          gone_node : gone < w.graph.nodes
          gone_node = gone_below i w h first kept gone c

          apart : kept ≢ gone
          apart = kept_gone i w h first kept gone c

          kept_stays : is_left w.lists kept ≡ true
          kept_stays = kept_remains i w h first kept gone c

          gone_stays : is_left w.lists gone ≡ true
          gone_stays = gone_remains i w h first kept gone c

          is_taken : IsTaken p (state_of w) (step i w h first kept gone c)
          is_taken =
              taken p w h run (step i w h first kept gone c) (possible_in p run) (λ l. simplify)
              (λ l. absurd (omega arith)) (λ l. absurd (omega arith))

      advances : Advances w (stepped st v)
      advances = record {
        on = record {
          orderly = orderly;
          less = goes_less w (stepped st v) st h orderly b.size refl (possible i w h first kept gone c) state_v;
        };
        run = runs;
      }

    merges : IsMerged u o kept gone m (merged kept gone u)
    merges = merged_merged u o kept gone m

    same : merged kept gone u ≡
        remade (whole i w h first kept gone c lists shifts listed) (merged kept gone u).graph (merged kept gone u).lists
        (merged kept gone u).degrees
        (requeued (merged kept gone u).moves.states (merged kept gone u).moves.ready
        (whole i w h first kept gone c lists shifts listed).moves)
    same =
        merges.same
        ∙ ap (remade (whole i w h first kept gone c lists shifts listed) (merged kept gone u).graph
        (merged kept gone u).lists (merged kept gone u).degrees) merges.moves.same

    merge_advances : Advances w (stepped (step i w h first kept gone c) (merged kept gone u))
    merge_advances =
        subst (λ v. Advances w (stepped (step i w h first kept gone c) v)) (sym same)
        (advances _ _ _ _ _ (subst (λ v. IsMerged u o kept gone m v) same merges))

  pub coalesce_advances : Advances w (coalesced i kept gone (begun i w h first))
  coalesce_advances =
      subst (λ v. Advances w (stepped (step i w h first kept gone c) (merged kept gone v)))
      (sym (settled_same (begun i w h first) (begun_kept i w h first) i (index i w h first) (unsettled i w h first)
      Coalesced refl))
      (merge_advances (settled i Coalesced (begun i w h first)).lists
      (settled_shifts (begun i w h first) (begun_kept i w h first) i (index i w h first) (unsettled i w h first)
      Coalesced refl)
      (settled_listed (begun i w h first) (begun_kept i w h first) i (index i w h first) (unsettled i w h first)
      Coalesced refl))

module _ (i : ℕ) (w : Work) (h : IsOrderly w) (simplify : w.lists.simplify ≡ [])
    (first : slice_get w.moves.ready 0 ≡ Some i) where
  abbrev x : ℕ
  x = to w i

  abbrev y : ℕ
  y = from w i

  not_both : (x == y) ≡ false → interferes w.graph x y ≡ false → (is_register x && is_register y) ≡ false
  not_both e p =
      never (λ r. let rs = both (is_register x) (is_register y) r in
      clash (registers_interfere w.graph x y (λ s. clash (same_test x y s) e) rs.0 rs.1) p)

  -- one end stands under the other, in this order
  led : (kept gone : ℕ) → ((x == kept && y == gone) || (x == gone && y == kept)) ≡ true → (x == y) ≡ false →
      interferes w.graph x y ≡ false → passes w x y ≡ true → is_register gone ≡ false →
      Leads (is_register kept) (is_made w.classes kept) (is_made w.classes gone) →
      Advances w (coalesced i kept gone (begun i w h first))
  led kept gone ends e p q temporary leads =
      let c : Coalesces w i kept gone = record { ends = ends; apart = e; no_pair = p; temporary = temporary; test = q } in
      coalesce_advances i w h first simplify kept gone c
      (λ g run. stands_told g w h run kept gone (kept_below i w h first kept gone c) (gone_below i w h first kept gone c)
      (kept_remains i w h first kept gone c) (gone_remains i w h first kept gone c) temporary leads)

  under_first : (e : (x == y) ≡ false) (p : interferes w.graph x y ≡ false) → passes w x y ≡ true →
      passing.stands_under w x y ≡ true → Advances w (coalesced i x y (begun i w h first))
  under_first e p q t =
      let leads = first_leads (is_register x) (is_register y) (is_made w.classes x) (is_made w.classes y)
      (nat_lt (degree_at w x) (degree_at w y)) (not_both e p) t in
      led x y (or_left _ _ (and_true (same_test x x refl) (same_test y y refl))) e p q leads.0 leads.1

  under_second : (e : (x == y) ≡ false) (p : interferes w.graph x y ≡ false) → passes w x y ≡ true →
      passing.stands_under w x y ≡ false → Advances w (coalesced i y x (begun i w h first))
  under_second e p q t =
      let leads = second_leads (is_register x) (is_register y) (is_made w.classes x) (is_made w.classes y)
      (nat_lt (degree_at w x) (degree_at w y)) (not_both e p) t in
      led y x (or_right ((x == y) && (y == x)) _ (and_true (same_test x x refl) (same_test y y refl))) e p q leads.0
      leads.1

  pub all_advance : Advances w (tried i w)
  unfolding tried
  all_advance =
      by (x == y) (interferes w.graph x y) (passes w x y) (passing.stands_under w x y) refl refl refl refl
    where
      by : (a b c d : Bool) → (x == y) ≡ a → interferes w.graph x y ≡ b → passes w x y ≡ c →
          passing.stands_under w x y ≡ d →
          Advances w (if a then stepped (Same i) (settled i Coalesced (begun i w h first))
          else if b then stepped (Constrain i) (settled i Constrained (begun i w h first))
          else if not c then record w { moves = parked i (first_taken w.moves) }
          else if d then coalesced i x y (begun i w h first)
          else coalesced i y x (begun i w h first))
      by true b c d e p q t = same_advances i w h first simplify e
      by false true c d e p q t = constrain_advances i w h first simplify e p
      by false false false d e p q t = park_advances i w h first (not_moving i w h first e p q)
      by false false true true e p q t = under_first e p q t
      by false false true false e p q t = under_second e p q t

pub try_advances : TryAdvances
try_advances i w h simplify first = all_advance i w h simplify first
