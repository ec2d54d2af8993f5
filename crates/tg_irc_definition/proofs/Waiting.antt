-- A waiting move fails its test until one of its ends is woken.
use Rattle.std.proofs.Common.{◌≡◌, ◌≢◌, ℕ, ◌<◌, Bool, true, false, not, ◌&&◌, ◌||◌, refl, sym, subst, ◌∙◌, arith}
use Rattle.std.proofs.Common.{⊎_elim}
use Rattle.std.specs.Prelude.{nat_lt, ◌==◌, if◌then◌else◌}
use Rattle.std.proofs.lemmas.Bool.{ltb-true, ltb-false, lt-ltb, le-ltb}
use Rattle.tg_irc_definition.specs.declared.steps.Step.{Step}
use Rattle.tg_irc_definition.specs.declared.steps.Step.TheVariants.{Simplify, Same, Constrain, Coalesce, Freeze, Spill}
use Rattle.tg_irc_definition.specs.declared.moves.MoveState.TheVariants.{Coalesced, Constrained}
use Rattle.tg_irc_definition.specs.Graphs.{colour_count, is_register, Set, Pairs, count, every, without, neighbours, degree}
use Rattle.tg_irc_definition.specs.Graphs.{is_low, merged}
use Rattle.tg_irc_definition.specs.States.{Problem, RoundState, low, to, from, is_unsettled, remains}
use Rattle.tg_irc_definition.specs.Steps.{briggs, george, passes, can, can_move, after}
use Rattle.tg_irc_definition.specs.laws.Waiting.{IsSymmetric, turns_low, is_by_turned, is_woken, is_near, is_disturbed, WaitingFails}
use Rattle.tg_irc_definition.specs.laws.Waiting.{WokenAreDisturbed}
use Rattle.tg_irc_definition.proofs.Counting.{count_le, fails_at, fails}
use Rattle.tg_irc_definition.proofs.Settling.{frozen_is, settled_at}
use Rattle.tg_irc_definition.proofs.Deciding.{clash, both, and_true, either, or_left, or_right, neither, tells, never, not_true}
use Rattle.tg_irc_definition.proofs.Deciding.{not_false, from_false, from_true, or_false, and_false, same_node, same_test}
use Rattle.tg_irc_definition.proofs.Deciding.{some_is}

-- Two graphs over one number of nodes.
module _ (n : ℕ) (before_nodes after_nodes : Set) (before_pairs after_pairs : Pairs) where
  abbrev high_before : Set
  high_before z = not (is_low n before_nodes before_pairs z)

  abbrev high_after : Set
  high_after z = not (is_low n after_nodes after_pairs z)

  -- the node keeps its high neighbours
  record KeepsHigh (u : ℕ) : Type 0 where
    stays : (z : ℕ) → z < n → before_nodes z ≡ true → before_pairs u z ≡ true → high_before z ≡ true →
        after_nodes z ≡ true
    joined : (z : ℕ) → z < n → before_nodes z ≡ true → before_pairs u z ≡ true → after_pairs u z ≡ true
    high : (z : ℕ) → z < n → before_nodes z ≡ true → before_pairs u z ≡ true → high_before z ≡ true →
        high_after z ≡ true

  abbrev seen : Set → Pairs → Set → ℕ → ℕ → Set
  seen nodes pairs high u v z = nodes z && (pairs u z || pairs v z) && high z

  -- Briggs's test still fails
  still_many : (u v : ℕ) → KeepsHigh u → KeepsHigh v →
      nat_lt (count (seen before_nodes before_pairs high_before u v) n) colour_count ≡ false →
      nat_lt (count (seen after_nodes after_pairs high_after u v) n) colour_count ≡ false
  still_many u v ku kv e =
      let most = ltb-false _ _ e in
      let more = count_le (seen before_nodes before_pairs high_before u v)
      (seen after_nodes after_pairs high_after u v) n in_it in
      le-ltb _ _ (omega arith)
    where
      in_it : (z : ℕ) → z < n → seen before_nodes before_pairs high_before u v z ≡ true →
          seen after_nodes after_pairs high_after u v z ≡ true
      in_it z l h =
          let a = both _ _ h in
          let b = both _ _ a.0 in
          ⊎_elim (λ p. and_true (and_true (ku.stays z l b.0 p a.1) (or_left _ _ (ku.joined z l b.0 p)))
          (ku.high z l b.0 p a.1))
          (λ p. and_true (and_true (kv.stays z l b.0 p a.1) (or_right _ _ (kv.joined z l b.0 p)))
          (kv.high z l b.0 p a.1)) (either _ _ b.1)

  abbrev each : Set → Pairs → ℕ → ℕ → Set
  each nodes pairs r t z = not (neighbours n nodes pairs t z) || pairs r z || is_low n nodes pairs z

  -- George's test still fails
  still_one : (r t : ℕ) → KeepsHigh t →
      ((z : ℕ) → z < n → before_nodes z ≡ true → before_pairs t z ≡ true → after_pairs r z ≡ true →
      before_pairs r z ≡ true) → every (each before_nodes before_pairs r t) n ≡ false →
      every (each after_nodes after_pairs r t) n ≡ false
  still_one r t k new e =
      let at = fails_at (each before_nodes before_pairs r t) n e in
      let z = at.0 in
      let a = neither _ _ at.2 in
      let b = neither _ _ a.0 in
      let near = both _ _ (not_false b.0) in
      let h = from_false a.1 in
      fails (each after_nodes after_pairs r t) n z at.1
      (or_false (or_false (from_true (and_true (k.stays z at.1 near.0 near.1 h) (k.joined z at.1 near.0 near.1)))
      (never (λ q. clash (new z at.1 near.0 near.1 q) b.1))) (not_true (k.high z at.1 near.0 near.1 h)))

module _ (g : Problem) where
  abbrev Keeps : RoundState → RoundState → ℕ → Type 0
  Keeps s s' u = KeepsHigh g.graph.nodes s.remaining s'.remaining s.pairs s'.pairs u

  -- no high neighbour of the temporary comes to interfere with the register
  abbrev NoneNew : RoundState → RoundState → (r t : ℕ) → Type 0
  NoneNew s s' r t = (z : ℕ) → z < g.graph.nodes → s.remaining z ≡ true → s.pairs t z ≡ true → s'.pairs r z ≡ true →
      s.pairs r z ≡ true

  still_fails : (s s' : RoundState) (u v : ℕ) → Keeps s s' u → Keeps s s' v → NoneNew s s' u v → NoneNew s s' v u →
      passes g s u v ≡ false → passes g s' u v ≡ false
  still_fails s s' u v ku kv nu nv e = by (is_register u) (is_register v) e
    where
      by : (a b : Bool) → (if a then george g s u v else if b then george g s v u else briggs g s u v) ≡ false →
          (if a then george g s' u v else if b then george g s' v u else briggs g s' u v) ≡ false
      by true b e = still_one g.graph.nodes s.remaining s'.remaining s.pairs s'.pairs u v kv nu e
      by false true e = still_one g.graph.nodes s.remaining s'.remaining s.pairs s'.pairs v u ku nv e
      by false false e = still_many g.graph.nodes s.remaining s'.remaining s.pairs s'.pairs u v ku kv e

  -- what is known of a move's classes in a state of which no step of it is possible
  record Fails (s : RoundState) (u v : ℕ) : Type 0 where
    differ : (u == v) ≡ false
    apart : (s.pairs u v || (is_register u && is_register v)) ≡ false
    test : passes g s u v ≡ false

  abbrev possible : RoundState → ℕ → ℕ → Bool
  possible s u v =
      (u == v) || (not (u == v) && (s.pairs u v || (is_register u && is_register v))) ||
      (not (u == v) && not (not (u == v) && (s.pairs u v || (is_register u && is_register v))) && passes g s u v)

  fails_of : (s : RoundState) (u v : ℕ) → possible s u v ≡ false → Fails s u v
  fails_of s u v e =
      let a = neither _ _ e in
      let b = neither _ _ a.0 in
      let d = from_false b.0 in
      record { differ = b.0; apart = and_false _ _ b.1 d; test = and_false _ _ a.1 (and_true d (from_false b.1)) }

  of_fails : (s : RoundState) (u v : ℕ) → Fails s u v → possible s u v ≡ false
  of_fails s u v f =
      or_false (or_false f.differ (never (λ h. clash (both _ _ h).1 f.apart)))
      (never (λ h. clash (both _ _ h).1 f.test))

  -- a move whose classes are the same after a step
  still : (s s' : RoundState) (i : ℕ) → (is_unsettled g s' i ≡ true → is_unsettled g s i ≡ true) → to g s' i ≡ to g s i →
      from g s' i ≡ from g s i → (Fails s (to g s i) (from g s i) → Fails s' (to g s i) (from g s i)) →
      can_move g s i ≡ false → can_move g s' i ≡ false
  still s s' i was_open a b f e =
      never (λ h. let p = both _ _ h in
      clash (subst (λ v. possible s' (to g s i) v ≡ true) b (subst (λ u. possible s' u (from g s' i) ≡ true) a p.1))
      (of_fails s' _ _ (f (fails_of s _ _ (and_false _ _ e (was_open p.0))))))

  module _ (s : RoundState) (symmetric : IsSymmetric s.pairs) where
    swapped : (x y : ℕ) → s.pairs x y ≡ true → s.pairs y x ≡ true
    swapped x y h = symmetric y x ∙ h

    -- a high neighbour of a node that isn't woken stays high
    stays_high : (step : Step) (u : ℕ) → is_by_turned g s step u ≡ false → (z : ℕ) → z < g.graph.nodes →
        s.remaining z ≡ true → (after g s step).remaining z ≡ true → s.pairs u z ≡ true → not (low g s z) ≡ true →
        not (low g (after g s step) z) ≡ true
    stays_high step u e z l r r' p h =
        from_false (never (λ k. clash
        ((some_is (λ z. turns_low g s step z && s.pairs z u) g.graph.nodes).1
        (z, l, and_true (and_true (and_true (and_true r r') h) k) (swapped u z p))) e))

    apart : (x z : ℕ) → x ≢ z → (z == x) ≡ false
    apart x z d = never (λ h. d (sym (same_node z x h)))

    -- a node that isn't woken keeps its high neighbours where its pairs stay and none of these is gone
    keeps_by : (step : Step) (u : ℕ) → is_by_turned g s step u ≡ false →
        ((z : ℕ) → s.pairs u z ≡ true → (after g s step).pairs u z ≡ true) →
        ((z : ℕ) → s.remaining z ≡ true → s.pairs u z ≡ true → not (low g s z) ≡ true →
        (after g s step).remaining z ≡ true) →
        Keeps s (after g s step) u
    keeps_by step u e joined rest = record {
      stays = λ z l r p h. rest z r p h;
      joined = λ z l r p. joined z p;
      high = λ z l r p h. stays_high step u e z l r (rest z r p h) p h;
    }

    -- the neighbours of a node remain without one that isn't among them
    without_other : (x u z : ℕ) → s.pairs x u ≡ false → s.remaining z ≡ true → s.pairs u z ≡ true →
        without x s.remaining z ≡ true
    without_other x u z f r p =
        and_true (from_false (apart x z (λ d. clash (subst (λ w. s.pairs w u ≡ true) (sym d) (swapped u z p)) f))) r

    keeps_simplified : (x u : ℕ) → low g s x ≡ true → is_by_turned g s (Simplify x) u ≡ false →
        Keeps s (after g s (Simplify x)) u
    keeps_simplified x u lx e =
        keeps_by (Simplify x) u e (λ z p. p)
        (λ z r p h. and_true (from_false (apart x z (λ d. clash (subst (λ w. low g s w ≡ true) d lx) (not_true h)))) r)

    keeps_spilled : (x u : ℕ) → s.pairs x u ≡ false → is_by_turned g s (Spill x) u ≡ false →
        Keeps s (after g s (Spill x)) u
    keeps_spilled x u f e = keeps_by (Spill x) u e (λ z p. p) (λ z r p h. without_other x u z f r p)

    module _ (i0 kept gone : ℕ) (b : Bool) where
      abbrev merging : Step
      merging = Coalesce i0 kept gone b

      -- a class that isn't woken is no end of the merge
      record IsAway (u : ℕ) : Type 0 where
        not_kept : (u == kept) ≡ false
        not_near : s.pairs gone u ≡ false
        not_turned : is_by_turned g s merging u ≡ false

      away : (u : ℕ) → is_woken g s merging u ≡ false → IsAway u
      away u e = let p = neither _ _ e in let q = neither _ _ p.0 in
          record { not_kept = q.0; not_near = q.1; not_turned = p.1 }

      keeps_merged : (u : ℕ) → IsAway u → Keeps s (after g s merging) u
      keeps_merged u a =
          keeps_by merging u a.not_turned (λ z p. or_left _ _ (or_left _ _ p))
          (λ z r p h. without_other gone u z a.not_near r p)

      old_pair : (u z : ℕ) → IsAway u → merged kept gone s.pairs u z ≡ true → s.pairs u z ≡ true
      old_pair u z a h =
          let left = s.pairs u z || (u == kept && s.pairs gone z) in
          ⊎_elim (λ p. ⊎_elim (λ q. q) (λ q. absurd (clash (both (u == kept) (s.pairs gone z) q).0 a.not_kept))
          (either (s.pairs u z) (u == kept && s.pairs gone z) p))
          (λ p. absurd (clash (swapped u gone (both (z == kept) (s.pairs u gone) p).1) a.not_near))
          (either left (z == kept && s.pairs u gone) h)

      same_class : (c : ℕ) → IsAway (if c == gone then kept else c) → (if c == gone then kept else c) ≡ c
      same_class c a = by (c == gone) a.not_kept
        where
          by : (t : Bool) → ((if t then kept else c) == kept) ≡ false → (if t then kept else c) ≡ c
          by true h = absurd (clash (same_test kept kept refl) h)
          by false h = refl

      still_merged : (u v : ℕ) → IsAway u → IsAway v → Fails s u v → Fails (after g s merging) u v
      still_merged u v a c f = record {
        differ = f.differ;
        apart = never (λ h. clash (⊎_elim (λ p. or_left _ _ (old_pair u v a p)) (λ p. or_right _ _ p) (either _ _ h))
            f.apart);
        test = still_fails s (after g s merging) u v (keeps_merged u a) (keeps_merged v c)
            (λ z l r p h. old_pair u z a h) (λ z l r p h. old_pair v z c h) f.test;
      }

    by_step : (step : Step) (i : ℕ) → can g s step ≡ true → can_move g s i ≡ false →
        is_woken g s step (to g (after g s step) i) ≡ false → is_woken g s step (from g (after g s step) i) ≡ false →
        can_move g (after g s step) i ≡ false
    by_step (Simplify x) i c e u v =
        let lx = (both (remains g s x) (low g s x) (both _ _ c).0).1 in
        still s (after g s (Simplify x)) i (λ h. h) refl refl (λ f. record {
          differ = f.differ;
          apart = f.apart;
          test = still_fails s (after g s (Simplify x)) _ _ (keeps_simplified x _ lx u) (keeps_simplified x _ lx v)
              (λ z l r p h. h) (λ z l r p h. h) f.test;
        }) e
    by_step (Spill x) i c e u v =
        let a = neither _ _ u in
        let b = neither _ _ v in
        still s (after g s (Spill x)) i (frozen_is g s x i) refl refl (λ f. record {
          differ = f.differ;
          apart = f.apart;
          test = still_fails s (after g s (Spill x)) _ _ (keeps_spilled x _ a.0 a.1) (keeps_spilled x _ b.0 b.1)
              (λ z l r p h. h) (λ z l r p h. h) f.test;
        }) e
    by_step (Coalesce i0 kept gone b) i c e u v =
        let a = away i0 kept gone b _ u in
        let d = away i0 kept gone b _ v in
        let p = same_class i0 kept gone b (to g s i) a in
        let q = same_class i0 kept gone b (from g s i) d in
        still s (after g s (Coalesce i0 kept gone b)) i (settled_at g s i0 i Coalesced refl) p q
        (still_merged i0 kept gone b _ _ (subst (IsAway i0 kept gone b) p a) (subst (IsAway i0 kept gone b) q d)) e
    by_step (Same i0) i c e u v =
        still s (after g s (Same i0)) i (settled_at g s i0 i Coalesced refl) refl refl
        (λ f. record { differ = f.differ; apart = f.apart; test = f.test }) e
    by_step (Constrain i0) i c e u v =
        still s (after g s (Constrain i0)) i (settled_at g s i0 i Constrained refl) refl refl
        (λ f. record { differ = f.differ; apart = f.apart; test = f.test }) e
    by_step (Freeze x) i c e u v =
        still s (after g s (Freeze x)) i (frozen_is g s x i) refl refl
        (λ f. record { differ = f.differ; apart = f.apart; test = f.test }) e

pub waiting_fails : WaitingFails
waiting_fails g s step i symmetric c e u v = by_step g s symmetric step i c e u v

-- What is woken is disturbed.
module _ (g : Problem) (s : RoundState) (symmetric : IsSymmetric s.pairs) where
  -- a step by which nodes lose no neighbour but this one
  record LosesOnly (step : Step) (x : ℕ) : Type 0 where
    rest : (z w : ℕ) → w ≢ x → s.remaining w ≡ true → s.pairs z w ≡ true →
        (neighbours g.graph.nodes (after g s step).remaining (after g s step).pairs z w) ≡ true

  -- so a node that turns low is a neighbour of it
  turned_is : (step : Step) (x : ℕ) → LosesOnly step x → (z : ℕ) → turns_low g s step z ≡ true → s.pairs x z ≡ true
  turned_is step x loses z h = ⊎_elim (λ e. e) (λ e. absurd (clash (still_low e) (not_true a.1))) (tells (s.pairs x z))
    where
      p : ((s.remaining z && (after g s step).remaining z && not (low g s z)) ≡ true) ×
          (low g (after g s step) z ≡ true)
      p = both (s.remaining z && (after g s step).remaining z && not (low g s z)) (low g (after g s step) z) h

      a : ((s.remaining z && (after g s step).remaining z) ≡ true) × (not (low g s z) ≡ true)
      a = both (s.remaining z && (after g s step).remaining z) (not (low g s z)) p.0

      still_low : s.pairs x z ≡ false → low g s z ≡ true
      still_low e =
          let b = both _ _ p.1 in
          let few = ltb-true (degree g.graph.nodes (after g s step).remaining (after g s step).pairs z) colour_count b.1
          in
          let least = count_le (neighbours g.graph.nodes s.remaining s.pairs z)
          (neighbours g.graph.nodes (after g s step).remaining (after g s step).pairs z) g.graph.nodes
          (λ w l t. let q = both (s.remaining w) (s.pairs z w) t in
          loses.rest z w (λ d. clash (symmetric x z ∙ subst (λ v. s.pairs z v ≡ true) d q.1) e) q.0 q.1) in
          and_true b.0 (lt-ltb (degree g.graph.nodes s.remaining s.pairs z) colour_count (omega arith))

  turned_near : (step : Step) (x y : ℕ) → LosesOnly step x → is_by_turned g s step y ≡ true → is_near g s x y ≡ true
  turned_near step x y loses h =
      let found = (some_is (λ z. turns_low g s step z && s.pairs z y) g.graph.nodes).0 h in
      let z = found.0 in
      let p = both (turns_low g s step z) (s.pairs z y) found.2 in
      let a = both (s.remaining z && (after g s step).remaining z && not (low g s z)) (low g (after g s step) z) p.0 in
      let r = both (s.remaining z) _ (both (s.remaining z && (after g s step).remaining z) _ a.0).0 in
      or_right (s.pairs x y) _
      ((some_is (λ z. s.remaining z && not (is_register z) && s.pairs x z && s.pairs z y) g.graph.nodes).1
      (z, found.1, and_true (and_true (and_true r.0 (both _ _ a.1).0) (turned_is step x loses z p.0)) p.1))

  kept_apart : (x w : ℕ) → w ≢ x → not (w == x) ≡ true
  kept_apart x w d = from_false (never (λ h. d (same_node w x h)))

  loses_simplified : (x : ℕ) → LosesOnly (Simplify x) x
  loses_simplified x = record { rest = λ z w d r p. and_true (and_true (kept_apart x w d) r) p }

  loses_spilled : (x : ℕ) → LosesOnly (Spill x) x
  loses_spilled x = record { rest = λ z w d r p. and_true (and_true (kept_apart x w d) r) p }

  loses_merged : (i kept gone : ℕ) (b : Bool) → LosesOnly (Coalesce i kept gone b) gone
  loses_merged i kept gone b =
      record { rest = λ z w d r p. and_true (and_true (kept_apart gone w d) r) (or_left _ _ (or_left _ _ p)) }

  woken_disturbed : (step : Step) (y : ℕ) → is_woken g s step y ≡ true → is_disturbed g s step y ≡ true
  woken_disturbed (Simplify x) y h = turned_near (Simplify x) x y (loses_simplified x) h
  woken_disturbed (Spill x) y h =
      ⊎_elim (λ p. or_left (s.pairs x y) _ p) (λ p. turned_near (Spill x) x y (loses_spilled x) p)
      (either (s.pairs x y) _ h)
  woken_disturbed (Coalesce i kept gone b) y h =
      or_left ((y == kept) || is_near g s gone y) _
      (⊎_elim (λ p. ⊎_elim (λ q. or_left (y == kept) _ q)
      (λ q. or_right (y == kept) _ (or_left (s.pairs gone y) _ q)) (either (y == kept) (s.pairs gone y) p))
      (λ p. or_right (y == kept) _ (turned_near (Coalesce i kept gone b) gone y (loses_merged i kept gone b) p))
      (either (y == kept || s.pairs gone y) _ h))
  woken_disturbed (Same i) y h = h
  woken_disturbed (Constrain i) y h = h
  woken_disturbed (Freeze x) y h = h

pub woken_are_disturbed : WokenAreDisturbed
woken_are_disturbed g s step y symmetric c h = woken_disturbed g s symmetric step y h
