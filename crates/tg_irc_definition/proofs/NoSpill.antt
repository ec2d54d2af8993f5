-- A round on a greedily colourable graph takes no Spill.
use Rattle.std.proofs.Common.{◌≡◌, ℕ, ◌<◌, Bool, true, false, not, ◌&&◌, ◌||◌, inl, inr, refl, arith, ⊎_elim, List, []}
use Rattle.std.proofs.Common.{◌∷◌}
use Rattle.std.specs.Prelude.{nat_lt, if◌then◌else◌}
use Rattle.std.specs.List.{list_any}
use Rattle.std.proofs.lemmas.Bool.{ltb-true, lt-ltb}
use Rattle.tg_irc_definition.specs.declared.steps.Step.{Step}
use Rattle.tg_irc_definition.specs.declared.steps.Step.TheVariants.{Simplify, Same, Constrain, Coalesce, Freeze, Spill}
use Rattle.tg_irc_definition.specs.Graphs.{colour_count, is_register, without, IsGreedilyColourable}
use Rattle.tg_irc_definition.specs.States.{Problem, RoundState, low, remains, is_move_related}
use Rattle.tg_irc_definition.specs.Steps.{briggs, george, can, after, IsTaken, AreTaken}
use Rattle.tg_irc_definition.specs.laws.Laws.{is_spill, IsSound}
use Rattle.tg_irc_definition.proofs.Deciding.{clash, both, and_true, either, tells, never, not_true, from_false, or_false}
use Rattle.tg_irc_definition.proofs.Deciding.{every_is}
use Rattle.tg_irc_definition.proofs.Counting.{was_in}
use Rattle.tg_irc_definition.proofs.Invariants.{Merges, merges, sound_after}
use Rattle.tg_irc_definition.proofs.GreedyColouring.{part, stuck, by_george, by_briggs}

module _ (g : Problem) where
  -- a state whose graph is greedily colourable
  abbrev pub IsColourable : RoundState → Type 0
  IsColourable s = IsGreedilyColourable g.graph.nodes s.pairs s.remaining

  colourable_merged : (s : RoundState) (j kept gone : ℕ) (b : Bool) → IsSound g s → IsColourable s → Merges g s kept gone →
      IsColourable (after g s (Coalesce j kept gone b))
  colourable_merged s j kept gone b k r m = by (is_register kept) refl (is_register gone) m.gone_temporary m.test
    where
      n : ℕ
      n = g.graph.nodes

      by : (a : Bool) → is_register kept ≡ a → (t : Bool) → t ≡ false →
          (if a then george g s kept gone else if t then george g s gone kept else briggs g s kept gone) ≡ true →
          IsColourable (after g s (Coalesce j kept gone b))
      by true e t f h =
          by_george g.graph.nodes s.pairs s.remaining r kept gone k.symmetric m.kept_in m.gone_in m.kept_node
          m.gone_node m.differ (k.irreflexive kept) m.no_pair
          (λ z l i p. let q = (every_is _ g.graph.nodes).0 h z l in
          ⊎_elim (λ a. ⊎_elim (λ b. absurd (clash (and_true i p) (not_true b))) (λ b. inl b)
          (either (not (s.remaining z && s.pairs gone z)) (s.pairs kept z) a)) (λ a. inr a)
          (either (not (s.remaining z && s.pairs gone z) || s.pairs kept z) (low g s z) q))
      by false e true f h = cc
      by false e false f h =
          by_briggs g.graph.nodes s.pairs s.remaining r kept gone k.symmetric m.kept_in m.gone_in m.kept_node
          m.gone_node m.differ (k.irreflexive kept) m.no_pair e (ltb-true _ colour_count h)

  colourable_after : (s : RoundState) (step : Step) → IsSound g s → IsColourable s → can g s step ≡ true →
      IsColourable (after g s step)
  colourable_after s (Simplify x) k r c =
      part g.graph.nodes s.pairs s.pairs (without x s.remaining) s.remaining r (λ y l t. (was_in x y s.remaining t).1)
      (λ y z ly lz ty tz t. t)
  colourable_after s (Spill x) k r c =
      part g.graph.nodes s.pairs s.pairs (without x s.remaining) s.remaining r (λ y l t. (was_in x y s.remaining t).1)
      (λ y z ly lz ty tz t. t)
  colourable_after s (Coalesce j kept gone b) k r c = colourable_merged s j kept gone b k r
      (merges g s j kept gone b k c)
  colourable_after s (Same j) k r c = r
  colourable_after s (Constrain j) k r c = r
  colourable_after s (Freeze x) k r c = r

  -- where a spill is taken no temporary is low, so the graph isn't colourable
  no_spill : (s : RoundState) (x : ℕ) → IsColourable s → IsTaken g s (Spill x) → ⊥
  no_spill s x r t =
      let p = (both (remains g s x) _ t.possible).0 in
      let q = both (nat_lt x g.graph.nodes && s.remaining x) (not (is_register x)) p in
      let o = both (nat_lt x g.graph.nodes) (s.remaining x) q.0 in
      clash (stuck g.graph.nodes s.pairs s.remaining r none_low x (ltb-true x g.graph.nodes o.0) o.1) (not_true q.1)
    where
      none_low : (y : ℕ) → y < g.graph.nodes → s.remaining y ≡ true → low g s y ≡ false
      none_low y l i =
          never (λ h. let y_remains : remains g s y ≡ true = and_true (and_true (lt-ltb y g.graph.nodes l) i)
          (both (not (is_register y)) _ h).0 in
          ⊎_elim (λ m. clash (and_true (and_true y_remains h) m) (t.first (Freeze y) (omega arith)))
          (λ m. clash (and_true (and_true y_remains h) (from_false m)) (t.first (Simplify y) (omega arith)))
          (tells (is_move_related g s y)))

  pub none_spilled : (s : RoundState) (steps : List Step) → IsSound g s → IsColourable s → AreTaken g s steps →
      list_any is_spill steps ≡ false
  none_spilled s [] k r t = refl
  none_spilled s (step ∷ steps) k r t =
      or_false (no_such step t.0)
      (none_spilled (after g s step) steps (sound_after g s step k t.0.possible)
      (colourable_after s step k r t.0.possible) t.1)
    where
      no_such : (step : Step) → IsTaken g s step → is_spill step ≡ false
      no_such (Spill x) t = absurd (no_spill s x r t)
      no_such (Simplify x) t = refl
      no_such (Same j) t = refl
      no_such (Constrain j) t = refl
      no_such (Coalesce j kept gone b) t = refl
      no_such (Freeze x) t = refl
