-- Under which node a class stands: spilling made it only where it made all members.
use Rattle.std.proofs.Common.{◌≡◌, ℕ, ◌<◌, Bool, true, false, not, ◌&&◌, ◌||◌, ◌⊎◌, inl, inr, sym, subst, ◌∙◌}
use Rattle.std.proofs.Common.{⊎_elim}
use Rattle.std.specs.Prelude.{◌==◌, if◌then◌else◌}
use Rattle.tg_irc_definition.specs.declared.steps.Step.{Step}
use Rattle.tg_irc_definition.specs.declared.steps.Step.TheVariants.{Simplify, Same, Constrain, Coalesce, Freeze, Spill}
use Rattle.tg_irc_definition.specs.Graphs.{is_register}
use Rattle.tg_irc_definition.specs.States.{Problem, RoundState, start}
use Rattle.tg_irc_definition.specs.States.{facts_at, all_made}
use Rattle.tg_irc_definition.specs.Steps.{stands_under, can}
use Rattle.tg_irc_definition.specs.Steps.{after}
use Rattle.tg_irc_definition.proofs.Deciding.{clash, both, and_true, either, or_left, or_right, tells, never, not_true}
use Rattle.tg_irc_definition.proofs.Deciding.{from_false, same_node, same_test, every_is}
use Rattle.tg_irc_definition.specs.laws.Laws.{StandsWell, StandsByFacts}

module _ (g : Problem) where
  abbrev made : ℕ → Bool
  made x = (facts_at g (start g) x).made

  pub stands_at_start : StandsWell g (start g)
  stands_at_start = record { well = λ y l r h. h }

  all_made_is : (s : RoundState) (x y : ℕ) → all_made g s x ≡ true → y < g.graph.nodes → s.alias y ≡ x → made y ≡ true
  all_made_is s x y h l e =
      ⊎_elim (λ p. absurd (clash (same_test _ _ e) (not_true p))) (λ p. p)
      (either _ _ ((every_is (λ y. not (s.alias y == x) || made y) g.graph.nodes).0 h y l))

  of_stands : (s : RoundState) → StandsWell g s → (x : ℕ) → is_register x ≡ false → made x ≡ true → all_made g s x ≡ true
  of_stands s w x r m =
      (every_is (λ y. not (s.alias y == x) || made y) g.graph.nodes).1 (λ y l. by y l (tells (s.alias y == x)))
    where
      by : (y : ℕ) → y < g.graph.nodes → ((s.alias y == x) ≡ true) ⊎ ((s.alias y == x) ≡ false) →
          (not (s.alias y == x) || made y) ≡ true
      by y l (inl e) =
          let d = same_node _ _ e in
          or_right _ _ (w.well y l (subst (λ z. is_register z ≡ false) (sym d) r)
          (subst (λ z. made z ≡ true) (sym d) m))
      by y l (inr e) = or_left _ _ (from_false e)

  stands_merged : (s : RoundState) (i kept gone : ℕ) (b : Bool) → StandsWell g s → stands_under g s kept gone ≡ true →
      StandsWell g (after g s (Coalesce i kept gone b))
  stands_merged s i kept gone b w u = record { well = λ y l r h. by y l (tells (s.alias y == gone)) r h }
    where
      class' : ℕ → Bool → ℕ
      class' y t = if t then kept else s.alias y

      at_gone : (y : ℕ) → y < g.graph.nodes → s.alias y ≡ gone → is_register kept ≡ false → made kept ≡ true →
          made y ≡ true
      at_gone y l e r h =
          ⊎_elim (λ p. absurd (clash p r))
          (λ p. ⊎_elim (λ q. absurd (clash h (not_true q))) (λ q. all_made_is s gone y (both _ _ q).1 l e)
          (either _ _ (both _ _ p).1)) (either (is_register kept) _ u)

      by : (y : ℕ) → y < g.graph.nodes → ((s.alias y == gone) ≡ true) ⊎ ((s.alias y == gone) ≡ false) →
          is_register (if s.alias y == gone then kept else s.alias y) ≡ false →
          made (if s.alias y == gone then kept else s.alias y) ≡ true → made y ≡ true
      by y l (inl e) r h =
          at_gone y l (same_node _ _ e) (subst (λ t. is_register (if t then kept else s.alias y) ≡ false) e r)
          (subst (λ t. made (if t then kept else s.alias y) ≡ true) e h)
      by y l (inr e) r h =
          w.well y l (subst (λ t. is_register (if t then kept else s.alias y) ≡ false) e r)
          (subst (λ t. made (if t then kept else s.alias y) ≡ true) e h)

  pub stands_after : (s : RoundState) (step : Step) → StandsWell g s → can g s step ≡ true → StandsWell g (after g s step)
  stands_after s (Coalesce i kept gone b) w c = stands_merged s i kept gone b w (both _ _ (both _ _ c).0).1
  stands_after s (Simplify x) w c = record { well = w.well }
  stands_after s (Same i) w c = record { well = w.well }
  stands_after s (Constrain i) w c = record { well = w.well }
  stands_after s (Freeze x) w c = record { well = w.well }
  stands_after s (Spill x) w c = record { well = w.well }

  all_made_by_facts : (s : RoundState) → StandsWell g s → (x : ℕ) → x < g.graph.nodes → s.alias x ≡ x →
      is_register x ≡ false → all_made g s x ≡ made x
  all_made_by_facts s w x l own r = by (tells (made x))
    where
      by : (made x ≡ true) ⊎ (made x ≡ false) → all_made g s x ≡ made x
      by (inl e) = of_stands s w x r e ∙ sym e
      by (inr e) = never (λ h. clash (all_made_is s x x h l own) e) ∙ sym e

  -- one of two classes that aren't both registers may be kept
  pub stands_either : (s : RoundState) → StandsWell g s → (x y : ℕ) → (is_register x && is_register y) ≡ false →
      (stands_under g s x y ≡ true) ⊎ (stands_under g s y x ≡ true)
  stands_either s w x y h = by (tells (is_register x)) (tells (is_register y)) (tells (made x)) (tells (made y))
    where
      by : (is_register x ≡ true) ⊎ (is_register x ≡ false) → (is_register y ≡ true) ⊎ (is_register y ≡ false) →
          (made x ≡ true) ⊎ (made x ≡ false) → (made y ≡ true) ⊎ (made y ≡ false) → (stands_under g s x y ≡ true) ⊎
          (stands_under g s y x ≡ true)
      by (inl a) b c d = inl (or_left _ _ a)
      by (inr a) (inl b) c d = inr (or_left _ _ b)
      by (inr a) (inr b) (inr c) d = inl (or_right _ _ (and_true (from_false b) (or_left _ _ (from_false c))))
      by (inr a) (inr b) (inl c) (inr d) = inr (or_right _ _ (and_true (from_false a) (or_left _ _ (from_false d))))
      by (inr a) (inr b) (inl c) (inl d) =
          inl (or_right _ _ (and_true (from_false b)
          (or_right _ _ (and_true (of_stands s w x a c) (of_stands s w y b d)))))

pub stands_by_facts : StandsByFacts
stands_by_facts g s w x l own r = all_made_by_facts g s w x l own r
