-- The class of two stands where the code puts it as the definition asks.
use Rattle.std.proofs.Common.{◌≡◌, ℕ, ◌<◌, Bool, true, false, not, ◌&&◌, ◌||◌, ◌⊎◌, inl, inr, List, [], ◌∷◌}
use Rattle.std.proofs.Common.{refl, sym, subst, ◌∙◌, ⊎_elim}
use Rattle.std.specs.Prelude.{if◌then◌else◌}
use Rattle.std.specs.Bool.{beq}
use Rattle.tg_irc_definition.specs.declared.steps.Step.{Step}
use Rattle.tg_irc_definition.specs.Graphs.{is_register}
use Rattle.tg_irc_definition.specs.States.{Problem, RoundState, start, facts_at, all_made}
use Rattle.tg_irc_definition.specs.Steps.{after, after_all, AreTaken, stands_under}
use Rattle.tg_irc_definition.specs.laws.Laws.{StandsWell}
use Rattle.tg_irc_definition.proofs.Deciding.{clash, and_true, or_left, or_right, from_false, tells}
use Rattle.tg_irc_definition.proofs.Standing.{stands_at_start, stands_after, stands_by_facts}
use Rattle.tg_coalescing_round.specs.glue.Groupings.{is_made}
use Rattle.tg_coalescing_round.specs.glue.Works.{Work, is_left}
use Rattle.tg_coalescing_round.specs.glue.Standing.{state_of, IsOrderly, IsRunOf}
use Rattle.tg_coalescing_round.proofs.AdvancingRuns.{own_alias, own_class}

stands_all : (g : Problem) (s : RoundState) (steps : List Step) → StandsWell g s → AreTaken g s steps →
    StandsWell g (after_all g s steps)
stands_all g s [] h t = h
stands_all g s (step ∷ steps) h t = stands_all g (after g s step) steps (stands_after g s step h t.0.possible) t.1

-- the first of two is a register, or holds an original where the second does
abbrev pub Leads : (register made other_made : Bool) → Type 0
Leads r m n = (r ≡ true) ⊎ ((m ≡ false) ⊎ ((m ≡ true) × (n ≡ true)))

abbrev chosen : (rx ry mx my less : Bool) → Bool
chosen rx ry mx my less = if rx || ry then rx else if beq mx my then not less else my

pub first_leads : (rx ry mx my less : Bool) → (rx && ry) ≡ false → chosen rx ry mx my less ≡ true →
    (ry ≡ false) × Leads rx mx my
first_leads true true mx my less a e = cc
first_leads true false mx my less a e = (refl, inl refl)
first_leads false true mx my less a e = cc
first_leads false false true true less a e = (refl, inr (inr (refl, refl)))
first_leads false false true false less a e = cc
first_leads false false false my less a e = (refl, inr (inl refl))

pub second_leads : (rx ry mx my less : Bool) → (rx && ry) ≡ false → chosen rx ry mx my less ≡ false →
    (rx ≡ false) × Leads ry my mx
second_leads true true mx my less a e = cc
second_leads true false mx my less a e = cc
second_leads false true mx my less a e = (refl, inl refl)
second_leads false false true true less a e = (refl, inr (inr (refl, refl)))
second_leads false false false true less a e = cc
second_leads false false mx false less a e = (refl, inr (inl refl))

module _ (g : Problem) (w : Work) (h : IsOrderly w) (run : IsRunOf g w) (kept gone : ℕ) (l : kept < w.graph.nodes)
    (m : gone < w.graph.nodes) (kept_left : is_left w.lists kept ≡ true) (gone_left : is_left w.lists gone ≡ true) where
  made_told : (z : ℕ) → z < w.graph.nodes → is_left w.lists z ≡ true →
      is_made w.classes z ≡ all_made g (state_of w) z
  made_told z b e =
      run.made z b (own_class g w run h.sized z b e)

  well : StandsWell g (state_of w)
  well = subst (λ t. StandsWell g t) (sym run.state)
      (stands_all g (start g) w.steps (stands_at_start g) run.steps)

  facts_told : is_register kept ≡ false → all_made g (state_of w) kept ≡ (facts_at g (state_of w) kept).made
  facts_told r =
      stands_by_facts g (state_of w) well kept (subst (λ n. kept < n) run.nodes l) (own_alias g w run kept l kept_left) r

  pub stands_told : is_register gone ≡ false → Leads (is_register kept) (is_made w.classes kept) (is_made w.classes gone) →
      stands_under g (state_of w) kept gone ≡ true
  stands_told temporary leads =
      ⊎_elim
      (λ (r : is_register kept ≡ true). or_left (is_register kept) _ r)
      (λ (r : is_register kept ≡ false).
      or_right (is_register kept) _ (and_true (from_false temporary) (⊎_elim
      (λ (q : is_register kept ≡ true). absurd (clash q r))
      (λ q. ⊎_elim
      (λ (u : is_made w.classes kept ≡ false).
      or_left _ _ (from_false (sym (facts_told r) ∙ (sym (made_told kept l kept_left) ∙ u))))
      (λ (u : (is_made w.classes kept ≡ true) × (is_made w.classes gone ≡ true)).
      or_right _ _ (and_true (sym (made_told kept l kept_left) ∙ u.0) (sym (made_told gone m gone_left) ∙ u.1))) q)
      leads)))
      (tells (is_register kept))
