-- How a run goes on where the work does.
use Rattle.std.proofs.Common.{◌≡◌, ℕ, ◌<◌, true, [], ◌∷◌, ◌++◌, get_or, sym, ap, subst, ◌∙◌}
use Rattle.std.specs.Prelude.{sum_by}
use Rattle.std.proofs.lemmas.List.{get_or_default}
use Rattle.tg_irc_definition.specs.declared.steps.Step.{Step}
use Rattle.tg_irc_definition.specs.States.{Problem, RoundState, start, members, facts_at, all_made}
use Rattle.tg_irc_definition.specs.Steps.{after, after_all, IsTaken, AreTaken}
use Rattle.tg_irc_definition.proofs.Classes.{Holds, holds_from_start}
use Rattle.tg_irc_definition.proofs.Running.{runs_go_on}
use Rattle.tg_coalescing_round.specs.glue.Groupings.{Grouping, is_made}
use Rattle.tg_coalescing_round.specs.glue.Works.{Work, alias_of, is_left}
use Rattle.tg_coalescing_round.specs.glue.Standing.{state_of, IsSized, IsRunOf}
use Rattle.tg_coalescing_round.proofs.AdvancingOrder.{left_remains}

module _ (g : Problem) (w : Work) (run : IsRunOf g w) where
  pub holds : Holds g (state_of w)
  holds =
      subst (λ s. Holds g s) (sym run.state)
      (holds_from_start g run.graph run.ends w.steps run.steps)

  -- a node that remains stands under itself
  pub own_alias : (z : ℕ) → z < w.graph.nodes → is_left w.lists z ≡ true → (state_of w).alias z ≡ z
  own_alias z b e =
      holds.classes.remaining_is_own z (subst (λ n. z < n) run.nodes b) (left_remains w z b e)

  pub own_class : IsSized w → (z : ℕ) → z < w.graph.nodes → is_left w.lists z ≡ true → alias_of w z ≡ z
  own_class sized z b e =
      get_or_default w.classes.aliases z 0 z (subst (λ n. z < n) (sym sized.classes) b) ∙ own_alias z b e

  -- one step more is taken
  module _ (v : Work) (step : Step) (taken : IsTaken g (state_of w) step) (steps : v.steps ≡ w.steps ++ step ∷ [])
      (state : state_of v ≡ after g (state_of w) step) where
    on : AreTaken g (start g) (w.steps ++ step ∷ []) ×
        (after_all g (start g) (w.steps ++ step ∷ []) ≡ after g (after_all g (start g) w.steps) step)
    on = runs_go_on g (start g) w.steps step run.steps (subst (λ s. IsTaken g s step) run.state taken)

    pub steps_on : AreTaken g (start g) v.steps
    steps_on = subst (λ steps. AreTaken g (start g) steps) (sym steps) on.0

    pub state_on : state_of v ≡ after_all g (start g) v.steps
    state_on =
        state ∙ (ap (λ s. after g s step) run.state
        ∙ (sym on.1 ∙ ap (λ steps. after_all g (start g) steps) (sym steps)))

    -- where the classes stay
    pub goes_on : v.graph.nodes ≡ w.graph.nodes → v.moves.moves ≡ w.moves.moves → v.classes ≡ w.classes → IsRunOf g v
    goes_on nodes moves classes = record {
      graph = run.graph;
      ends = run.ends;
      nodes = nodes ∙ run.nodes;
      moves = moves ∙ run.moves;
      steps = steps_on;
      state = state_on;
      uses = λ x l. subst (Used x) (sym classes) (run.uses x (subst (λ n. x < n) nodes l));
      made = λ x l. subst (Made x) (sym classes) (run.made x (subst (λ n. x < n) nodes l));
    }
      where
        with_classes : Grouping → RoundState
        with_classes c = record (state_of w) { alias = λ y. get_or c.aliases y y }

        Used : ℕ → Grouping → Type 0
        Used x c =
            get_or c.uses x 0 ≡ sum_by (λ y. (facts_at g (with_classes c) y).uses) (members g (with_classes c) x)

        Made : ℕ → Grouping → Type 0
        Made x c = get_or c.aliases x 0 ≡ x → is_made c x ≡ all_made g (with_classes c) x
