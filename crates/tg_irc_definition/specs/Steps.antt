-- The steps of a round of iterated register coalescing (George and Appel 1996, section 4): when
-- each is possible, what it makes of the state, and which goes before which.
use Rattle.std.specs.Prelude.{ℕ, ◌+◌, ◌-◌, ◌<◌, ◌==◌, nat_lt}
use Rattle.std.specs.Prelude.{Bool, not, ◌&&◌, ◌||◌, if◌then◌else◌, IsTrue, IsFalse}
use Rattle.std.specs.Prelude.{List, [], ◌∷◌, length, map, filter, fold, sum_by}
use Rattle.std.specs.List.{range_with_len}
use Rattle.std.specs.Bool.{beq}
use Rattle.tg_irc_definition.specs.declared.candidates.Candidate.{Candidate}
use Rattle.tg_irc_definition.specs.declared.steps.Step.{Step}
use Rattle.tg_irc_definition.specs.declared.steps.Step.TheVariants.{Simplify, Same, Constrain}
use Rattle.tg_irc_definition.specs.declared.steps.Step.TheVariants.{Coalesce}
use Rattle.tg_irc_definition.specs.declared.steps.Step.TheVariants.{Freeze, Spill}
use Rattle.tg_irc_definition.specs.declared.moves.MoveState.{MoveState}
use Rattle.tg_irc_definition.specs.declared.moves.MoveState.TheVariants.{Coalesced, Constrained}
use Rattle.tg_irc_definition.specs.declared.moves.MoveState.TheVariants.{Frozen}
use Rattle.tg_irc_definition.specs.Graphs.{colour_count, is_register, degree, without, merged}
use Rattle.tg_irc_definition.specs.Graphs.{Set, count, some, every}
use Rattle.tg_irc_definition.specs.Policies.{candidate_at}
use Rattle.tg_irc_definition.specs.States.{Problem, RoundState, remains, low, to, from}
use Rattle.tg_irc_definition.specs.States.{is_unsettled}
use Rattle.tg_irc_definition.specs.States.{touches}
use Rattle.tg_irc_definition.specs.States.{is_move_related, members, facts_at, all_made}

module _ (g : Problem) where
  module _ (s : RoundState) where
    -- Whether a move may be coalesced.

    -- the high neighbours of one node or of both
    abbrev pub high_neighbours : ℕ → ℕ → Set
    high_neighbours x y z = s.remaining z && (s.pairs x z || s.pairs y z) && not (low g s z)

    -- Briggs's test: these are fewer than there are colours
    abbrev pub briggs : ℕ → ℕ → Bool
    briggs x y = nat_lt (count (high_neighbours x y) g.graph.nodes) colour_count

    -- no neighbour of the temporary, or one that interferes with the register or is low
    abbrev pub allows : (register temp : ℕ) → Set
    allows r t z = not (s.remaining z && s.pairs t z) || s.pairs r z || low g s z

    -- George's test: this is so of each node
    abbrev pub george : (register temp : ℕ) → Bool
    george r t = every (allows r t) g.graph.nodes

    abbrev pub passes : ℕ → ℕ → Bool
    passes x y =
        if is_register x then george x y else if is_register y then george y x else briggs x y

    abbrev pub is_same : ℕ → Bool
    is_same i = to g s i == from g s i

    abbrev pub is_constrained : ℕ → Bool
    is_constrained i =
        not (is_same i) &&
        (s.pairs (to g s i) (from g s i) || (is_register (to g s i) && is_register (from g s i)))

    abbrev pub is_safe : ℕ → Bool
    is_safe i = not (is_same i) && not (is_constrained i) && passes (to g s i) (from g s i)

    -- one of the steps that settle a move by itself is possible
    abbrev pub can_move : ℕ → Bool
    can_move i = is_unsettled g s i && (is_same i || is_constrained i || is_safe i)

    -- a merged class stands under its register where it has one, else under an original temporary
    -- where it has one
    abbrev pub stands_under : (kept gone : ℕ) → Bool
    stands_under kept gone =
        is_register kept ||
        (not (is_register gone) &&
        (not (facts_at g s kept).made || (all_made g s kept && all_made g s gone)))

    -- Which class may be spilled.

    abbrev pub candidate : ℕ → Candidate
    candidate x = record {
      temp = x - colour_count;
      degree = degree g.graph.nodes s.remaining s.pairs x;
      uses = sum_by (λ y. (facts_at g s y).uses) (members g s x);
      made = all_made g s x;
    }

    -- the remaining classes of temporaries, in rising order
    abbrev pub candidates : List Candidate
    candidates = map candidate (filter (remains g s) (range_with_len 0 g.graph.nodes))

    -- the class stands at this place of the candidates, and the rule allows the place
    abbrev pub is_allowed : (x place : ℕ) → Bool
    is_allowed x place =
        (candidate_at candidates place).temp + colour_count == x && g.rule candidates place

    -- When a step is possible, but for steps of other kinds.
    abbrev pub can : Step → Bool
    can (Simplify x) = remains g s x && low g s x && not (is_move_related g s x)
    can (Same i) = is_unsettled g s i && is_same i
    can (Constrain i) = is_unsettled g s i && is_constrained i
    can (Coalesce i kept gone by_briggs) =
        is_unsettled g s i && is_safe i &&
        ((to g s i == kept && from g s i == gone) || (to g s i == gone && from g s i == kept)) &&
        stands_under kept gone &&
        beq by_briggs (not (is_register kept || is_register gone))
    can (Freeze x) = remains g s x && low g s x && is_move_related g s x
    can (Spill x) = remains g s x && some (is_allowed x) (length candidates)

    -- What steps make of the state.

    abbrev pub settle : ℕ → MoveState → RoundState
    settle i state = record s { states = λ j. if j == i then state else s.states j }

    abbrev pub freeze : ℕ → RoundState
    freeze x = record s { states = λ i. if touches g s x i then Frozen else s.states i }

    abbrev pub merge : (kept gone : ℕ) → RoundState
    merge kept gone = record s {
      remaining = without gone s.remaining;
      pairs = merged kept gone s.pairs;
      alias = λ x. if s.alias x == gone then kept else s.alias x;
    }

    abbrev pub take_out : ℕ → RoundState
    take_out x = record s { remaining = without x s.remaining; stack = x ∷ s.stack }

  abbrev pub after : RoundState → Step → RoundState
  after s (Simplify x) = take_out s x
  after s (Same i) = settle s i Coalesced
  after s (Constrain i) = settle s i Constrained
  after s (Coalesce i kept gone _) = merge (settle s i Coalesced) kept gone
  after s (Freeze x) = freeze s x
  after s (Spill x) = take_out (freeze s x) x

  -- the kinds of steps, in their order
  abbrev pub kind : Step → ℕ
  kind (Simplify _) = 0
  kind (Same _) = 1
  kind (Constrain _) = 1
  kind (Coalesce _ _ _ _) = 1
  kind (Freeze _) = 2
  kind (Spill _) = 3

  -- a step is taken only where no step of an earlier kind is possible
  pub record IsTaken (s : RoundState) (step : Step) : Type 0 where
    pub possible : IsTrue (can s step)
    pub first : (other : Step) → kind other < kind step → IsFalse (can s other)

  abbrev pub AreTaken : RoundState → List Step → Type 0
  AreTaken s [] = Unit {0}
  AreTaken s (step ∷ steps) = IsTaken s step × AreTaken (after s step) steps

  abbrev pub after_all : RoundState → List Step → RoundState
  after_all s steps = fold after s steps

  -- no temporary remains and no move is unsettled
  abbrev pub is_over : RoundState → Bool
  is_over s =
      not (some (remains g s) g.graph.nodes || some (is_unsettled g s) (length g.moves))
