-- What holds of every round beside its steps (George and Appel 1996, section 4): a greedily
-- colourable graph loses nothing to memory, a move whose ends have two colours had to stay, nodes
-- that interfere have two colours, and a round ends.
use Rattle.std.specs.Prelude.{◌≡◌, ◌≢◌, ◌+◌, ◌<◌, ◌≤◌, ◌⊎◌, ℕ, nat_lt, ◌==◌}
use Rattle.std.specs.Prelude.{Bool, true, false, IsTrue, IsFalse, List, [], ◌∷◌, ◌++◌, length, All}
use Rattle.std.specs.Prelude.{Some, slice_get}
use Rattle.std.specs.List.{list_any}
use Rattle.tg_irc_definition.specs.declared.moves.Move.{Move}
use Rattle.tg_irc_definition.specs.declared.moves.MoveState.TheVariants.{Constrained, Frozen}
use Rattle.tg_irc_definition.specs.declared.steps.Step.{Step}
use Rattle.tg_irc_definition.specs.declared.steps.Step.TheVariants.{Simplify, Freeze, Spill}
use Rattle.tg_irc_definition.specs.declared.rounds.Round.{Round}
use Rattle.tg_irc_definition.specs.Graphs.{count, colour_count, IsGraph, IsGreedilyColourable}
use Rattle.tg_irc_definition.specs.Graphs.{is_register}
use Rattle.tg_irc_definition.specs.States.{Problem, RoundState, start, remains, is_unsettled, to}
use Rattle.tg_irc_definition.specs.States.{from}
use Rattle.tg_irc_definition.specs.States.{facts_at}
use Rattle.tg_irc_definition.specs.States.{all_made}
use Rattle.tg_irc_definition.specs.Steps.{can, can_move, after, after_all, kind, IsTaken, AreTaken}
use Rattle.tg_irc_definition.specs.Steps.{is_over}
use Rattle.tg_irc_definition.specs.Rounds.{IsRound}

-- the ends of the moves are nodes
abbrev pub AreNodes : Problem → Type 0
AreNodes g = All (λ m. (m.to < g.graph.nodes) × (m.from < g.graph.nodes)) g.moves

-- what holds of every round on a graph between whose nodes the moves go
abbrev pub OfEachRound : (Problem → Round → Type 0) → Type 0
OfEachRound P =
    (g : Problem) (round : Round) → IsGraph g.graph → AreNodes g → IsRound g round → P g round

-- what each step keeps
abbrev pub StepsKeep : (Problem → RoundState → Type 0) → Type 0
StepsKeep P =
    (g : Problem) (s : RoundState) (step : Step) →
    P g s →
    IsTrue (can g s step) →
    P g (after g s step)

-- Spills.

abbrev pub is_spill : Step → Bool
is_spill (Spill x) = true
is_spill _ = false

pub record SpillsNothing (round : Round) : Type 0 where
  pub steps : list_any is_spill round.steps ≡ false
  pub spilled : round.spilled ≡ []

-- where the graph is greedily colourable, no step is a spill and nothing is spilled
abbrev pub ColourableNeverSpills : Type 0
ColourableNeverSpills =
    (g : Problem) (round : Round) →
    IsGraph g.graph →
    AreNodes g →
    IsGreedilyColourable g.graph.nodes g.graph.pairs (λ x. nat_lt x g.graph.nodes) →
    IsRound g round →
    SpillsNothing round

-- Moves.

-- among these steps one froze the move when no Simplify was possible and every unsettled move
-- failed its test
pub record IsFrozenAtLast (g : Problem) (s : RoundState) (steps : List Step) (i : ℕ) : Type 0 where
  pub earlier : List Step
  pub step : Step
  pub later : List Step
  pub whole : steps ≡ earlier ++ step ∷ later
  pub unsettled_before : IsTrue (is_unsettled g (after_all g s earlier) i)
  pub frozen_after : (after g (after_all g s earlier) step).states i ≡ Frozen
  pub no_simplify : (x : ℕ) → IsFalse (can g (after_all g s earlier) (Simplify x))
  pub no_move : (j : ℕ) → IsFalse (can_move g (after_all g s earlier) j)

-- a move whose ends have two colours was constrained or frozen so
abbrev pub MovesAreExplained : Type 0
MovesAreExplained =
    (g : Problem) (round : Round) →
    AreNodes g →
    IsRound g round →
    (i a b : ℕ) (m : Move) →
    slice_get g.moves i ≡ Some m →
    slice_get round.colours m.to ≡ Some (Some a) →
    slice_get round.colours m.from ≡ Some (Some b) →
    a ≢ b →
    (slice_get round.states i ≡ Some Constrained) ⊎ IsFrozenAtLast g (start g) round.steps i

-- Colours.

-- two nodes that interfere have two colours, where both have one
abbrev pub ColoursDiffer : Type 0
ColoursDiffer =
    OfEachRound
    (λ g round.
    (x y a b : ℕ) →
    x < g.graph.nodes →
    y < g.graph.nodes →
    IsTrue (g.graph.pairs x y) →
    slice_get round.colours x ≡ Some (Some a) →
    slice_get round.colours y ≡ Some (Some b) →
    a ≢ b)

-- a register has its own colour
abbrev pub RegistersAreColoured : Type 0
RegistersAreColoured =
    OfEachRound
    (λ g round.
    (x : ℕ) →
    x < g.graph.nodes →
    IsTrue (is_register x) →
    slice_get round.colours x ≡ Some (Some x))

abbrev pub ColoursAreRegisters : Type 0
ColoursAreRegisters =
    (g : Problem) (round : Round) →
    IsRound g round →
    (x a : ℕ) →
    x < g.graph.nodes →
    slice_get round.colours x ≡ Some (Some a) →
    IsTrue (is_register a)

-- where nothing is spilled, each node has a colour
abbrev pub EachIsColoured : Type 0
EachIsColoured =
    OfEachRound
    (λ g round.
    round.spilled ≡ [] →
    (x : ℕ) →
    x < g.graph.nodes →
    (a : ℕ) × (slice_get round.colours x ≡ Some (Some a)))

-- Steps.

-- the temporaries that remain and the unsettled moves
abbrev pub work_left : Problem → RoundState → ℕ
work_left g s = count (remains g s) g.graph.nodes + count (is_unsettled g s) (length g.moves)

-- each step leaves less to do, so a round ends
abbrev pub StepsShrink : Type 0
StepsShrink =
    (g : Problem) (s : RoundState) (step : Step) →
    IsTrue (can g s step) →
    work_left g (after g s step) < work_left g s

-- a step that is possible is taken where no node, no move and no node again offers an earlier one
abbrev pub FirstAreTaken : Type 0
FirstAreTaken =
    (g : Problem) (s : RoundState) (step : Step) →
    IsTrue (can g s step) →
    (0 < kind g step → (x : ℕ) → IsFalse (can g s (Simplify x))) →
    (1 < kind g step → (i : ℕ) → IsFalse (can_move g s i)) →
    (2 < kind g step → (x : ℕ) → IsFalse (can g s (Freeze x))) →
    IsTaken g s step

-- a run goes on by a step that is taken where it came to
abbrev pub RunsGoOn : Type 0
RunsGoOn =
    (g : Problem) (s : RoundState) (steps : List Step) (step : Step) →
    AreTaken g s steps →
    IsTaken g (after_all g s steps) step →
    AreTaken g s (steps ++ step ∷ []) ×
    (after_all g s (steps ++ step ∷ []) ≡ after g (after_all g s steps) step)

-- States.

-- The pairs have no order, no node interferes with itself, and an unsettled move is between classes
-- that remain.
pub record IsSound (g : Problem) (s : RoundState) : Type 0 where
  pub symmetric : (x y : ℕ) → s.pairs x y ≡ s.pairs y x
  pub irreflexive : (x : ℕ) → IsFalse (s.pairs x x)
  pub to_remains :
      (i : ℕ) →
      IsTrue (is_unsettled g s i) →
      (to g s i < g.graph.nodes) × IsTrue (s.remaining (to g s i))
  pub from_remains :
      (i : ℕ) →
      IsTrue (is_unsettled g s i) →
      (from g s i < g.graph.nodes) × IsTrue (s.remaining (from g s i))

abbrev pub StartIsSound : Type 0
StartIsSound = (g : Problem) → IsGraph g.graph → AreNodes g → IsSound g (start g)

abbrev pub StepsKeepSound : Type 0
StepsKeepSound = StepsKeep IsSound

-- where no temporary remains and no move can be settled, the round is over
abbrev pub NothingLeftIsOver : Type 0
NothingLeftIsOver =
    (g : Problem) (s : RoundState) →
    IsSound g s →
    ((x : ℕ) → IsFalse (remains g s x)) →
    ((i : ℕ) → IsFalse (can_move g s i)) →
    IsTrue (is_over g s)

-- the node was taken out
abbrev pub is_stacked : RoundState → ℕ → Bool
is_stacked s x = list_any (λ y. y == x) s.stack

-- A node that remains stands under itself, as a register always does; each node stands under one
-- that remains or was taken out; and only temporaries are taken out.
pub record HasClasses (g : Problem) (s : RoundState) : Type 0 where
  pub remaining_is_own : (x : ℕ) → x < g.graph.nodes → IsTrue (s.remaining x) → s.alias x ≡ x
  pub register_remains :
      (x : ℕ) → x < g.graph.nodes → IsTrue (is_register x) → IsTrue (s.remaining x)
  pub alias_is_own : (x : ℕ) → s.alias (s.alias x) ≡ s.alias x
  pub alias_is_node : (x : ℕ) → x < g.graph.nodes → s.alias x < g.graph.nodes
  pub alias_is_placed :
      (x : ℕ) →
      x < g.graph.nodes →
      IsTrue (s.remaining (s.alias x)) ⊎ IsTrue (is_stacked s (s.alias x))
  pub stacked_is_gone : (x : ℕ) → IsTrue (is_stacked s x) → IsFalse (s.remaining x)
  pub stacked_is_temporary : (x : ℕ) → IsTrue (is_stacked s x) → IsFalse (is_register x)
  pub stacked_is_own : (x : ℕ) → IsTrue (is_stacked s x) → s.alias x ≡ x

abbrev pub StartHasClasses : Type 0
StartHasClasses = (g : Problem) → HasClasses g (start g)

abbrev pub StepsKeepClasses : Type 0
StepsKeepClasses =
    (g : Problem) (s : RoundState) (step : Step) →
    IsSound g s →
    HasClasses g s →
    IsTrue (can g s step) →
    HasClasses g (after g s step)

-- spilling made the temporary under which a class stands only where it made all members
pub record StandsWell (g : Problem) (s : RoundState) : Type 0 where
  pub well :
      (x : ℕ) →
      x < g.graph.nodes →
      IsFalse (is_register (s.alias x)) →
      IsTrue (facts_at g s (s.alias x)).made →
      IsTrue (facts_at g s x).made

abbrev pub StartStandsWell : Type 0
StartStandsWell = (g : Problem) → StandsWell g (start g)

abbrev pub StepsKeepStanding : Type 0
StepsKeepStanding = StepsKeep StandsWell

-- so the facts of that temporary say whether it made all
abbrev pub StandsByFacts : Type 0
StandsByFacts =
    (g : Problem) (s : RoundState) →
    StandsWell g s →
    (x : ℕ) →
    x < g.graph.nodes →
    s.alias x ≡ x →
    IsFalse (is_register x) →
    all_made g s x ≡ (facts_at g s x).made

-- The merged pairs are those of the start between classes: so colours may be chosen by either
-- graph.
pub record IsOfClasses (g : Problem) (s : RoundState) : Type 0 where
  pub keeps :
      (y z : ℕ) →
      y < g.graph.nodes →
      z < g.graph.nodes →
      IsTrue (g.graph.pairs y z) →
      IsTrue (s.pairs (s.alias y) (s.alias z))
  pub exact :
      (a b : ℕ) →
      a < g.graph.nodes →
      b < g.graph.nodes →
      IsTrue (s.pairs a b) →
      (y z : ℕ) × (y < g.graph.nodes) × (z < g.graph.nodes) ×
      (s.alias y ≡ s.alias a) × (s.alias z ≡ s.alias b) × IsTrue (g.graph.pairs y z)

abbrev pub PairsAreOfClasses : Type 0
PairsAreOfClasses =
    (g : Problem) (steps : List Step) →
    IsGraph g.graph →
    AreNodes g →
    AreTaken g (start g) steps →
    IsOfClasses g (after_all g (start g) steps)

-- Answers.

-- the node is that of a temporary
abbrev pub IsTemporary : Problem → ℕ → Type 0
IsTemporary g x = (colour_count ≤ x) × (x < g.graph.nodes)

-- what a round answers of nodes, and which nodes it answers
pub record IsOfNodes (g : Problem) (round : Round) : Type 0 where
  pub each_alias : length round.aliases ≡ g.graph.nodes
  pub each_colour : length round.colours ≡ g.graph.nodes
  pub aliases : All (λ x. x < g.graph.nodes) round.aliases
  pub spilled : All (IsTemporary g) round.spilled

abbrev pub RoundsAreOfNodes : Type 0
RoundsAreOfNodes = (g : Problem) (round : Round) → AreNodes g → IsRound g round → IsOfNodes g round
