-- How the examples of rounds are written.
use Rattle.std.proofs.Common.{◌≡◌, ℕ, ◌<◌, Bool, true, false, not, ◌&&◌, ◌||◌, List, ◌∷◌, ◌++◌, length, Option, Some}
use Rattle.std.proofs.Common.{map, replicate, sym, ap, ◌∙◌}
use Rattle.std.specs.Prelude.{◌==◌, slice_get}
use Rattle.std.specs.List.{list_any, range_with_len}
use Rattle.tg_irc_definition.specs.declared.candidates.NodeFacts.{NodeFacts}
use Rattle.tg_irc_definition.specs.declared.moves.Move.{Move}
use Rattle.tg_irc_definition.specs.declared.moves.MoveState.{MoveState}
use Rattle.tg_irc_definition.specs.declared.steps.Step.{Step}
use Rattle.tg_irc_definition.specs.declared.rounds.Round.{Round}
use Rattle.tg_irc_definition.specs.Graphs.{is_register, Pairs, Graph}
use Rattle.tg_irc_definition.specs.Policies.{least_use}
use Rattle.tg_irc_definition.specs.States.{Problem, start}
use Rattle.tg_irc_definition.specs.Steps.{can, kind, after_all, AreTaken, is_over}
use Rattle.tg_irc_definition.specs.Selection.{select}
use Rattle.tg_irc_definition.specs.Rounds.{listed, end, IsRound}
use Rattle.tg_irc_definition.proofs.Deciding.{clash, same_test}
use Rattle.tg_irc_definition.proofs.Answering.{the_same}
use Rattle.tg_irc_definition.proofs.Taking.{are_taken, all_taken}

-- the pairs of a list in either order, and all pairs of registers
abbrev among : List (ℕ × ℕ) → Pairs
among ps x y =
    (is_register x && is_register y && not (x == y)) ||
    list_any (λ p. (x == p.0 && y == p.1) || (x == p.1 && y == p.0)) ps

abbrev pub graph : ℕ → List (ℕ × ℕ) → Graph
graph nodes ps = record { nodes = nodes; pairs = among ps }

abbrev pub move : (to from : ℕ) → Move
move to from = record { to = to; from = from }

abbrev pub node_facts : ℕ → Bool → NodeFacts
node_facts uses made = record { uses = uses; made = made }

-- the registers' facts, and then these
abbrev pub facts_then : List NodeFacts → List NodeFacts
facts_then more = replicate 25 (node_facts 0 false) ++ more

-- so many nodes, all original, the pairs that aren't of registers, and the moves
abbrev pub original : ℕ → List (ℕ × ℕ) → List Move → Problem
original nodes ps moves = record {
  graph = graph nodes ps;
  moves = moves;
  facts = replicate nodes (node_facts 2 false);
  rule = least_use;
}

abbrev pub registers : List ℕ
registers = range_with_len 0 25

-- the pairs of a node with some others
abbrev pub with_each : ℕ → List ℕ → List (ℕ × ℕ)
with_each x ys = map (λ y. (x, y)) ys

-- a round with these steps and states, and with these aliases and colours of the temporaries
abbrev pub round : Problem → List Step → List MoveState → List ℕ → List (Option ℕ) → List ℕ → Round
round g steps states aliases colours spilled = record {
  moves = g.moves;
  steps = steps;
  states = states;
  aliases = registers ++ aliases;
  colours = map Some registers ++ colours;
  spilled = spilled;
}

-- what a run of these steps answers
abbrev answer : Problem → List Step → Round
answer g steps = record {
  moves = g.moves;
  steps = steps;
  states = listed (length g.moves) (after_all g (start g) steps).states;
  aliases = listed g.graph.nodes (after_all g (start g) steps).alias;
  colours = listed g.graph.nodes
      (λ x. (select g (after_all g (start g) steps)).colour ((after_all g (start g) steps).alias x));
  spilled = (select g (after_all g (start g) steps)).spilled;
}

-- a round by tests that compute
pub is_round : (g : Problem) (r : Round) → are_taken g (start g) r.steps ≡ true → is_over g (end g r) ≡ true →
    r ≡ answer g r.steps → IsRound g r
is_round g r taken over same = record {
  moves = ap (λ r. r.moves) same;
  steps = all_taken g (start g) r.steps taken;
  over = over;
  states = ap (λ r. r.states) same;
  aliases = ap (λ r. r.aliases) same;
  colours = ap (λ r. r.colours) same;
  spilled = ap (λ r. r.spilled) same;
}

-- no run goes on so after these steps, since the step isn't possible
abbrev pub NeverTakes : Problem → List Step → Step → Type 0
NeverTakes g steps step = (later : List Step) → AreTaken g (after_all g (start g) steps) (step ∷ later) → ⊥

pub impossible : (g : Problem) (steps : List Step) (step : Step) →
    can g (after_all g (start g) steps) step ≡ false → NeverTakes g steps step
impossible g steps step e later t = clash t.0.possible e

-- or since a step of an earlier kind is
pub too_early : (g : Problem) (steps : List Step) (step other : Step) → kind g other < kind g step →
    can g (after_all g (start g) steps) other ≡ true → NeverTakes g steps step
too_early g steps step other l e later t = clash e (t.0.first other l)

-- no round answers a colour but the one that Select gives
pub wrong_colour : (g : Problem) (r : Round) (x a b : ℕ) → slice_get r.colours x ≡ Some (Some a) →
    slice_get (answer g r.steps).colours x ≡ Some (Some b) → (a == b) ≡ false → IsRound g r → ⊥
wrong_colour g r x a b said given differ t =
    clash (same_test a b (the_same (the_same (sym said ∙ (ap (λ l. slice_get l x) t.colours ∙ given))))) differ
