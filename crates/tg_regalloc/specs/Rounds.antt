-- The rounds of an allocation (George and Appel 1996, section 4): each is a round on the
-- interference graph of its code, and each but the last spills originals, to whose slots the next
-- code loads and stores.
use Rattle.std.specs.Prelude.{◌≡◌, ◌≢◌, ◌<◌, ◌≤◌, ℕ, ◌+◌, All, List, [], ◌∷◌, length, map, Option}
use Rattle.std.specs.Prelude.{Some, None}
use Rattle.std.specs.List.{range_with_len}
use Rattle.tg_instr.specs.declared.instr.Instr.{Instr}
use Rattle.tg_instr.specs.declared.codes.Code.{Code}
use Rattle.tg_graph.specs.Interference.{Interference}
use Rattle.tg_irc_definition.specs.declared.rounds.Round.{Round}
use Rattle.tg_irc_definition.specs.Policies.{Rule}
use Rattle.tg_irc_definition.specs.States.{problem}
use Rattle.tg_irc_definition.specs.Rounds.{IsRound}
use Rattle.tg_interference.specs.Pairs.{IsInterference}
use Rattle.tg_interference.specs.Moves.{moves_of}
use Rattle.tg_interference.specs.Facts.{facts_of_nodes}
use Rattle.tg_coalescing_round.specs.glue.Standing.{graph_of}
use Rattle.tg_regalloc.specs.declared.allocations.Location.{Location}
use Rattle.tg_regalloc.specs.declared.allocations.Location.TheVariants.{Colour, Slot}
use Rattle.tg_regalloc.specs.Rewriting.{slotted, slot_after, slot_in, code_rewritten, temps_after}
use Rattle.tg_regalloc.specs.Painting.{colour_of, colour_in}

-- the nodes and the uses of a code of this size have numbers
pub record CodeIsNumbered (code : Code) : Type 0 where
  pub temps : code.temps ≤ 16777216
  pub instructions : length code.list ≤ 89478485

-- a round answers an alias and a colour of each node of a code with so many temporaries, and what
-- it answers of nodes are nodes of the code
pub record IsOfTemps (temps : ℕ) (round : Round) : Type 0 where
  pub each_alias : length round.aliases ≡ 25 + temps
  pub each_colour : length round.colours ≡ 25 + temps
  pub aliases : All (λ x. x < 25 + temps) round.aliases
  pub spilled : All (λ x. x < 25 + temps) round.spilled

-- a code between rounds: its instructions and temporaries, and the frame's next slot
pub record BetweenRounds : Type 0 where
  pub list : List Instr
  pub temps : ℕ
  pub slots : ℕ

abbrev pub stage_of : Code → (slots : ℕ) → BetweenRounds
stage_of code slots = record { list = code.list; temps = code.temps; slots = slots }

-- with so many temporaries in the code that was handed in
module _ (originals : ℕ) where
  -- the slot of a temporary that a round spills
  abbrev pub slots_by : BetweenRounds → Round → ℕ → Option ℕ
  slots_by s round = slot_after originals s.slots round

  -- the code that a round is followed by
  abbrev pub next_stage : BetweenRounds → Round → BetweenRounds
  next_stage s round = record {
    list = code_rewritten (slots_by s round) s.list s.temps;
    temps = temps_after (slots_by s round) s.list s.temps;
    slots = s.slots + length (slotted originals round);
  }

-- by a policy's rule, with so many temporaries in the code that was handed in
module _ (rule : Rule) (originals : ℕ) where
  pub record IsRoundOf (s : BetweenRounds) (round : Round) : Type 0 where
    pub graph : Interference
    pub exact : IsInterference s.list s.temps graph
    pub run : IsRound
        (problem (graph_of graph) (moves_of s.list) (facts_of_nodes s.list s.temps originals) rule)
        round

  -- from the first code to the last, which no round follows
  pub data AreRounds : BetweenRounds → List Round → BetweenRounds → Type 0 where
    last : (s : BetweenRounds) (round : Round) →
        IsRoundOf s round →
        slotted originals round ≡ [] →
        AreRounds s (round ∷ []) s
    more : (s t : BetweenRounds) (round : Round) (rounds : List Round) →
        IsRoundOf s round →
        slotted originals round ≢ [] →
        AreRounds (next_stage originals s round) rounds t →
        AreRounds s (round ∷ rounds) t

-- the last of some rounds; of none, a round of nothing
abbrev pub last_round : List Round → Round
last_round [] = record {
  moves = [];
  steps = [];
  states = [];
  aliases = [];
  colours = [];
  spilled = [];
}
last_round (round ∷ []) = round
last_round (round ∷ round' ∷ rounds) = last_round (round' ∷ rounds)

-- in a slot, or else in a colour
abbrev pub location_in : Option ℕ → (colour : ℕ) → Location
location_in None c = Colour c
location_in (Some k) c = Slot k

-- by a list of slots and one of colours
abbrev pub locations_in : List (Option ℕ) → List (Option ℕ) → List Location
locations_in slots colours =
    map (λ t. location_in (slot_in slots t) (colour_in colours t)) (range_with_len 0 (length slots))

-- The location of an original: the slot of the first round that spilled its class, else its colour
-- in the last.
abbrev pub location_by : (originals slots : ℕ) → List Round → (temp : ℕ) → Location
location_by originals slots [] t = Colour 0
location_by originals slots (round ∷ []) t = Colour (colour_of round t)
location_by originals slots (round ∷ round' ∷ rounds) t =
    elim (slot_after originals slots round t) [
      | None ↦ location_by originals (slots + length (slotted originals round)) (round' ∷ rounds) t
      | Some k ↦ Slot k
    ]
