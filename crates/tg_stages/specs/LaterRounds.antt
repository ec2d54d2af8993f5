-- The text of the rounds of an allocation behind the first (George and Appel 1996, section 4): of
-- each its graph and its moves. Its code is the one that the round before it is followed by.
use Rattle.std.specs.Prelude.{ℕ, ◌≡◌, ◌+◌, List, [], ◌∷◌, ◌++◌}
use Rattle.tg_graph.specs.Interference.{Interference}
use Rattle.tg_interference.specs.Pairs.{IsInterference}
use Rattle.tg_interference.specs.Moves.{moves_of}
use Rattle.tg_irc_definition.specs.declared.rounds.Round.{Round}
use Rattle.tg_regalloc.specs.Rounds.{BetweenRounds, next_stage}
use Rattle.tg_show.specs.Graph.{round_lines}

-- the text of a round of this number on a code
pub record TellsRound (names : List (List ℕ)) (number : ℕ) (s : BetweenRounds) (text : List ℕ) :
    Type 0 where
  pub graph : Interference
  pub interferes : IsInterference s.list s.temps graph
  pub text_is : text ≡ round_lines names number graph (moves_of s.list)

-- with so many temporaries in the code that was handed in
module _ (names : List (List ℕ)) (originals : ℕ) where
  -- the text of all rounds but the first of some, which has this number and is on this code
  pub data TellLater : (number : ℕ) → BetweenRounds → List Round → (text : List ℕ) → Type 0 where
    none_later : (number : ℕ) (s : BetweenRounds) (round : Round) →
        TellLater number s (round ∷ []) []
    one_later : (number : ℕ) (s : BetweenRounds) (round next : Round) (rounds : List Round)
        (text rest : List ℕ) →
        TellsRound names (number + 1) (next_stage originals s round) text →
        TellLater (number + 1) (next_stage originals s round) (next ∷ rounds) rest →
        TellLater number s (round ∷ next ∷ rounds) (text ++ rest)
