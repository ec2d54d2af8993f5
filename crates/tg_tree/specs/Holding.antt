-- What a run may read: temporaries that are set, and slots of open activations that were stored to.
-- The second of two worlds holds at least what the first holds there.
use Rattle.std.specs.Prelude.{◌≡◌, ◌≢◌, ℕ, List, Option, Some, None}
use Rattle.tg_simulation.specs.Runs.{Run}
use Rattle.tg_simulation.specs.Ran.{Ran, Wrong}
use Rattle.tg_tree.specs.Memory.{Cell, Closed, Unset, Has, Kept}
use Rattle.tg_tree.specs.Actions.{World, Temps, Next, Back, Around}

-- where the first holds a word, the second holds the same
pub data HoldsAtLeast : Option ℕ → Option ℕ → Type 0 where
  unset : (o : Option ℕ) → HoldsAtLeast None o
  set : (v : ℕ) → HoldsAtLeast (Some v) (Some v)

-- a slot of an open activation is one in the second too, with the word that was stored to it;
-- anything may stand elsewhere
pub data CellHoldsAtLeast : Cell → Cell → Type 0 where
  elsewhere : (c : Cell) → CellHoldsAtLeast Closed c
  not_stored : CellHoldsAtLeast Unset Unset
  stored_to : (v : ℕ) → CellHoldsAtLeast Unset (Has v)
  stored : (v : ℕ) → CellHoldsAtLeast (Has v) (Has v)
  kept : (register : ℕ) → CellHoldsAtLeast (Kept register) (Kept register)

abbrev pub TempsHoldAtLeast : Temps → Temps → Type 0
TempsHoldAtLeast t u = (i : ℕ) → HoldsAtLeast (t i) (u i)

-- two worlds with the same statics, heap and input
pub data WorldHoldsAtLeast : World → World → Type 0 where
  in_stack :
      (statics heap input : List ℕ) (cells cells' : ℕ → Cell) →
      ((a : ℕ) → CellHoldsAtLeast (cells a) (cells' a)) →
      WorldHoldsAtLeast
      (record { memory = record { statics = statics; heap = heap; stack = cells }; input = input })
      (record { memory = record { statics = statics; heap = heap; stack = cells' }; input = input })

-- unless the first run goes wrong, the second is the same
abbrev pub UnlessWrong : Run Ran → Run Ran → Type 0
UnlessWrong c d = (n : ℕ) → (c n).stop ≢ Wrong → d n ≡ c n

-- what comes next reads nothing else either
abbrev pub BackReadsNoMore : Back → Type 0
BackReadsNoMore back =
    (v : ℕ) (w x : World) → WorldHoldsAtLeast w x → UnlessWrong (back v w) (back v x)

abbrev pub NextReadsNoMore : Next → Type 0
NextReadsNoMore next =
    (w x : World) (t u : Temps) →
    WorldHoldsAtLeast w x → TempsHoldAtLeast t u → UnlessWrong (next w t) (next x u)

pub record AroundReadsNoMore (e : Around) : Type 0 where
  pub out : (k : ℕ) → NextReadsNoMore (e.out k)
  pub back : BackReadsNoMore e.back
