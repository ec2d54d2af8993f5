-- How the stack is seen by flat code and by its instructions, and when their worlds are alike.
use Rattle.std.specs.Prelude.{ℕ, ◌+◌, ◌-◌, ◌*◌, ◌%◌, ◌≡◌, ◌≢◌, ◌≤◌, ◌<◌, Bool, true, length}
use Rattle.tg_machine_state.specs.State.{stack_top}
use Rattle.tg_tree.specs.Memory.{Closed}
use Rattle.tg_tree.specs.Actions.{World}
use Rattle.tg_tree.specs.Holding.{WorldHoldsAtLeast}
use Rattle.tg_simulation.specs.Bytes.{AreBytes}
use Rattle.tg_munch_proof.specs.Words.{AreWords}

-- Below an address nothing is open in flat code, so that frames of instructions, which have words
-- for arguments too, may be laid there. In frames that are open flat code has nothing but slots,
-- and their words for arguments are open to instructions.
pub record Outline : Type 0 where
  pub low : ℕ
  pub shut : ℕ → Bool
  pub for_arguments : ℕ → Bool

-- worlds of flat code and of its instructions, with regions of at most such sizes
pub record Alike (most_statics room : ℕ) (o : Outline) (w x : World) : Type 0 where
  pub holds : WorldHoldsAtLeast w x
  pub closed : (a : ℕ) → a < o.low → w.memory.stack a ≡ Closed
  pub shut : (a : ℕ) → o.shut a ≡ true → w.memory.stack a ≡ Closed
  pub for_arguments : (a : ℕ) → o.for_arguments a ≡ true → x.memory.stack a ≢ Closed
  pub words : AreWords w.memory
  pub input : AreBytes w.input
  pub statics : length w.memory.statics ≤ most_statics
  pub heap : length w.memory.heap ≤ room

-- where a frame may begin, with so many words for arguments above it
pub record IsTop (floor top arguments : ℕ) : Type 0 where
  pub words : top % 4 ≡ 0
  pub above : floor ≤ top
  pub below : top + 4 * (arguments - 4) ≤ stack_top

-- what is told of open frames is told of addresses from one on
pub record IsAbove (top : ℕ) (o : Outline) : Type 0 where
  pub shut : (a : ℕ) → o.shut a ≡ true → top ≤ a
  pub for_arguments : (a : ℕ) → o.for_arguments a ≡ true → top ≤ a
