-- The generic law of passes that give operands other places: a function in which a block stands for
-- each instruction of another, with what interferes in places apart, keeps the other's meaning.
use Rattle.std.specs.Prelude.{ℕ, ◌+◌, ◌-◌, ◌≡◌, ◌≤◌, ◌<◌, false, IsTrue, List, length}
use Rattle.tg_tree.specs.Tree.{Function}
use Rattle.tg_instr.specs.declared.operands.Opnd.{Opnd}
use Rattle.tg_instr.specs.declared.instr.Instr.{Instr}
use Rattle.tg_live.specs.Live.{leads_to_use}
use Rattle.tg_live.specs.Interference.{IsDefinedBeside}
use Rattle.tg_regalloc_proof.specs.Blocks.{Blocks, code_of}
use Rattle.tg_regalloc_proof.specs.Places.{Places, At, are_one, Stands}
use Rattle.tg_regalloc_proof.specs.Keeping.{Keeps}

-- an operand is live before the instruction of a place: a path leads from there to a use of it
abbrev pub IsLiveAt : List Instr → (at : ℕ) → Opnd → Type 0
IsLiveAt all at x = (path : List ℕ) × IsTrue (leads_to_use all x at path)

-- and so before a suffix of the code
abbrev pub living : List Instr → List Instr → Opnd → Type 0
living all rest x = IsLiveAt all (length all - length rest) x

-- the situation: a function, and the one in its place
pub record Replaced (f g : Function (List Instr)) : Type 0 where
  -- where the second has what the first has in its operands
  pub places : Places
  -- the second has so many slots more, and places that are slots are among these
  pub more : ℕ
  pub label : g.label ≡ f.label
  pub out : g.out ≡ f.out
  pub slots : g.slots ≡ f.slots + more
  pub added_slots :
      (x : Opnd) (k : ℕ) → places.place x ≡ At k → (f.slots ≤ k) × (k < f.slots + more)
  -- the second's code is a block for each instruction of the first's
  pub blocks : Blocks
  pub whole : code_of blocks ≡ g.body
  pub stands : Stands places.place (living f.body) f.body blocks
  -- what is defined, and what is live after it, stand apart
  pub apart :
      (d x : Opnd) →
      IsDefinedBeside f.body d x →
      are_one (places.place x) (places.place d) ≡ false

abbrev pub ReplacedKeep : Type 0
ReplacedKeep = (f g : Function (List Instr)) → (it : Replaced f g) → Keeps it.blocks f g
