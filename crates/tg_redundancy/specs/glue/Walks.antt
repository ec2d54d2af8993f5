-- Steps of the walk as its code takes them.
use Rattle.std.specs.Prelude.{ℕ, zero, suc, ◌-◌, ◌≡◌, nat_eq, Bool, false, List, [], ◌∷◌, ◌++◌}
use Rattle.std.specs.Prelude.{Option, Some, None}
use Rattle.std.specs.HashMap.{get}
use Rattle.std.specs.HashSet.{HashSet, contains}
use Rattle.tg_instr.specs.declared.operands.Opnd.{Opnd}
use Rattle.tg_instr.specs.declared.operands.Opnd.TheVariants.{Reg}
use Rattle.tg_instr.specs.declared.instr.Test.{Test}
use Rattle.tg_instr.specs.declared.instr.Instr.{Instr}
use Rattle.tg_instr.specs.declared.instr.Instr.TheVariants.{Move, Jump, Branch}
use Rattle.tg_instr.specs.Shapes.{InstructionShape, Copy, Stores, ToSlot, Here, Goes, Tests, Calls}
use Rattle.tg_instr.specs.Shapes.{Asks, Fails, Returns, shape}
use Rattle.tg_instr.specs.Uses.{defs}
use Rattle.tg_redundancy.specs.declared.readings.Reading.{Reading}
use Rattle.tg_redundancy.specs.declared.walks.Walk.{Walk}
use Rattle.tg_redundancy.specs.mirror.Readings.{temp, reread, reading_of}
use Rattle.tg_redundancy.specs.mirror.Facts.{Facts, stands, found, forget_each, forget_memory}
use Rattle.tg_redundancy.specs.mirror.Known.{State, Step, known, gives, by_shape, by_reading}
use Rattle.tg_redundancy.specs.mirror.Known.{has_way}
use Rattle.tg_redundancy.specs.mirror.Known.{comes_back, moved, kept, goes_on, nothing_comes}
use Rattle.tg_redundancy.specs.mirror.Known.{with_claim, copied, gotten, stays}
use Rattle.tg_redundancy.specs.mirror.Known.{at_mark, most_facts}

abbrev pub or_zero : Option Opnd → Opnd
or_zero (Some operand) = operand
or_zero None = Reg 0

-- Ways.

abbrev pub way : Instr → Option ℕ
way (Jump mark) = Some mark
way (Branch test mark) = Some mark
way _ = None

-- the marks to which ways lead
abbrev pub HasWays : {S : Type 0} → HashSet ℕ S → List Instr → Type 0
HasWays ways rest = (mark : ℕ) → contains nat_eq ways mark ≡ has_way mark rest

-- whether each instruction is a mark with a way from what stands behind it
abbrev pub flags : List Instr → List Bool
flags [] = []
flags (one ∷ rest) = comes_back rest (shape one) ∷ flags rest

-- Steps.

-- where the walk is
abbrev pub state_of : Walk → State
state_of walk = record {
  comes = walk.comes;
  claims = λ mark. get nat_eq walk.claims mark;
  room = walk.room;
}

-- a step was taken: the walk is behind it, and its block stands at the end of the list
pub record HasStepped (walk : Walk) (before after : List Instr) (step : Step) : Type 0 where
  pub state : state_of walk ≡ step.state
  pub list : after ≡ before ++ step.block

abbrev pub if_room : (room : ℕ) → Option ℕ → Option ℕ
if_room zero holder = None
if_room (suc room) holder = holder

-- a word is moved from its holder, or read, and known from then on
abbrev pub moves : (to holder : ℕ) → Facts → State → Step
moves to holder facts state = record {
  block = Move (temp to) (temp holder) ∷ [];
  state = record {
    comes = Some (copied most_facts to (temp holder) facts);
    claims = state.claims;
    room = state.room - 1;
  };
}

abbrev pub reads : (to : ℕ) → Reading → Facts → Instr → State → Step
reads to reading facts one state = stays one (goes_on (gotten most_facts to reading facts) state)

abbrev pub given : (temp : ℕ) → Reading → Instr → State → Step
given to reading one state =
    let stood = reread (stands (known state)) reading in
    gives most_facts to stood (found to stood (known state)) state.room one state

abbrev pub tested_by : Test → (mark : ℕ) → Instr → State → Step
tested_by test mark one state =
    by_shape most_facts (Tests test.rel test.left test.right mark) false one state

abbrev pub passed : (from_behind : Bool) → Instr → State → Step
passed from_behind one state = by_shape most_facts (shape one) from_behind one state

abbrev pub stepped : (from_behind : Bool) → Instr → State → Step
stepped from_behind one state = by_reading most_facts (reading_of one) from_behind one state

-- what is known behind an instruction that goes on, and that is no mark, by its shape
abbrev pub changed_by : InstructionShape → Facts → Facts
changed_by (Copy to from) facts = moved most_facts to from facts
changed_by (Stores from base bytes store) facts = forget_memory facts
changed_by (ToSlot from slot) facts = kept most_facts from slot facts
changed_by (Calls label) facts = []
changed_by Asks facts = []
changed_by other facts = forget_each (defs other) facts

abbrev pub changed : Instr → Facts → Facts
changed one facts = changed_by (shape one) facts

-- the state behind an instruction that stays, and is no branch
abbrev pub learnt_by : InstructionShape → (from_behind : Bool) → State → State
learnt_by (Here mark) from_behind state = at_mark mark from_behind state
learnt_by (Goes mark) from_behind state = nothing_comes (with_claim mark (known state) state)
learnt_by (Fails code) from_behind state = nothing_comes state
learnt_by Returns from_behind state = nothing_comes state
learnt_by other from_behind state = goes_on (changed_by other (known state)) state

abbrev pub learnt : (from_behind : Bool) → Instr → State → State
learnt from_behind one state = learnt_by (shape one) from_behind state
