-- What holds of the flow and of liveness, whatever the code.
use Rattle.std.specs.Prelude.{◌≡◌, ℕ, Bool, IsTrue, IsFalse, List}
use Rattle.std.specs.FinSet as set
use Rattle.tg_instr.specs.declared.instr.Instr.{Instr}
use Rattle.tg_instr.specs.declared.operands.Opnd.{Opnd}
use Rattle.tg_live.specs.Flow.{goes_on, flow_of}
use Rattle.tg_live.specs.Live.{is_used, is_defined, IsLiveOut}

-- the flow has a pair exactly where the instruction at the one place goes on at the other
abbrev pub FlowHasEdges : Type 0
FlowHasEdges =
    (all : List Instr) (at next : ℕ) → set.contains (flow_of all) (at, next) ≡ goes_on all at next

-- an operand that is used at the next place is live out of an instruction
abbrev pub LiveBeforeUse : Type 0
LiveBeforeUse =
    (all : List Instr) (x : Opnd) (at next : ℕ) → IsTrue (goes_on all at next) →
    IsTrue (is_used all x next) → IsLiveOut all at x

-- and one that is live out of the next place and not defined there
abbrev pub LiveBeforeLive : Type 0
LiveBeforeLive =
    (all : List Instr) (x : Opnd) (at next : ℕ) → IsTrue (goes_on all at next) →
    IsFalse (is_defined all x next) → IsLiveOut all next x → IsLiveOut all at x

-- and no other: each set of places with these two properties has every place that the operand is
-- live out of
abbrev pub LiveIsLeast : Type 0
LiveIsLeast =
    (all : List Instr) (x : Opnd) (has : ℕ → Bool) →
    ((at next : ℕ) → IsTrue (goes_on all at next) → IsTrue (is_used all x next) → IsTrue (has at)) →
    ((at next : ℕ) → IsTrue (goes_on all at next) → IsFalse (is_defined all x next) →
    IsTrue (has next) → IsTrue (has at)) →
    (at : ℕ) → IsLiveOut all at x → IsTrue (has at)
