-- Known words and tests (Appel, chapter 17, common subexpressions; chapter 8, extended basic
-- blocks): a word that a temporary has already is moved from there, a branch that is known to fall
-- through goes, and one that is known to be taken is a jump.
use Rattle.std.specs.Prelude.{ℕ, suc, ◌==◌, Bool, true, false, List, [], ◌∷◌, Option, Some}
use Rattle.std.specs.Prelude.{None, if◌then◌else◌, take, flat_map}
use Rattle.std.specs.List.{list_any}
use Rattle.tg_tree.specs.declared.operators.Rel.{Rel}
use Rattle.tg_tree.specs.Operators.{opposite}
use Rattle.tg_instr.specs.declared.operands.Opnd.{Opnd}
use Rattle.tg_instr.specs.declared.operands.Opnd.TheVariants.{Temp, Reg}
use Rattle.tg_instr.specs.declared.instr.Instr.{Instr}
use Rattle.tg_instr.specs.declared.instr.Instr.TheVariants.{Move, Jump}
use Rattle.tg_instr.specs.Operands.{is_same}
use Rattle.tg_instr.specs.Shapes.{InstructionShape, Copy, Stores, ToSlot, Here, Goes, Tests, Calls}
use Rattle.tg_instr.specs.Shapes.{Asks, Fails, Returns, shape}
use Rattle.tg_instr.specs.Uses.{defs}
use Rattle.tg_redundancy.specs.declared.readings.Reading.{Reading}
use Rattle.tg_redundancy.specs.declared.readings.Reading.TheVariants.{Moved, InSlot}
use Rattle.tg_redundancy.specs.declared.facts.Fact.TheVariants.{Has, Untrue}
use Rattle.tg_redundancy.specs.mirror.Readings.{temp, reading_of, read_by, reread}
use Rattle.tg_redundancy.specs.mirror.Facts.{Facts, stands, found, is_untrue, names_one, forget}
use Rattle.tg_redundancy.specs.mirror.Facts.{forget_each, forget_memory, noted}

-- Marks.

-- what is known at a mark by the ways to it that were met, if one was
abbrev pub Claims : Type 0
Claims = (mark : ℕ) → Option (Facts)

abbrev pub claimed : (mark : ℕ) → Claims → Option (Facts)
claimed mark claims = claims mark

-- of a second way nothing is known
abbrev pub both : Facts → Option (Facts) → Facts
both facts None = facts
both facts (Some met) = []

-- so many of the last facts are claimed at most: with them a mark that waits takes 400 bytes
abbrev pub most_claimed : ℕ
most_claimed = 12

abbrev pub claim : (mark : ℕ) → Facts → Claims → Claims
claim mark facts claims =
    λ other. if mark == other then Some (both (take most_claimed facts) (claims mark)) else
    claims other

-- behind a mark its claims are no more asked for
abbrev pub let_go : (mark : ℕ) → Claims → Claims
let_go mark claims = λ other. if mark == other then None else claims other

-- it leads to the mark
abbrev pub is_way : (mark : ℕ) → InstructionShape → Bool
is_way mark (Goes other) = other == mark
is_way mark (Tests rel left right other) = other == mark
is_way mark _ = false

abbrev pub has_way : (mark : ℕ) → List Instr → Bool
has_way mark rest = list_any (λ one. is_way mark (shape one)) rest

-- an instruction is a mark with a way from what stands behind it
abbrev pub comes_back : List Instr → InstructionShape → Bool
comes_back rest (Here mark) = has_way mark rest
comes_back rest _ = false

-- what is known behind a mark, by what comes from in front and what was met
abbrev pub arrival : (from_behind : Bool) → Option (Facts) → Option (Facts) → Facts
arrival true comes met = []
arrival false None None = []
arrival false None (Some facts) = facts
arrival false (Some facts) met = both facts met

-- The walk.

-- where it is: what is known if the last instruction goes on here, what is known at marks, and how
-- many moves may still be made
pub record State : Type 0 where
  pub comes : Option (Facts)
  pub claims : Claims
  pub room : ℕ

abbrev pub or_nothing : Option (Facts) → Facts
or_nothing None = []
or_nothing (Some facts) = facts

abbrev pub known : State → Facts
known state = or_nothing state.comes

abbrev pub goes_on : Facts → State → State
goes_on facts state = record state { comes = Some facts }

abbrev pub nothing_comes : State → State
nothing_comes state = record state { comes = None }

abbrev pub with_claim : (mark : ℕ) → Facts → State → State
with_claim mark facts state = record state { claims = claim mark facts state.claims }

abbrev pub at_mark : (mark : ℕ) → (from_behind : Bool) → State → State
at_mark mark from_behind state = record state {
  comes = Some (arrival from_behind state.comes (claimed mark state.claims));
  claims = let_go mark state.claims;
}

-- a step: the block for an instruction, and the state behind it
pub record Step : Type 0 where
  pub block : List Instr
  pub state : State

abbrev pub stays : Instr → State → Step
stays one state = record { block = one ∷ []; state = state }

-- For the most facts that are kept.
module _ (most : ℕ) where
  -- a temporary gets what another operand has
  abbrev pub copied : (temp : ℕ) → (from : Opnd) → Facts → Facts
  copied to from facts =
      if is_same (temp to) from then forget (temp to) facts else
      noted most (Has to (Moved from)) (forget (temp to) facts)

  -- a temporary gets what is read so, unless it is read for that itself
  abbrev pub gotten : (temp : ℕ) → Reading → Facts → Facts
  gotten to reading facts =
      if names_one (temp to) (read_by reading) then forget (temp to) facts else
      noted most (Has to reading) (forget (temp to) facts)

  -- one that gives a word: a move, if a temporary has the word and there is room
  abbrev pub gives : (temp : ℕ) → Reading → Option ℕ → (room : ℕ) → Instr → State → Step
  gives to reading (Some holder) (suc room) one state = record {
    block = Move (temp to) (temp holder) ∷ [];
    state = record {
      comes = Some (copied to (temp holder) (known state));
      claims = state.claims;
      room = room;
    };
  }
  gives to reading _ _ one state = stays one (goes_on (gotten to reading (known state)) state)

  -- a test: whether it is known to fall through, and whether it is known to be taken
  abbrev pub tested :
      (falls jumps : Bool) → Rel → (left right : Opnd) → (mark : ℕ) → Instr → State → Step
  tested true jumps rel left right mark one state =
      record { block = []; state = goes_on (known state) state }
  tested false true rel left right mark one state =
      record { block = Jump mark ∷ []; state = nothing_comes (with_claim mark (known state) state) }
  tested false false rel left right mark one state =
      stays one (goes_on (noted most (Untrue rel left right) (known state))
      (with_claim mark (noted most (Untrue (opposite rel) left right) (known state)) state))

  abbrev pub moved : (to from : Opnd) → Facts → Facts
  moved (Temp to) (Temp from) facts = copied to.0 (stands facts (Temp from)) facts
  moved to from facts = forget to facts

  abbrev pub kept : (from : Opnd) → (slot : ℕ) → Facts → Facts
  kept (Temp from) slot facts = noted most (Has from.0 (InSlot slot)) (forget_memory facts)
  kept (Reg from) slot facts = forget_memory facts

  -- an instruction that gives no word
  abbrev pub by_shape : InstructionShape → (from_behind : Bool) → Instr → State → Step
  by_shape (Copy to from) from_behind one state =
      stays one (goes_on (moved to from (known state)) state)
  by_shape (Stores from base bytes store) from_behind one state =
      stays one (goes_on (forget_memory (known state)) state)
  by_shape (ToSlot from slot) from_behind one state =
      stays one (goes_on (kept from slot (known state)) state)
  by_shape (Here mark) from_behind one state = stays one (at_mark mark from_behind state)
  by_shape (Goes mark) from_behind one state =
      stays one (nothing_comes (with_claim mark (known state) state))
  by_shape (Tests rel left right mark) from_behind one state =
      let x = stands (known state) left in
      let y = stands (known state) right in
      tested (is_untrue rel x y (known state)) (is_untrue (opposite rel) x y (known state))
      rel x y mark one state
  by_shape (Calls label) from_behind one state = stays one (goes_on [] state)
  by_shape Asks from_behind one state = stays one (goes_on [] state)
  by_shape (Fails code) from_behind one state = stays one (nothing_comes state)
  by_shape Returns from_behind one state = stays one (nothing_comes state)
  by_shape other from_behind one state =
      stays one (goes_on (forget_each (defs other) (known state)) state)

  abbrev pub by_reading :
      Option (ℕ × Reading) → (from_behind : Bool) → Instr → State → Step
  by_reading None from_behind one state = by_shape (shape one) from_behind one state
  by_reading (Some it) from_behind one state =
      let reading = reread (stands (known state)) it.1 in
      gives it.0 reading (found it.0 reading (known state)) state.room one state

  abbrev pub known_step : (rest : List Instr) → Instr → State → Step
  known_step rest one state = by_reading (reading_of one) (comes_back rest (shape one)) one state

  -- a block for each instruction
  abbrev pub known_blocks : List Instr → State → List (List Instr)
  known_blocks [] state = []
  known_blocks (one ∷ rest) state =
      (known_step rest one state).block ∷ known_blocks rest (known_step rest one state).state

-- a function is entered with nothing known
abbrev pub at_start : (moves : ℕ) → State
at_start moves = record { comes = Some []; claims = λ mark. None; room = moves }

abbrev pub most_facts : ℕ
most_facts = 64

abbrev pub most_moves : ℕ
most_moves = 50

abbrev pub blocks_known : List Instr → List (List Instr)
blocks_known code = known_blocks most_facts code (at_start most_moves)

abbrev pub joined : List (List Instr) → List Instr
joined blocks = flat_map (λ block. block) blocks

abbrev pub known_code : List Instr → List Instr
known_code code = joined (blocks_known code)
