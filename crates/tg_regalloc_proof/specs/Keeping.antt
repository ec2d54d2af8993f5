-- What it means that a function's code may stand in the place of another's: in every program that
-- doesn't go wrong it does the same, with the same fuel and the same memory, and with no more work.
use Rattle.std.specs.Prelude.{ℕ, zero, suc, ◌+◌, ◌*◌, ◌≡◌, ◌≢◌, ◌≤◌, ◌==◌, if◌then◌else◌}
use Rattle.std.specs.Prelude.{List, [], ◌∷◌, ◌++◌, length, map, Some}
use Rattle.tg_machine_state.specs.State.{stack_top}
use Rattle.tg_simulation.specs.Runs.{Run}
use Rattle.tg_simulation.specs.Ran.{Ran, Wrong}
use Rattle.tg_simulation.specs.Preserving.{DoesTheSame}
use Rattle.tg_tree.specs.Memory.{Closed, Memory, begin}
use Rattle.tg_tree.specs.Running.{function_of}
use Rattle.tg_tree.specs.Tree.{Function, Code, Literal}
use Rattle.tg_instr.specs.declared.instr.Instr.{Instr}
use Rattle.tg_instr.specs.Contents.{no_contents, at_entry}
use Rattle.tg_instr.specs.Running.{Units, CodePoint, begin_code, code_step, code_run}
use Rattle.tg_regalloc_proof.specs.Blocks.{Blocks, code_of, regrouped, Charge, Covers}

-- Programs.

-- a function, and what its instructions are charged
pub record Charged : Type 0 where
  pub function : Function (List Instr)
  pub charge : Charge

abbrev pub charged_by : Charge → Function (List Instr) → Charged
charged_by charge f = record { function = f; charge = charge }

abbrev pub functions_of : List Charged → List (Function (List Instr))
functions_of list = map (λ (it : Charged). it.function) list

-- what is charged at a place: by the first function of its label, as a call goes to that
abbrev pub units_of : List Charged → Units
units_of [] label left one = 0
units_of (it ∷ rest) label left one =
    if it.function.label == label then it.charge left one else units_of rest label left one

abbrev pub program : List (Function (List Instr)) → List Literal → Code (List Instr)
program functions literals = record { functions = functions; literals = literals }

-- a size holds a function's slots and the low words of its frame
abbrev pub Holds : (size : ℕ → ℕ) → Function (List Instr) → Type 0
Holds size f = 4 * (f.slots + f.out) ≤ size f.label

-- so do those of all functions to which calls go
abbrev pub AreHeld : (size : ℕ → ℕ) → List (Function (List Instr)) → Type 0
AreHeld size functions =
    (label : ℕ) (f : Function (List Instr)) → function_of label functions ≡ Some f → Holds size f

-- what else a run needs: literals, sizes of frames by labels, the stack's floor, the heap's room,
-- the label of the function that is begun, and the input
pub record Surroundings : Type 0 where
  pub literals : List Literal
  pub size : ℕ → ℕ
  pub floor : ℕ
  pub room : ℕ
  pub body : ℕ
  pub input : List ℕ

abbrev pub run_of : List Charged → Surroundings → Run Ran
run_of list e =
    code_run (units_of list) (program (functions_of list) e.literals) e.size e.floor e.room
    e.body e.input

-- Memory.

-- Memories are compared in the statics, in the heap, and in each word of the stack that is open in
-- the first: there the second has the same, stored to or not.
pub record MemoriesAgree (m n : Memory) : Type 0 where
  pub statics : n.statics ≡ m.statics
  pub heap : n.heap ≡ m.heap
  pub stack : (a : ℕ) → m.stack a ≢ Closed → n.stack a ≡ m.stack a

-- what looks at a memory, and may go wrong where a word is closed
pub record IsWatcher (see : Memory → Ran) : Type 0 where
  pub sees : (m n : Memory) → MemoriesAgree m n → (see m).stop ≢ Wrong → see n ≡ see m

-- a run that comes to what it sees of the memory after so many units of fuel, or at the return of
-- the program
module _ (units : Units) (code : Code (List Instr)) (e : Surroundings) (see : Memory → Ran) where
  abbrev pub seen_from : (turns : ℕ) → CodePoint → Run Ran
  seen_from zero p n = see p.world.memory
  seen_from (suc k) p n = code_step units code e.size e.floor e.room (seen_from k) p n

  abbrev pub seen : (turns : ℕ) → Run Ran
  seen k =
      begin_code units code e.size e.floor e.room (seen_from k) (function_of e.body code.functions)
      (at_entry no_contents) stack_top (λ c w n. see w.memory)
      (record { memory = begin code.literals; input = e.input })

abbrev pub seen_of : List Charged → Surroundings → (Memory → Ran) → (turns : ℕ) → Run Ran
seen_of list e see k = seen (units_of list) (program (functions_of list) e.literals) e see k

-- Keeping.

-- unless the first goes wrong, the second does the same with as much fuel, and no more work
abbrev pub DoesNoMore : Run Ran → Run Ran → Type 0
DoesNoMore c d = (n : ℕ) → (c n).stop ≢ Wrong → DoesTheSame 1 0 (c n) (d n)

-- g may stand in the place of f, with these blocks for the instructions of f: it has the same label
-- and low words and at least as many slots; and whatever the other functions of a program are, and
-- whatever instructions are charged, as long as each of f is charged at least what its block is,
-- the program with g does what the program with f does, and comes to the same memory after each
-- turn
pub record Keeps (blocks : Blocks) (f g : Function (List Instr)) : Type 0 where
  pub each : length blocks ≡ length f.body
  pub whole : code_of blocks ≡ g.body
  pub label : g.label ≡ f.label
  pub out : g.out ≡ f.out
  pub slots : f.slots ≤ g.slots
  pub same :
      (before after : List Charged) (charge charge' : Charge) (e : Surroundings) →
      AreHeld e.size (functions_of (before ++ charged_by charge' g ∷ after)) →
      Covers charge f.body charge' blocks →
      DoesNoMore (run_of (before ++ charged_by charge f ∷ after) e)
      (run_of (before ++ charged_by charge' g ∷ after) e)
  pub memory :
      (before after : List Charged) (charge charge' : Charge) (e : Surroundings) →
      AreHeld e.size (functions_of (before ++ charged_by charge' g ∷ after)) →
      Covers charge f.body charge' blocks →
      (see : Memory → Ran) →
      IsWatcher see →
      (turns : ℕ) →
      DoesNoMore (seen_of (before ++ charged_by charge f ∷ after) e see turns)
      (seen_of (before ++ charged_by charge' g ∷ after) e see turns)

-- a program whose instructions are charged less does no more
abbrev pub ChargedLessDoesNoMore : Type 0
ChargedLessDoesNoMore =
    (fs : List (Function (List Instr))) (e : Surroundings) (units units' : Units) →
    AreHeld e.size fs →
    ((label : ℕ) (f : Function (List Instr)) →
    function_of label fs ≡ Some f →
    (left : ℕ) (one : Instr) →
    units' label left one ≤ units label left one) →
    DoesNoMore (code_run units (program fs e.literals) e.size e.floor e.room e.body e.input)
    (code_run units' (program fs e.literals) e.size e.floor e.room e.body e.input)

-- what is kept is kept on
abbrev pub KeepsCompose : Type 0
KeepsCompose =
    (f g h : Function (List Instr)) (outer inner : Blocks) →
    Keeps outer f g →
    Keeps inner g h →
    Keeps (regrouped outer inner) f h

-- the functions of a program, each replaced by one that may stand in its place and is charged no
-- more
pub data AreKept : List Charged → List Charged → Type 0 where
  none : AreKept [] []
  also :
      (f g : Charged) (fs gs : List Charged) (blocks : Blocks) →
      Keeps blocks f.function g.function →
      Covers f.charge f.function.body g.charge blocks →
      AreKept fs gs →
      AreKept (f ∷ fs) (g ∷ gs)

-- a program with all of them replaced does the same
abbrev pub ProgramsAreKept : Type 0
ProgramsAreKept =
    (fs gs : List Charged) (e : Surroundings) →
    AreKept fs gs →
    AreHeld e.size (functions_of gs) →
    DoesNoMore (run_of fs e) (run_of gs e)
