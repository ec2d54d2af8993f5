-- The laws of runs of blocks, and what is kept where canonical statements are cut into them.
use Rattle.std.specs.Prelude.{ℕ, ◌≡◌, List, map}
use Rattle.std.specs.List.{AllByRecursion}
use Rattle.tg_simulation.specs.Ran.{StaysOver, OnlyGoesOn}
use Rattle.tg_simulation.specs.Preserving.{Preserves}
use Rattle.tg_tree.specs.Tree.{Ts, Seq, Stms, Function, Literal, Code}
use Rattle.tg_tree.specs.Shapes.{AreCanonical, AreClosed}
use Rattle.tg_tree.specs.Units.{Canonical, marked_entry_units, entry_units}
use Rattle.tg_tree.specs.Running.{run_body, going, canonical_run}
use Rattle.tg_tree.specs.Carrying.{BodyCarried}
use Rattle.tg_trace_schedule.specs.Block.{Block}
use Rattle.tg_trace_schedule.specs.Meaning.{BlockPoint, run_block_body, block_step, block_going}
use Rattle.tg_trace_schedule.specs.Meaning.{block_run}
use Rattle.tg_trace_schedule.specs.mirror.Cutting.{blocks_of}

-- a run is its own step
abbrev pub BlocksStep : Type 0
BlocksStep =
    (code : Code (List Block)) (size : ℕ → ℕ) (floor room : ℕ) (p : BlockPoint) (n : ℕ) →
    block_going code size floor room p n ≡
    block_step code size floor room (block_going code size floor room) p n

-- more fuel changes nothing of a run that is over, and any other run goes on with it
abbrev pub BlocksStayOver : Type 0
BlocksStayOver =
    (code : Code (List Block)) (size : ℕ → ℕ) (floor room body : ℕ) (input : List ℕ) →
    StaysOver (block_run code size floor room body input)

abbrev pub BlocksOnlyGoOn : Type 0
BlocksOnlyGoOn =
    (code : Code (List Block)) (size : ℕ → ℕ) (floor room body : ℕ) (input : List ℕ) →
    OnlyGoesOn (block_run code size floor room body input)

-- Blocks do no more work than the statements did, but for the mark of the first, which an entry
-- pays for.
abbrev pub added_work : ℕ
added_work = 1

-- the body of canonical statements is carried to its blocks, among any functions on both sides
abbrev pub BlocksCarryBodies : Type 0
BlocksCarryBodies =
    (functions : List (Function Ts)) (functions' : List (Function (List Block)))
    (literals : List Literal) (size : ℕ → ℕ) (floor room : ℕ) (ss : Stms) →
    AreCanonical ss → AreClosed ss →
    let code : Code Ts = record { functions = functions; literals = literals } in
    let code' : Code (List Block) = record { functions = functions'; literals = literals } in
    BodyCarried 1 added_work size floor marked_entry_units entry_units
    (run_body Canonical code size floor room (going Canonical code size floor room))
    (run_block_body code' size floor room (block_going code' size floor room))
    functions functions' (Seq ss) (blocks_of ss)

-- Whole programs: each function is cut.
abbrev pub in_blocks : Function Stms → Function (List Block)
in_blocks f = record {
  label = f.label;
  params = f.params;
  slots = f.slots;
  temps = f.temps;
  out = f.out;
  body = blocks_of f.body;
}

abbrev pub code_in_blocks : Code Stms → Code (List Block)
code_in_blocks code = record {
  functions = map in_blocks code.functions;
  literals = code.literals;
}

abbrev pub IsCanonicalFunction : Function Stms → Type 0
IsCanonicalFunction f = AreCanonical f.body × AreClosed f.body

abbrev pub BlocksAreCorrect : Type 0
BlocksAreCorrect =
    (code : Code Stms) (size : ℕ → ℕ) (floor room body : ℕ) (input : List ℕ) →
    AllByRecursion IsCanonicalFunction code.functions →
    Preserves 1 added_work (canonical_run code size floor room body input)
    (block_run (code_in_blocks code) size floor room body input)
