-- Blocks are laid as flat code that does what they do.
use Rattle.std.specs.Prelude.{ℕ, List, map}
use Rattle.std.specs.List.{AllByRecursion}
use Rattle.tg_simulation.specs.Preserving.{Preserves}
use Rattle.tg_tree.specs.Tree.{Linear, Function, Literal, Code}
use Rattle.tg_tree.specs.Units.{entry_units}
use Rattle.tg_tree.specs.Carrying.{BodyCarried}
use Rattle.tg_tree.specs.Running.{Runner}
use Rattle.tg_tree.specs.Flat.{run_flat_body, flat_going, flat_run}
use Rattle.tg_trace_schedule.specs.Block.{Block}
use Rattle.tg_trace_schedule.specs.mirror.Laying.{traced}
use Rattle.tg_trace_schedule.specs.Shapes.{AreWhole}
use Rattle.tg_trace_schedule.specs.laws.Heads.{AreEnteredAtHeads}
use Rattle.tg_trace_schedule.specs.Meaning.{block_going, run_block_body, block_run}

-- blocks that may be laid
pub record MayBeLaid (bs : List Block) : Type 0 where
  pub whole : AreWhole bs
  pub entered : AreEnteredAtHeads bs

-- a function of blocks as one of flat code
abbrev pub laid : Function (List Block) → Function (List Linear)
laid f = record {
  label = f.label;
  params = f.params;
  slots = f.slots;
  temps = f.temps;
  out = f.out;
  body = traced f.body;
}

abbrev pub laid_all : Code (List Block) → Code (List Linear)
laid_all code = record { functions = map laid code.functions; literals = code.literals }

module _ (size : ℕ → ℕ) (floor room : ℕ) where
  -- what runs the body of a function, of blocks and of flat code
  abbrev pub block_runner : Code (List Block) → Runner (List Block)
  block_runner code = run_block_body code size floor room (block_going code size floor room)

  abbrev pub flat_runner : Code (List Linear) → Runner (List Linear)
  flat_runner code = run_flat_body code size floor room (flat_going code size floor room)

-- the units of work that laying adds to a call
abbrev pub laying_work : ℕ
laying_work = 0

-- the code of a body does what its blocks do, if calls do
abbrev pub TracesCarryBodies : Type 0
TracesCarryBodies =
    (size : ℕ → ℕ) (floor room : ℕ) (literals : List Literal)
    (functions : List (Function (List Block))) (flat : List (Function (List Linear)))
    (bs : List Block) →
    MayBeLaid bs →
    BodyCarried 1 laying_work size floor entry_units entry_units
    (block_runner size floor room (record { functions = functions; literals = literals }))
    (flat_runner size floor room (record { functions = flat; literals = literals }))
    functions flat bs (traced bs)

-- so a program does: no run that doesn't go wrong takes more work than its blocks, or less fuel
abbrev pub TracesAreCorrect : Type 0
TracesAreCorrect =
    (code : Code (List Block)) (size : ℕ → ℕ) (floor room body : ℕ) (input : List ℕ) →
    AllByRecursion (λ f. MayBeLaid f.body) code.functions →
    Preserves 1 laying_work
    (block_run code size floor room body input)
    (flat_run (laid_all code) size floor room body input)
