-- Trees as instructions: flattened, and instructions chosen for that.
use Rattle.std.specs.Prelude.{ℕ, ◌+◌, ◌*◌, ◌≤◌, List, []}
use Rattle.std.specs.List.{Contains}
use Rattle.tg_frame.specs.Homes.{slot_bound, temp_bound}
use Rattle.tg_simulation.specs.Bytes.{AreBytes}
use Rattle.tg_simulation.specs.Preserving.{Preserves}
use Rattle.tg_tree.specs.Tree.{Ts, Function, Literal, Code}
use Rattle.tg_tree.specs.Units.{Trees}
use Rattle.tg_tree.specs.Named.{constant, named_ts}
use Rattle.tg_tree.specs.Running.{tree_run}
use Rattle.tg_canon_trace_proof.specs.Flattened.{flattened, flattened_code, MayBeFlattened}
use Rattle.tg_canon_trace_proof.specs.laws.Laws as flattening
use Rattle.tg_instr.specs.declared.instr.Instr.{Instr}
use Rattle.tg_instr.specs.Lengths.{most_words}
use Rattle.tg_instr.specs.Running.{everywhere, code_run}
use Rattle.tg_munch_proof.specs.Words.{IsWord}
use Rattle.tg_munch_proof.specs.laws.Chosen as choosing
use Rattle.tg_munch_proof.specs.glue.Places.{each_one}
use Rattle.tg_correctness.specs.laws.Laws.{unit_words, kept_words}
use Rattle.tg_munch_proof.specs.laws.Chosen.{chosen_code, MayBeChosen}
use Rattle.tg_munch_proof.specs.laws.Chosen.{HasRoom}

-- a function of trees that the passes take: it may be flattened, its constants are words, and its
-- parameters have homes that its frame has drawn
pub record MayBeLowered (f : Function Ts) : Type 0 where
  pub flattened : MayBeFlattened f
  pub words : (n : ℕ) → Contains (named_ts f.body []) (constant n) → IsWord n
  pub homes : temp_bound f.params ≤ f.temps
  pub slots : slot_bound f.params ≤ f.slots

-- the flat code of such a function is such as instructions may be chosen for
abbrev pub FlatCodeMayBeChosen : Type 0
FlatCodeMayBeChosen = (f : Function Ts) → MayBeLowered f → MayBeChosen (flattened f)

-- a code of trees as one of instructions
abbrev pub lowered_code : Code Ts → Code (List Instr)
lowered_code code = chosen_code (flattened_code code)

-- what a run of trees needs besides: bytes in literals and input, and sizes and regions
pub record MayRun (code : Code Ts) (size : ℕ → ℕ) (floor room : ℕ) (input : List ℕ) : Type 0 where
  pub functions : (f : Function Ts) → Contains code.functions f → MayBeLowered f
  pub literals : (l : Literal) → Contains code.literals l → AreBytes l.text
  pub bytes : AreBytes input
  pub fits : HasRoom (flattened_code code) size floor room

-- units of work that a program does besides what its trees do
abbrev pub added_work : ℕ
added_work = flattening.added_work + choosing.added_work

-- Instructions do what the trees did, with at least as much fuel, the same output, input left and
-- end, and hardly more work.
abbrev pub LoweringIsCorrect : Type 0
LoweringIsCorrect =
    (code : Code Ts) (size : ℕ → ℕ) (floor room body : ℕ) (input : List ℕ) →
    MayRun code size floor room input →
    Preserves 1 added_work
    (tree_run Trees code size floor room body input)
    (code_run each_one (lowered_code code) size floor room body input)

-- and words that come of its instructions, in the end
abbrev pub added_words : ℕ
added_words = unit_words * flattening.added_work + kept_words

-- Counted in words, they do so many times the work.
abbrev pub LoweringKeepsWords : Type 0
LoweringKeepsWords =
    (code : Code Ts) (size : ℕ → ℕ) (floor room body : ℕ) (input : List ℕ) →
    MayRun code size floor room input →
    Preserves unit_words added_words
    (tree_run Trees code size floor room body input)
    (code_run (everywhere most_words) (lowered_code code) size floor room body input)
