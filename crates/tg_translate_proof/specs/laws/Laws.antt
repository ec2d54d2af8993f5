-- The translation, with the runtime, keeps the meaning of the source.
use Rattle.std.specs.Prelude.{ℕ, ◌-◌, ◌≡◌, ◌≢◌, ◌≤◌, ◌<◌, ◌⊎◌, List, length, All, Option}
use Rattle.std.specs.FinSet.{from_list}
use Rattle.tg_machine_state.specs.declared.ends.RunEnd.{RunEnd}
use Rattle.tg_machine_state.specs.declared.ends.RunEnd.TheVariants.{StackFull}
use Rattle.tg_machine_state.specs.State.{stack_top, most_room, most_bytes}
use Rattle.tg_syntax.specs.OfWords.{OfWords}
use Rattle.tg_syntax.specs.Functions.{Measures, program_functions}
use Rattle.tg_simulation.specs.Runs.{Run}
use Rattle.tg_simulation.specs.Bytes.{IsPrefix}
use Rattle.tg_simulation.specs.Ran.{Ran, Ended, WantsFuel}
use Rattle.tg_simulation.specs.Agreement.{Source, Follows, Agrees, FillsStack}
use Rattle.tg_semantics.specs.MachineRuns.{program_run}
use Rattle.tg_typecheck.specs.Programs.{CheckedProgram, IsAccepted}
use Rattle.tg_escape.specs.Escaping.{escapes_of}
use Rattle.tg_escape.specs.Links.{links_of}
use Rattle.tg_tree.specs.Tree.{Ts, Code}
use Rattle.tg_tree.specs.Units.{Trees}
use Rattle.tg_tree.specs.FrameSizes.{AreAllowed}
use Rattle.tg_tree.specs.Memory.{statics_of}
use Rattle.tg_tree.specs.Running.{tree_run}
use Rattle.tg_tree.specs.Links.{linked_run, LinksAreRight}
use Rattle.tg_translate.specs.mirror.Scopes.{Findings, found}
use Rattle.tg_translate.specs.mirror.Translate.{translated}
use Rattle.tg_translate_laws.specs.Programs.{with_runtime}
use Rattle.tg_translate_laws.specs.laws.Laws.{names}
use Rattle.tg_correctness.specs.laws.Laws.{tree_work, tree_besides}
use Rattle.tg_translate_proof.specs.Bounds.{measures_of, bound_by, level_by}

-- a checked program, and what is found of it
abbrev pub findings_of : CheckedProgram → Findings
findings_of p = found p.notes (from_list (escapes_of p.body)) (from_list (links_of p.body))

abbrev pub own_trees : CheckedProgram → Code Ts
own_trees p = translated (findings_of p) p.body

abbrev pub trees_of : CheckedProgram → Code Ts
trees_of p = with_runtime (own_trees p)

-- the measures of the function with this label
abbrev pub measures_in : CheckedProgram → (label : ℕ) → Option Measures
measures_in p label = measures_of label (program_functions p.body) (own_trees p).functions

-- the bytes that its frame may have, and its level
abbrev pub bound_in : CheckedProgram → (label : ℕ) → ℕ
bound_in p label = bound_by (measures_in p label)

abbrev pub level_in : CheckedProgram → (label : ℕ) → ℕ
level_in p label = level_by (measures_in p label)

-- What a run asks for: the tree is that of a text, its literals have place in the statics, and so
-- have heap and stack in their regions; frames have allowed sizes; the input is bytes.
pub record MayRun (p : CheckedProgram) (size : ℕ → ℕ) (heap stack : ℕ) (input : List ℕ) : Type 0
  where
    pub accepted : IsAccepted p
    pub words : OfWords p.body
    pub statics : length (statics_of (trees_of p).literals) ≤ most_bytes
    pub sizes : AreAllowed names (trees_of p).functions (bound_in p) size
    pub heap_small : heap ≤ most_room
    pub stack_small : stack ≤ most_room
    pub bytes : All (λ b. b < 256) input

abbrev pub source_run : CheckedProgram → (heap stack : ℕ) → (input : List ℕ) → Run Source
source_run p heap stack input = program_run p.names p.body input heap stack

abbrev pub trees_run : CheckedProgram → (size : ℕ → ℕ) → (heap stack : ℕ) → List ℕ → Run Ran
trees_run p size heap stack input =
    tree_run Trees (trees_of p) size (stack_top - stack) heap 32 input

-- The run in which a call with a wrong static link goes wrong: the one that is simulated.
abbrev pub with_links : CheckedProgram → (size : ℕ → ℕ) → (heap stack : ℕ) → List ℕ → Run Ran
with_links p size heap stack input =
    linked_run Trees (trees_of p) size (stack_top - stack) heap (level_in p) 32 input

-- the simulation
abbrev pub LinkedTreesFollow : Type 0
LinkedTreesFollow =
    (p : CheckedProgram) (size : ℕ → ℕ) (heap stack : ℕ) (input : List ℕ) →
    MayRun p size heap stack input →
    (n : ℕ) →
    Follows stack tree_work tree_besides n (source_run p heap stack input)
    (with_links p size heap stack input)

-- The trees agree with the source, both ways, and never go wrong; calls too deep fill the stack;
-- static links are right. (That a frame has at most one slot more than it has escaping variables is
-- a law of its own.)
pub record IsKept (p : CheckedProgram) (size : ℕ → ℕ) (heap stack : ℕ) (input : List ℕ) : Type 0
  where
    pub follows :
        (n : ℕ) →
        Follows stack tree_work tree_besides n (source_run p heap stack input)
        (trees_run p size heap stack input)
    pub agrees :
        Agrees tree_work tree_besides (source_run p heap stack input)
        (trees_run p size heap stack input)
    pub fills : FillsStack stack (source_run p heap stack input) (trees_run p size heap stack input)
    pub links : LinksAreRight Trees (trees_of p) size (stack_top - stack) heap (level_in p) 32 input

abbrev pub TranslateIsCorrect : Type 0
TranslateIsCorrect =
    (p : CheckedProgram) (size : ℕ → ℕ) (heap stack : ℕ) (input : List ℕ) →
    MayRun p size heap stack input → IsKept p size heap stack input

-- The static link of each call of a declared function is the frame address of the current
-- activation of the function that declares it: the run that looks at links is the run.
abbrev pub LinksOfCallsAreRight : Type 0
LinksOfCallsAreRight =
    (p : CheckedProgram) (size : ℕ → ℕ) (heap stack : ℕ) (input : List ℕ) →
    MayRun p size heap stack input →
    LinksAreRight Trees (trees_of p) size (stack_top - stack) heap (level_in p) 32 input

-- With other sizes of frames a run ends in the same way, with the same output and input left; or
-- the stack is full, and what was written is a prefix of that output.
pub record EndsAlike (p : Ran) (other : Ran) : Type 0 where
  pub stops : other.stop ≡ p.stop
  pub output : other.output ≡ p.output
  pub input : other.input ≡ p.input

pub record IsFullBefore (p : Ran) (other : Ran) : Type 0 where
  pub full : other.stop ≡ Ended StackFull
  pub front : IsPrefix other.output p.output

abbrev pub SizesTellNothing : Type 0
SizesTellNothing =
    (p : CheckedProgram) (one other : ℕ → ℕ) (heap stack : ℕ) (input : List ℕ) →
    MayRun p one heap stack input → MayRun p other heap stack input →
    (m : ℕ) (e : RunEnd) →
    (trees_run p one heap stack input m).stop ≡ Ended e → e ≢ StackFull →
    (k : ℕ) ×
    (EndsAlike (trees_run p one heap stack input m) (trees_run p other heap stack input k) ⊎
    IsFullBefore (trees_run p one heap stack input m) (trees_run p other heap stack input k))

-- As far as one likes, the second run goes on as the first does, with the same output and input
-- left; or its stack is full, and what was written is a prefix.
abbrev pub GoOnAlike : (n : ℕ) → Run Ran → Run Ran → Type 0
GoOnAlike n c d =
    (m : ℕ) × (n ≤ m) × (k : ℕ) × (EndsAlike (c m) (d k) ⊎ IsFullBefore (c m) (d k))

-- So does a run that never ends, with other sizes of frames.
abbrev pub RunsGoOnAlike : Type 0
RunsGoOnAlike =
    (p : CheckedProgram) (one other : ℕ → ℕ) (heap stack : ℕ) (input : List ℕ) →
    MayRun p one heap stack input → MayRun p other heap stack input →
    ((m : ℕ) → (trees_run p one heap stack input m).stop ≡ WantsFuel) →
    (n : ℕ) →
    GoOnAlike n (trees_run p one heap stack input) (trees_run p other heap stack input)
