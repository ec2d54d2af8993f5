-- A code of instructions, chosen function by function for flat code, and what is asked of that.
use Rattle.std.specs.Prelude.{ℕ, ◌+◌, ◌*◌, ◌≤◌, List, [], length, map}
use Rattle.std.specs.List.{Contains}
use Rattle.tg_machine_state.specs.State.{statics_base, heap_base, stack_top}
use Rattle.tg_frame.specs.Homes.{slot_bound, temp_bound}
use Rattle.tg_simulation.specs.Preserving.{Preserves}
use Rattle.tg_tree.specs.Tree.{Linear, Function, Literal, Code}
use Rattle.tg_tree.specs.Memory.{statics_of}
use Rattle.tg_tree.specs.Shapes.{IsFlatCode, IsWellMarked}
use Rattle.tg_tree.specs.Named.{constant, named_flat, HasItsTemps}
use Rattle.tg_tree.specs.FrameSizes.{IsSizeOf}
use Rattle.tg_tree.specs.Flat.{flat_run}
use Rattle.tg_instr.specs.declared.instr.Instr.{Instr}
use Rattle.tg_instr.specs.Lengths.{most_words}
use Rattle.tg_instr.specs.Running.{Units, everywhere, code_run}
use Rattle.tg_munch.specs.laws.Lengths.{kept_count}
use Rattle.tg_munch.specs.mirror.Bodies.{munched, outs}
use Rattle.tg_simulation.specs.Bytes.{AreBytes}
use Rattle.tg_correctness.specs.laws.Laws.{unit_words, kept_words}
use Rattle.tg_munch_proof.specs.Words.{IsWord}
use Rattle.tg_munch_proof.specs.glue.Places.{each_one}

-- a function of flat code as one of instructions
abbrev pub chosen : Function (List Linear) → Function (List Instr)
chosen f = record {
  label = f.label;
  params = f.params;
  slots = f.slots;
  temps = (munched f).drawn.temp;
  out = outs f.body;
  body = (munched f).code;
}

-- and a code of such functions
abbrev pub chosen_code : Code (List Linear) → Code (List Instr)
chosen_code code = record {
  functions = map chosen code.functions;
  literals = code.literals;
}

-- a function for which instructions are chosen: flat code that goes to none but its own marks, with
-- homes and temporaries that its frame has drawn
pub record MayBeChosen (f : Function (List Linear)) : Type 0 where
  pub flat : IsFlatCode f.body
  pub marked : IsWellMarked f.body
  pub words : (n : ℕ) → Contains (named_flat f.body []) (constant n) → IsWord n
  pub temps : HasItsTemps (λ body. named_flat body []) f
  pub homes : temp_bound f.params ≤ f.temps
  pub slots : slot_bound f.params ≤ f.slots

-- Sizes, with the words for arguments that the chosen code has, and regions that lie one above the
-- other.
pub record HasRoom (code : Code (List Linear)) (size : ℕ → ℕ) (floor room : ℕ) : Type 0 where
  pub sizes :
      (f : Function (List Linear)) → Contains code.functions f →
      IsSizeOf (chosen f) (size f.label)
  pub statics : statics_base + length (statics_of code.literals) ≤ heap_base
  pub heap : heap_base + room ≤ floor
  pub stack : floor ≤ stack_top

-- units of work that a program does besides what its flat code does: registers kept by its body
abbrev pub added_work : ℕ
added_work = kept_count

-- Instructions do what the flat code did: each run of that which doesn't go wrong is one of theirs,
-- with at least as much fuel, the same output, input left and end, and hardly more work.
abbrev pub MunchIsCorrect : Type 0
MunchIsCorrect =
    (code : Code (List Linear)) (size : ℕ → ℕ) (floor room body : ℕ) (input : List ℕ) →
    ((f : Function (List Linear)) → Contains code.functions f → MayBeChosen f) →
    ((l : Literal) → Contains code.literals l → AreBytes l.text) →
    AreBytes input →
    HasRoom code size floor room →
    Preserves 1 added_work
    (flat_run code size floor room body input)
    (code_run each_one (chosen_code code) size floor room body input)

-- each instruction counts at most so many units
abbrev pub CountsAtMost : (most : ℕ) → Units → Type 0
CountsAtMost most count = (label left : ℕ) (one : Instr) → count label left one ≤ most

-- However instructions are counted, at most so many units each, they do at most so many times the
-- work.
abbrev pub MunchKeepsCounts : Type 0
MunchKeepsCounts =
    (most : ℕ) (count : Units) →
    1 ≤ most →
    CountsAtMost most count →
    (code : Code (List Linear)) (size : ℕ → ℕ) (floor room body : ℕ) (input : List ℕ) →
    ((f : Function (List Linear)) → Contains code.functions f → MayBeChosen f) →
    ((l : Literal) → Contains code.literals l → AreBytes l.text) →
    AreBytes input →
    HasRoom code size floor room →
    Preserves most (most * added_work)
    (flat_run code size floor room body input)
    (code_run count (chosen_code code) size floor room body input)

-- Whatever the code: counted so, it does at most so many times the work that it does where each
-- instruction counts a unit.
abbrev pub CodeKeepsCounts : Type 0
CodeKeepsCounts =
    (most : ℕ) (count : Units) →
    1 ≤ most →
    CountsAtMost most count →
    (code : Code (List Instr)) (size : ℕ → ℕ) (floor room body : ℕ) (input : List ℕ) →
    Preserves most 0
    (code_run each_one code size floor room body input)
    (code_run count code size floor room body input)

-- Counted in words, they do so many times the work.
abbrev pub MunchKeepsWords : Type 0
MunchKeepsWords =
    (code : Code (List Linear)) (size : ℕ → ℕ) (floor room body : ℕ) (input : List ℕ) →
    ((f : Function (List Linear)) → Contains code.functions f → MayBeChosen f) →
    ((l : Literal) → Contains code.literals l → AreBytes l.text) →
    AreBytes input →
    HasRoom code size floor room →
    Preserves unit_words kept_words
    (flat_run code size floor room body input)
    (code_run (everywhere most_words) (chosen_code code) size floor room body input)

-- whatever the code
abbrev pub CodeKeepsWords : Type 0
CodeKeepsWords =
    (code : Code (List Instr)) (size : ℕ → ℕ) (floor room body : ℕ) (input : List ℕ) →
    Preserves unit_words 0
    (code_run each_one code size floor room body input)
    (code_run (everywhere most_words) code size floor room body input)
