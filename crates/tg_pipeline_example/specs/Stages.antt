-- The forms of a program, each made of the one before by a pass (Appel, chapters 6 to 11), and what
-- each does when it runs.
use Rattle.std.specs.Prelude.{ℕ, ◌+◌, ◌-◌, ◌*◌, ◌==◌, max, List, [], ◌∷◌, ◌++◌, map, filter}
use Rattle.std.specs.Prelude.{codes}
use Rattle.std.specs.Prelude.{false}
use Rattle.std.specs.Prelude.{nat_eq}
use Rattle.std.specs.List.{flat_map, list_any}
use Rattle.tg_machine_state.specs.State.{stack_top}
use Rattle.tg_syntax.specs.Tree.{Exp}
use Rattle.tg_simulation.specs.Ran.{Ran}
use Rattle.tg_typecheck.specs.declared.notes.Note.{Note}
use Rattle.tg_typecheck.specs.Answered.{meaning_at}
use Rattle.tg_tree.specs.Tree.{Ts, Stms, Linear, Function, Code}
use Rattle.tg_tree.specs.Units.{Trees}
use Rattle.tg_tree.specs.Running.{tree_run, canonical_run}
use Rattle.tg_tree.specs.Flat.{flat_run}
use Rattle.tg_runtime.specs.declared.routines.Routine.TheVariants.{Exit}
use Rattle.tg_runtime.specs.mirror.Labels.{label_of}
use Rattle.tg_runtime.specs.mirror.Routines.{runtime}
use Rattle.tg_translate.specs.mirror.Scopes.{Findings}
use Rattle.tg_translate.specs.mirror.Translate.{translated}
use Rattle.tg_canon.specs.mirror.Canon.{linearized}
use Rattle.tg_trace_schedule.specs.mirror.Cutting.{blocks_of}
use Rattle.tg_trace_schedule.specs.mirror.Laying.{traced}
use Rattle.tg_asm_text.specs.declared.keywords.Segment.TheVariants as segment
use Rattle.tg_asm_text.specs.Placement.{image_of}
use Rattle.tg_asm_text.specs.Assembly.{Assembled}
use Rattle.tg_isa.specs.ImageRuns.{machine_run}
use Rattle.tg_asm_text.specs.Texts as texts
use Rattle.tg_machine_state.specs.State.{initial_machine}
use Rattle.tg_instr.specs.declared.instr.Instr.{Instr}
use Rattle.tg_instr.specs.Lengths.{words_of, most_words}
use Rattle.tg_instr.specs.Running.{everywhere, code_run}
use Rattle.tg_munch.specs.mirror.Bodies.{munched, outs}
use Rattle.tg_redundancy.specs.mirror.Known.{known_code}
use Rattle.tg_regalloc.specs.mirror.InFrame.{code_in_frame}
use Rattle.tg_emit.specs.mirror.Lines.{entry, code_lines}
use Rattle.tg_emit_laws.specs.Images.{written_line}

-- what is found of a program, by its notes, its escaping variables and its links
abbrev pub findings : List Note → (escaping linking : List ℕ) → Findings
findings notes escaping linking = record {
  meaning = λ at. meaning_at at notes;
  escapes = λ at. list_any (nat_eq at) escaping;
  keeps_link = λ at. list_any (nat_eq at) linking;
}

module _ (program : Exp) (found : Findings) where
  -- trees; of the runtime the program calls `exit` alone, so the others are left out
  abbrev pub trees : Code Ts
  trees =
      let code = translated found program in
      record {
        functions =
            code.functions ++ filter (λ f. f.label == label_of Exit) runtime.functions;
        literals = code.literals;
      }

  -- canonical statements
  abbrev pub canonical_function : Function Ts → Function Stms
  canonical_function f =
      let drawn = linearized f.body f.temps in
      record {
        label = f.label;
        params = f.params;
        slots = f.slots;
        temps = drawn.next;
        out = f.out;
        body = drawn.it;
      }

  abbrev pub canonical : Code Stms
  canonical =
      record { functions = map canonical_function trees.functions; literals = trees.literals }

  -- blocks laid in traces
  abbrev pub flat_function : Function Stms → Function (List Linear)
  flat_function f = record {
    label = f.label;
    params = f.params;
    slots = f.slots;
    temps = f.temps;
    out = f.out;
    body = traced (blocks_of f.body);
  }

  abbrev pub flat : Code (List Linear)
  flat = record { functions = map flat_function canonical.functions; literals = trees.literals }

  -- instructions over temporaries
  abbrev pub chosen_function : Function (List Linear) → Function (List Instr)
  chosen_function f =
      let chosen = munched f in
      record {
        label = f.label;
        params = f.params;
        slots = f.slots;
        temps = chosen.drawn.temp;
        out = outs f.body;
        body = chosen.code;
      }

  abbrev pub instructions : Code (List Instr)
  instructions =
      record { functions = map chosen_function flat.functions; literals = trees.literals }

  -- without what is known
  abbrev pub known_function : Function (List Instr) → Function (List Instr)
  known_function f = record {
    label = f.label;
    params = f.params;
    slots = f.slots;
    temps = f.temps;
    out = f.out;
    body = known_code f.body;
  }

  abbrev pub known : Code (List Instr)
  known =
      record { functions = map known_function instructions.functions; literals = trees.literals }

  -- over registers, each temporary in a slot of its own
  abbrev pub function_in_frame : Function (List Instr) → Function (List Instr)
  function_in_frame f = record {
    label = f.label;
    params = f.params;
    slots = f.slots + f.temps;
    temps = 0;
    out = f.out;
    body = code_in_frame f.slots f.body;
  }

  abbrev pub in_frames : Code (List Instr)
  in_frames =
      record { functions = map function_in_frame known.functions; literals = trees.literals }

  -- the image of their lines
  abbrev pub frame_bytes : Function (List Instr) → ℕ
  frame_bytes f = max 8 (4 * (f.slots + f.out))

  abbrev pub lines_of : Function (List Instr) → List texts.Line
  lines_of f =
      map written_line
      (entry f.label (frame_bytes f) ++ code_lines false f.label (frame_bytes f) 0 f.body)

  abbrev pub image : Assembled
  image =
      image_of (texts.readings_of
      (texts.Enter segment.Code ∷ texts.Globl (codes "main")
      ∷ flat_map lines_of in_frames.functions))

  -- Runs with so much fuel, on no input, with 64 bytes of heap, in each form.

  abbrev size : ℕ → ℕ
  size label = 512

  abbrev bottom : ℕ
  bottom = stack_top - 16384

  abbrev pub as_trees : (fuel : ℕ) → Ran
  as_trees fuel = tree_run Trees trees size bottom 64 32 [] fuel

  abbrev pub as_canonical : (fuel : ℕ) → Ran
  as_canonical fuel = canonical_run canonical size bottom 64 32 [] fuel

  abbrev pub as_flat : (fuel : ℕ) → Ran
  as_flat fuel = flat_run flat size bottom 64 32 [] fuel

  abbrev pub as_instructions : (fuel : ℕ) → Ran
  as_instructions fuel = code_run (everywhere words_of) instructions size bottom 64 32 [] fuel

  abbrev pub as_known : (fuel : ℕ) → Ran
  as_known fuel = code_run (everywhere words_of) known size bottom 64 32 [] fuel

  -- where each instruction counts the words that an allocation makes of it at most
  abbrev pub as_most_words : (fuel : ℕ) → Ran
  as_most_words fuel =
      code_run (everywhere most_words) known size bottom 64 32 [] fuel

  abbrev pub as_in_frames : (fuel : ℕ) → Ran
  as_in_frames fuel =
      code_run (everywhere words_of) in_frames size bottom 64 32 [] fuel

  abbrev pub as_image : (fuel : ℕ) → Ran
  as_image fuel =
      machine_run (initial_machine image.code image.statics image.entry 64 2048) [] fuel
