-- The situation of an instruction, and what is asked of each, so that the induction over code and
-- fuel gives the first half.
use Rattle.std.specs.Prelude.{ℕ, ◌+◌, ◌*◌, ◌%◌, ◌^◌, ◌≡◌, ◌<◌, ◌≤◌, List, ◌∷◌, ◌++◌, Some}
use Rattle.std.specs.Prelude.{All, IsTrue}
use Rattle.std.specs.List.{Contains, list_all}
use Rattle.tg_machine_state.specs.State.{MachineState, statics_base, most_room}
use Rattle.tg_simulation.specs.Runs.{Run}
use Rattle.tg_simulation.specs.Ran.{Ran}
use Rattle.tg_simulation.specs.laws.Simulating.{Simulates}
use Rattle.tg_tree.specs.Actions.{World, Activation, charged}
use Rattle.tg_tree.specs.Memory.{literal_address}
use Rattle.tg_tree.specs.Running.{function_of}
use Rattle.tg_tree.specs.Tree.{Function}
use Rattle.tg_instr.specs.declared.instr.Instr.{Instr}
use Rattle.tg_instr.specs.Codes.{is_of_colours}
use Rattle.tg_instr.specs.Shapes.{InstructionShape, shape}
use Rattle.tg_instr.specs.Contents.{Contents}
use Rattle.tg_instr.specs.Meaning.{Back, act}
use Rattle.tg_instr.specs.Running.{CodePoint}
use Rattle.tg_emit.specs.declared.assembly.Line.{Line}
use Rattle.tg_emit.specs.declared.assembly.Line.TheVariants.{Label}
use Rattle.tg_emit.specs.mirror.Names.{literal_name}
use Rattle.tg_emit.specs.Ranges.{InstructionFits}
use Rattle.tg_emit_proof.specs.LinesRun.{left, behind, address_from}
use Rattle.tg_emit_proof.specs.Setting.{Setting, steps_of, from, enter, around, code_from}
use Rattle.tg_emit_proof.specs.glue.Standing.{Finds, FunctionStands, CallsComeBack, BackGoesOn}
use Rattle.tg_emit_proof.specs.glue.Standing.{Stands, CodeGoesOn}

-- a function's frame: in whole words, two at least, as a number of 30 bits, with its slots and its
-- words for arguments
pub record HasSize (size : ℕ) (f : Function (List Instr)) : Type 0 where
  pub some : 8 ≤ size
  pub whole : size % 4 ≡ 0
  pub most : size < 2 ^ 29
  pub holds : 4 * (f.slots + f.out) ≤ size

-- What is known of a program and its lines wherever a run of it stands.
pub record IsEmitted (g : Setting) : Type 0 where
  -- each function stands in the lines, with a frame of its size
  pub functions :
      (f : Function (List Instr)) → Contains g.program.functions f → FunctionStands g f
  pub frames :
      (f : Function (List Instr)) → Contains g.program.functions f → HasSize (g.size f.label) f
  -- its code names registers alone, and its numbers fit
  pub names :
      (f : Function (List Instr)) → Contains g.program.functions f →
      IsTrue (list_all is_of_colours f.body)
  pub numbers :
      (f : Function (List Instr)) → Contains g.program.functions f → All InstructionFits f.body
  -- a label that is found is that of such a function
  pub found :
      (label : ℕ) (f : Function (List Instr)) →
      function_of label g.program.functions ≡ Some f →
      Contains g.program.functions f × (f.label ≡ label)
  -- a literal's address is that of its name
  pub addresses :
      (label a : ℕ) → label < 2 ^ 32 → literal_address g.program.literals label ≡ Some a →
      (address_from statics_base (literal_name label) g.literals ≡ Some a) × (a < 2 ^ 32)
  -- each label leads to what comes after it, calls come back, and the regions are apart
  pub labels :
      (front rest : List Line) (name : List ℕ) → g.lines ≡ front ++ Label name ∷ rest →
      behind name g.lines ≡ Some (left rest)
  pub comes : CallsComeBack g
  pub room_most : g.room ≤ most_room
  pub stack_most : g.stack ≤ most_room
  pub stack_words : g.stack % 4 ≡ 0

abbrev pub point :
    Function (List Instr) → List Instr → Activation → Back → World → Contents → CodePoint
point f rest a back w contents = record {
  function = f;
  rest = rest;
  activation = a;
  back = back;
  world = w;
  contents = contents;
}

-- The run stands at an instruction, less fuel goes on everywhere, and what is after it goes on.
pub record At (g : Setting) (one : Instr) : Type 0 where
  pub known : IsEmitted g
  pub credit : ℕ
  pub fuel : ℕ
  -- what each activation and this one found in the registers
  pub finds : Finds
  pub found : ℕ → ℕ
  -- the place in the code, and what comes after the function's return
  pub function : Function (List Instr)
  pub rest : List Instr
  pub activation : Activation
  pub back : Back
  pub world : World
  pub contents : Contents
  -- the place in the lines
  pub here : List Line
  pub state : MachineState
  pub stands :
      Stands g finds found (point function (one ∷ rest) activation back world contents) here state
  pub after : BackGoesOn g credit fuel finds found activation.base back
  pub less : (m : ℕ) → m < fuel → CodeGoesOn g credit m
  pub next :
      (w : World) (contents1 : Contents) (here1 : List Line) (t : MachineState) →
      Stands g finds found (point function rest activation back w contents1) here1 t →
      Simulates 1 credit fuel
      (code_from g function rest activation back w contents1) (from g here1 t w.input)

module _ (g : Setting) (one : Instr) (k : At g one) where
  -- what is after the instruction
  abbrev pub onward : World → Contents → Run Ran
  onward w contents = code_from g k.function k.rest k.activation k.back w contents

  -- what the code does from here, by the instruction's shape
  abbrev pub acts : InstructionShape → Run Ran
  acts way =
      act g.room g.program.literals (enter g) way (around g k.function k.activation k.back)
      onward k.world k.contents

  -- the lines follow this run
  abbrev pub LinesFollow : Run Ran → Type 0
  LinesFollow c = Simulates 1 k.credit k.fuel c (from g k.here k.state k.world.input)

-- what is asked of an instruction, and of all
abbrev pub InstructionGoesOn : Setting → Instr → Type 0
InstructionGoesOn g one =
    (k : At g one) → LinesFollow g one k (charged (steps_of one) (acts g one k (shape one)))

abbrev pub InstructionsGoOn : Setting → Type 0
InstructionsGoOn g = (one : Instr) → InstructionGoesOn g one
