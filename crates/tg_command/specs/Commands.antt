-- What the words of a command line ask for.
use Rattle.std.specs.Prelude.{◌≡◌, ℕ, List, Some, true, false, codes, string_bytes}
use Rattle.tg_command.specs.Counts.{GivesCount, GivesNumber, IsWithin, function_limits, heap_limits}
use Rattle.tg_command.specs.Counts.{stack_limits, step_limits}
use Rattle.tg_command.specs.Flagged.{GivesFlags, flags_fit, flags_of}
use Rattle.tg_command.specs.Modes.{mode_name}
use Rattle.tg_command.specs.Simple.{IsTaken, value_of}
use Rattle.tg_command.specs.Sizes.{given_sizes_fit}
use Rattle.tg_command.specs.declared.Command.{Command}
use Rattle.tg_command.specs.declared.CommandFault.{CommandFault}
use Rattle.tg_command.specs.declared.CommandFault.TheVariants.{Usage, Memory}
use Rattle.tg_command.specs.declared.flags.Flags.{Flags}
use Rattle.tg_command.specs.declared.modes.Mode.{Mode}
use Rattle.tg_command.specs.declared.modes.Mode.TheVariants.{Gen}

-- what a command line can ask for: a mode, a file by its name, the number of functions in `gen`,
-- the bytes of heap and of stack, the steps, and the flags
pub record Asked : Type 0 where
  pub mode : Mode
  pub file : List ℕ
  pub number : ℕ
  pub heap : ℕ
  pub stack : ℕ
  pub steps : ℕ
  pub flags : Flags

-- what a command asks for
abbrev pub asked_of : Command → Asked
asked_of c = record {
  mode = c.mode;
  file = string_bytes c.file;
  number = c.number;
  heap = c.heap;
  stack = c.stack;
  steps = c.steps;
  flags = c.flags;
}

-- the number of functions of `gen`, the sizes and the steps keep their limits, and the mode takes
-- the flags
pub record KeepsLimits (a : Asked) : Type 0 where
  pub number : a.mode ≡ Gen → IsWithin function_limits a.number
  pub heap : IsWithin heap_limits a.heap
  pub stack : IsWithin stack_limits a.stack
  pub steps : IsWithin step_limits a.steps
  pub flags : flags_fit a.mode a.flags ≡ true

-- the words ask for this
pub record Ask (words : List (List ℕ)) (a : Asked) : Type 0 where
  pub taken : IsTaken words
  pub mode : value_of (codes "mode") words ≡ Some (mode_name a.mode)
  pub file : value_of (codes "file") words ≡ Some a.file
  pub number : GivesNumber a.mode a.file a.number
  pub heap : GivesCount heap_limits (value_of (codes "heap") words) a.heap
  pub stack : GivesCount stack_limits (value_of (codes "stack") words) a.stack
  pub steps : GivesCount step_limits (value_of (codes "steps") words) a.steps
  pub sizes : given_sizes_fit a.mode words ≡ true
  pub flags : GivesFlags words a.mode a.flags

-- the words ask for nothing: the simple command refuses them, no mode has the name, a value, in
-- `gen` FILE too, is no number within its limits, or the mode doesn't take the sizes or the flags
pub data IsUsageFault (words : List (List ℕ)) : Type 0 where
  refused : (IsTaken words → ⊥) → IsUsageFault words
  mode : ((m : Mode) → value_of (codes "mode") words ≡ Some (mode_name m) → ⊥) → IsUsageFault words
  number :
      (m : Mode) (file : List ℕ) →
      value_of (codes "mode") words ≡ Some (mode_name m) →
      value_of (codes "file") words ≡ Some file →
      ((n : ℕ) → GivesNumber m file n → ⊥) →
      IsUsageFault words
  heap :
      ((n : ℕ) → GivesCount heap_limits (value_of (codes "heap") words) n → ⊥) →
      IsUsageFault words
  stack :
      ((n : ℕ) → GivesCount stack_limits (value_of (codes "stack") words) n → ⊥) →
      IsUsageFault words
  steps :
      ((n : ℕ) → GivesCount step_limits (value_of (codes "steps") words) n → ⊥) →
      IsUsageFault words
  sizes :
      (m : Mode) →
      value_of (codes "mode") words ≡ Some (mode_name m) →
      given_sizes_fit m words ≡ false →
      IsUsageFault words
  flags :
      (m : Mode) →
      value_of (codes "mode") words ≡ Some (mode_name m) →
      flags_fit m (flags_of words) ≡ false →
      IsUsageFault words

-- what a fault says of the words; out of memory says nothing
abbrev pub Blames : CommandFault → List (List ℕ) → Type 0
Blames Usage words = IsUsageFault words
Blames Memory words = Unit {0}
