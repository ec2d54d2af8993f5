-- The numbers on a command line: how they are spelt, and their limits.
use Rattle.std.specs.Prelude.{◌≡◌, ℕ, ◌≤◌, ◌%◌, List, length, Option, Some, None}
use Rattle.std.specs.Str.Parse.{IsNumeral, digits_value}
use Rattle.tg_command.specs.declared.counts.Limits.{Limits}
use Rattle.tg_command.specs.declared.modes.Mode.{Mode}
use Rattle.tg_command.specs.declared.modes.Mode.TheVariants.{Gen}

-- bytes of the heap: a multiple of 4
abbrev pub heap_limits : Limits
heap_limits = record { least = 4; most = 268435456; unit = 4; default = 16777216 }

-- bytes of the stack: a multiple of 4
abbrev pub stack_limits : Limits
stack_limits = record { least = 65536; most = 268435456; unit = 4; default = 67108864 }

-- steps of the machine
abbrev pub step_limits : Limits
step_limits = record { least = 1; most = 4611686018427387904; unit = 1; default = 1000000000 }

-- functions of a generated program; nothing stands for a number that is absent, since it never is
abbrev pub function_limits : Limits
function_limits = record { least = 1; most = 1000; unit = 1; default = 1 }

-- the number keeps the limits
pub record IsWithin (limits : Limits) (n : ℕ) : Type 0 where
  pub least : limits.least ≤ n
  pub most : n ≤ limits.most
  pub whole : n % limits.unit ≡ 0

-- the text spells the number by 1 to 20 decimal digits, leading zeros allowed, and the number keeps
-- the limits
pub record IsCount (text : List ℕ) (limits : Limits) (n : ℕ) : Type 0 where
  pub digits : IsNumeral 10 text
  pub few : length text ≤ 20
  pub value : n ≡ digits_value 10 text
  pub within : IsWithin limits n

-- an option gives the number: by its value, or by the default where it is absent
abbrev pub GivesCount : Limits → Option (List ℕ) → ℕ → Type 0
GivesCount limits None n = n ≡ limits.default
GivesCount limits (Some text) n = IsCount text limits n

-- a mode takes FILE for this number: `gen` for the one that it spells, any other mode for none
abbrev pub GivesNumber : Mode → (file : List ℕ) → ℕ → Type 0
GivesNumber Gen file n = IsCount file function_limits n
GivesNumber _ file n = n ≡ 0
