-- The values that the simple command takes from the words.
use Rattle.std.specs.Prelude.{◌≡◌, ℕ, List, Some, codes, option_map}
use Rattle.tg_command.specs.Simple.{IsTaken, value_of}
use Rattle.tg_command.specs.Flagged.{flags_of}
use Rattle.tg_command.specs.declared.simple.Values.{Values}

-- the simple command takes the words, and gives these values
pub record AreValuesOf (words : List (List ℕ)) (values : Values) : Type 0 where
  pub taken : IsTaken words
  pub mode : value_of (codes "mode") words ≡ Some values.mode.now
  pub file : value_of (codes "file") words ≡ Some values.file.now
  pub heap : value_of (codes "heap") words ≡ option_map (λ t. t.now) values.heap
  pub stack : value_of (codes "stack") words ≡ option_map (λ t. t.now) values.stack
  pub steps : value_of (codes "steps") words ≡ option_map (λ t. t.now) values.steps
  pub flags : values.flags ≡ flags_of words
