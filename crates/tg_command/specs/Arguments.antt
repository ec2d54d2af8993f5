-- How the parser of the command line knows the arguments, and which of them have values.
use Rattle.std.specs.Prelude.{◌≡◌, ◌≤◌, None, codes, true, false, is_some}
use Rattle.clap.specs.Words.{Rule, Text, rule_of, first_value, found_of, IsParsedFrom, IsPlainArg}
use Rattle.clap.specs.Facts.{least_values}
use Rattle.clap.specs.declared.builder.arg.Arg.{Arg}
use Rattle.clap.specs.declared.builder.command.Command.{Command}
use Rattle.clap.specs.declared.parser.matches.ArgMatches.{ArgMatches}

-- the parser reads the argument by the rule, and none of its uses excludes anything
pub record IsArgument (rule : Rule) (a : Arg) : Type 0 where
  pub rule_is : rule_of a ≡ rule
  pub plain : IsPlainArg a
  pub local : a.global ≡ false

-- each use of the argument has a value
pub record IsValued (a : Arg) : Type 0 where
  pub undivided : a.val_delim ≡ None
  pub filled : 1 ≤ least_values a

-- the words that were parsed give a value to the argument
abbrev pub IsGiven : Text → ArgMatches → Type 0
IsGiven name m = is_some (first_value (found_of m) name) ≡ true

-- where the command takes words, they give values to the arguments that must be there
abbrev pub GivesRequired : Command → Type 0
GivesRequired command =
    (m : ArgMatches) → IsParsedFrom command m →
    IsGiven (codes "mode") m × IsGiven (codes "file") m
