-- The simple command `MODE FILE [--heap BYTES] [--stack BYTES] [--steps COUNT] [--watch] [--fold]
-- [--bare] [--explain]`, as the command line's parser knows it.
use Rattle.std.specs.Prelude.{◌≡◌, List, [], Option, Some, codes, true}
use Rattle.clap.specs.Words.{App, Rule, Text, new_app, new_rule, with_rule, fault_of, first_of}
use Rattle.clap.specs.Words.{matches_of}
use Rattle.clap.specs.declared.builder.ArgAction.TheVariants.{Set, SetTrue}
use Rattle.clap.specs.Simple.{on_top}

-- a positional that must be there
abbrev pub positional : Text → Rule
positional name = record (new_rule name) { required = true; action = Some Set }

-- an option with one value
abbrev pub option : Text → Rule
option name = record (new_rule name) { long = Some name; action = Some Set }

-- no flag asks for help or the version
abbrev pub without_flags : App → App
without_flags = on_top (λ s. record s { disable_help_flag = true; disable_version_flag = true })

-- a flag, which has no value of its own
abbrev pub flag_rule : Text → Rule
flag_rule name = record (new_rule name) { long = Some name; action = Some SetTrue }

abbrev pub simple_command : App
simple_command = with_rule (with_rule (with_rule (with_rule (with_rule (with_rule (with_rule
    (with_rule (with_rule (without_flags (new_app (codes "tiger")))
    (positional (codes "mode"))) (positional (codes "file")))
    (option (codes "heap"))) (option (codes "stack"))) (option (codes "steps")))
    (flag_rule (codes "watch"))) (flag_rule (codes "fold"))) (flag_rule (codes "bare")))
    (flag_rule (codes "explain"))

-- The simple command takes the words, of which the first is the program's name: by `clap`'s
-- `fault_of`, which lists the kinds of error of the first step of the parse that fails, no step
-- fails.
abbrev pub IsTaken : List Text → Type 0
IsTaken words = fault_of simple_command words ≡ []

-- the value that the words give to an argument
abbrev pub value_of : Text → List Text → Option Text
value_of name words = first_of name (matches_of simple_command words)
