-- The sizes and the steps of a run on a command line, and the modes that take them.
use Rattle.std.specs.Prelude.{◌&&◌, ◌||◌, List, Bool, true, false, Option, is_none, codes}
use Rattle.clap.specs.Words.{Text}
use Rattle.tg_command.specs.Simple.{value_of}
use Rattle.tg_command.specs.declared.modes.Mode.{Mode}
use Rattle.tg_command.specs.declared.modes.Mode.TheVariants.{Show}

-- each mode but `show` takes `--heap`, `--stack` and `--steps`, used or not
abbrev pub takes_sizes : Mode → Bool
takes_sizes Show = false
takes_sizes _ = true

-- a mode takes the values of the three options, where they are there
abbrev pub sizes_fit : Mode → (heap stack steps : Option Text) → Bool
sizes_fit mode heap stack steps =
    takes_sizes mode || (is_none heap && is_none stack && is_none steps)

-- a mode takes what the words give to them
abbrev pub given_sizes_fit : Mode → List Text → Bool
given_sizes_fit mode words =
    sizes_fit mode (value_of (codes "heap") words) (value_of (codes "stack") words)
    (value_of (codes "steps") words)
