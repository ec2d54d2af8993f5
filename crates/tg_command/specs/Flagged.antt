-- The flags on a command line, and the modes that take them.
use Rattle.std.specs.Prelude.{◌≡◌, ◌||◌, ◌&&◌, List, Bool, true, false, not, codes}
use Rattle.std.specs.Option.{option_map_or}
use Rattle.std.specs.Str.{bytes_eq}
use Rattle.clap.specs.Words.{Text}
use Rattle.tg_command.specs.Simple.{value_of}
use Rattle.tg_command.specs.declared.flags.Flags.{Flags}
use Rattle.tg_command.specs.declared.modes.Mode.{Mode}
use Rattle.tg_command.specs.declared.modes.Mode.TheVariants.{Check, Build, Run, Exec, Alloc, Gen}
use Rattle.tg_command.specs.declared.modes.Mode.TheVariants.{Show, Format, Bare}

-- the words give the flag: the parser's value of one that stands there is the word `true`
abbrev pub has_flag : Text → List Text → Bool
has_flag name words = option_map_or (λ t. bytes_eq t (codes "true")) (value_of name words) false

abbrev pub flags_of : List Text → Flags
flags_of words = record {
  watch = has_flag (codes "watch") words;
  fold = has_flag (codes "fold") words;
  bare = has_flag (codes "bare") words;
  explain = has_flag (codes "explain") words;
}

-- `--watch` is for the modes that run an image on the streams
abbrev pub takes_watch : Mode → Bool
takes_watch Run = true
takes_watch Exec = true
takes_watch _ = false

-- `--fold` is for those that compile
abbrev pub takes_fold : Mode → Bool
takes_fold Build = true
takes_fold Run = true
takes_fold Alloc = true
takes_fold Show = true
takes_fold Gen = true
takes_fold Bare = true
takes_fold _ = false

-- `--bare` is for the one that runs assembly text
abbrev pub takes_bare : Mode → Bool
takes_bare Exec = true
takes_bare _ = false

-- `--explain` is for those that read a source
abbrev pub takes_explain : Mode → Bool
takes_explain Check = true
takes_explain Build = true
takes_explain Run = true
takes_explain Alloc = true
takes_explain Show = true
takes_explain Format = true
takes_explain Bare = true
takes_explain _ = false

-- a mode takes the flags, and no run of the machine with delayed branches is watched
abbrev pub flags_fit : Mode → Flags → Bool
flags_fit mode flags =
    (takes_watch mode || not flags.watch) && (takes_fold mode || not flags.fold)
    && (takes_bare mode || not flags.bare) && (takes_explain mode || not flags.explain)
    && not (flags.watch && flags.bare)

-- the words give these flags, and the mode takes them
pub record GivesFlags (words : List Text) (mode : Mode) (flags : Flags) : Type 0 where
  pub given : flags ≡ flags_of words
  pub fit : flags_fit mode flags ≡ true
