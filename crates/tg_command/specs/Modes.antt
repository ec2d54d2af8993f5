-- The words that name a mode.
use Rattle.std.specs.Prelude.{ℕ, List, codes}
use Rattle.tg_command.specs.declared.modes.Mode.{Mode}
use Rattle.tg_command.specs.declared.modes.Mode.TheVariants.{Check, Build, Run, Exec, Alloc, Gen}
use Rattle.tg_command.specs.declared.modes.Mode.TheVariants.{Show, Format, Bare}

-- the name of a mode
abbrev pub mode_name : Mode → List ℕ
mode_name Check = codes "check"
mode_name Build = codes "build"
mode_name Run = codes "run"
mode_name Exec = codes "exec"
mode_name Alloc = codes "alloc"
mode_name Show = codes "show"
mode_name Gen = codes "gen"
mode_name Format = codes "format"
mode_name Bare = codes "bare"
