-- The modes: each has a file of its own, which says whether it reads a file, what is due, and which
-- streams it touches.
use Rattle.tg_irc_definition.specs.Policies.{Rule as SpillRule}
use Rattle.tg_command.specs.declared.modes.Mode.{Mode}
use Rattle.tg_command.specs.declared.modes.Mode.TheVariants.{Check, Build, Run, Exec, Alloc, Gen}
use Rattle.tg_command.specs.declared.modes.Mode.TheVariants.{Show, Format, Bare}
use Rattle.tg_command.specs.Commands.{Asked}
use Rattle.tg_driver.specs.declared.answers.Answer.{Answer}
use Rattle.tg_driver.specs.Calls.{Shelved, Streams}
use Rattle.tg_driver.specs.Passes.{passes_of}
use Rattle.tg_driver.specs.Runs.{RunRelation}
use Rattle.tg_driver.specs.CheckMode.{ByCheck}
use Rattle.tg_driver.specs.Writing.{Texts}
use Rattle.tg_correctness.specs.Assemblies.{IsAsMeant}
use Rattle.tg_driver.specs.BuildMode.{ByBuild}
use Rattle.tg_driver.specs.RunMode.{ByRun}
use Rattle.tg_driver.specs.ExecMode.{ByExec}
use Rattle.tg_driver.specs.AllocMode.{Lists, ByAlloc}
use Rattle.tg_driver.specs.ShowMode.{Shows, ByShow}
use Rattle.tg_driver.specs.GenMode.{ByGen}
use Rattle.tg_driver.specs.FormatMode.{ByFormat}
use Rattle.tg_driver.specs.BareMode.{IsMeantForBare, ByBare}

-- the answer is due in the mode, by these texts of sources with the passes that are asked for, and of
-- the runs of `run` and of `exec` this is said
abbrev pub InModeBy :
    {H I O : Type 0} → Texts → (runs : RunRelation) →
    Mode → Shelved H → Streams I O → Asked → Answer → Type 0
InModeBy texts runs Check shelf s asked answer = ByCheck shelf s asked answer
InModeBy texts runs Build shelf s asked answer =
    ByBuild (texts.assembly (passes_of asked)) shelf s asked answer
InModeBy texts runs Run shelf s asked answer =
    ByRun (texts.assembly (passes_of asked)) runs shelf s asked answer
InModeBy texts runs Exec shelf s asked answer = ByExec runs shelf s asked answer
InModeBy texts runs Alloc shelf s asked answer =
    ByAlloc (texts.listing (passes_of asked)) shelf s asked answer
InModeBy texts runs Show shelf s asked answer =
    ByShow (texts.shown (passes_of asked)) shelf s asked answer
InModeBy texts runs Gen shelf s asked answer =
    ByGen (texts.assembly (passes_of asked)) shelf s asked answer
InModeBy texts runs Format shelf s asked answer = ByFormat shelf s asked answer
InModeBy texts runs Bare shelf s asked answer =
    ByBare (texts.bare (passes_of asked)) shelf s asked answer

-- assembly texts that do what the source means, some on the machine with delayed branches, and
-- listings and texts of what each pass made by the rule of the call's policy
abbrev pub texts_meant : SpillRule → Texts
texts_meant rule = record {
  assembly = λ passes. IsAsMeant;
  bare = λ passes. IsMeantForBare;
  listing = λ passes. Lists passes rule;
  shown = λ passes. Shows passes rule;
}
