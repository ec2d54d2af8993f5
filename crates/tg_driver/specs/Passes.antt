-- Which passes a command switches on.
use Rattle.tg_command.specs.Commands.{Asked}
use Rattle.tg_compile.specs.declared.passes.Passes.{Passes}

abbrev pub passes_of : Asked → Passes
passes_of asked = record { fold = asked.flags.fold }
