use Rattle.std.proofs.Common.{◌≡◌, ◌++◌, drop}
use Rattle.tg_variables.specs.Variables.{parameters_of}
use Rattle.tg_variables.proofs.homes.parameters_of.Given as goal

abbrev pub invariant-loop-one : goal.invariant-loop-one
invariant-loop-one l =
    parameters_of l.source.text.now l.source.notes.now l.source.homes.now l.source.texts.now l.parameters
    ≡ l.found.items ++ parameters_of l.source.text.now l.source.notes.now l.source.homes.now l.source.texts.now (drop l.one-index l.parameters)
