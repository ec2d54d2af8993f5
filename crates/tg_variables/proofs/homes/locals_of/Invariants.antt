use Rattle.std.proofs.Common.{◌≡◌, ◌++◌, drop}
use Rattle.tg_variables.specs.Variables.{locals_of}
use Rattle.tg_variables.proofs.homes.locals_of.Given as goal

abbrev pub invariant-loop-one : goal.invariant-loop-one
invariant-loop-one l =
    locals_of l.source.text.now l.source.notes.now l.source.homes.now l.source.texts.now l.own
    ≡ l.found.items ++ locals_of l.source.text.now l.source.notes.now l.source.homes.now l.source.texts.now (drop l.one-index l.own)
