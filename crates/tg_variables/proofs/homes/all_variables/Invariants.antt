use Rattle.std.proofs.Common.{◌≡◌, ◌++◌, drop, map}
use Rattle.tg_tree.specs.glue.Plain.{plain_fragment}
use Rattle.tg_variables.specs.Variables.{variables_from}
use Rattle.tg_variables.proofs.homes.all_variables.Given as goal

abbrev pub invariant-loop-at : goal.invariant-loop-at
invariant-loop-at l =
    variables_from l.source.text.now l.source.notes.now l.source.homes.now l.source.texts.now (map plain_fragment l.functions) 0 l.source.texts.now
    ≡ l.all.items
    ++ variables_from l.source.text.now l.source.notes.now l.source.homes.now l.source.texts.now (map plain_fragment l.functions) l.at
    (drop l.at l.source.texts.now)
