use Rattle.tg_syntax.specs.glue.Plain.{plain}
use Rattle.tg_variables.proofs.Translated.{variables_are}
use Rattle.tg_variables.proofs.homes.variables.Goals as goal

pub returns : goal.returns
returns c =
    let checked = c.args.checked.now in
    let made = c.in_ok-translated.translated in
    variables_are c.args.text.now checked.notes (plain checked.program.body) c.in_ok-escaping.escaping made.fragments made.homes
    c.as_slice-functions.result.now c.in_ok-variables_by.field-0.items c.in_ok-escaping.ensures c.in_ok-translated.ensures.code
    c.in_ok-translated.ensures.homes c.as_slice-functions.ensures.value c.in_ok-variables_by.ensures
