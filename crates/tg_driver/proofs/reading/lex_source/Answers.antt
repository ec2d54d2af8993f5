use Rattle.std.proofs.Common.{rules}
use Rattle.tg_driver.specs.glue.Readings.{IsLexFaultOf}
use Rattle.tg_driver.proofs.reading.lex_source.Goals as goal

pub returns-in-Err : goal.returns-in-Err
returns-in-Err c =
    let fault : IsLexFaultOf c.args.text.now c.in-Err.fault = search rules in
    c.lexical.ensures c.args.text.now fault
