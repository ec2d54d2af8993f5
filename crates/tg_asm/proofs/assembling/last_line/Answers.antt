use Rattle.tg_asm.proofs.LastLine.{last_counted}
use Rattle.tg_asm.proofs.assembling.last_line.Goals as goal

pub returns-in-Some : goal.returns-in-Some
returns-in-Some c = last_counted c.args.text.now c.in-Some.front.now c.in-Some.field-0-0.now c.newlines.result
    c.in-Some.ensures.cases.0 c.newlines.ensures.count
