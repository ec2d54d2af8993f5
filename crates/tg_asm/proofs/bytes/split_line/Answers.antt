use Rattle.std.proofs.lemmas.List.{nil_from_length}
use Rattle.tg_asm.proofs.Splits.{last_line, first_line, is_newline}
use Rattle.tg_asm.proofs.CutLoops.{behind_shorter}
use Rattle.tg_asm.proofs.bytes.split_line.Goals as goal

pub returns-in-Some-clause-lines : goal.returns-in-Some-clause-lines
returns-in-Some-clause-lines c = first_line c.args.text.now c.split.result.0.now c.split.result.1.now c.in-Some.field-0-0.now
    c.in-Some.more.now c.split.ensures.front c.split.ensures.back c.in-Some.ensures.cases.0

pub returns-in-Some-clause-shorter : goal.returns-in-Some-clause-shorter
returns-in-Some-clause-shorter c = behind_shorter is_newline c.args.text.now c.split.result.1.now c.in-Some.more.now
    c.in-Some.field-0-0.now c.split.ensures.back c.in-Some.ensures.cases.0

pub returns-in-None-clause-lines : goal.returns-in-None-clause-lines
returns-in-None-clause-lines c = last_line c.args.text.now c.split.result.0.now c.split.result.1.now c.split.ensures.front
    c.split.ensures.back (nil_from_length _ c.in-None.ensures.cases)
