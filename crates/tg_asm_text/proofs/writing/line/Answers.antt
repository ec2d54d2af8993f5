use Rattle.tg_asm_text.proofs.ReadBack.{line_reads}
use Rattle.tg_asm_text.proofs.writing.line.Goals as goal

pub returns-clause-back : goal.returns-clause-back
returns-clause-back c = line_reads c.args.one.now c.args.target.now c.text.result c.text.ensures.text c.text.ensures.row c.requires
