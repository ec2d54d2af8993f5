use Rattle.tg_emit.proofs.Labels.{label_utf8}
use Rattle.tg_emit.proofs.writing.label_text.Goals as goal

pub returns-in-Err : goal.returns-in-Err
returns-in-Err c = λ h. absurd (c.in-Err.ensures.cases.0 (label_utf8 c.args.label.now h))
