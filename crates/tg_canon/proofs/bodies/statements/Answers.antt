use Rattle.std.proofs.Common.{sym, ap, ◌∙◌}
use Rattle.tg_tree.specs.glue.Plain.{plain_ts}
use Rattle.tg_canon.specs.mirror.Canon.{statements_of}
use Rattle.tg_canon.proofs.Nothings.{statements_of-Seq}
use Rattle.tg_canon.proofs.bodies.statements.Goals as goal

pub returns-in-Seq : goal.returns-in-Seq
returns-in-Seq c = sym (ap (λ s. statements_of (plain_ts s)) c.in-Seq.is ∙ statements_of-Seq c.in-Seq.inner)
