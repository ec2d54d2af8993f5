use Rattle.std.proofs.Common.{sym, ap, ◌∙◌}
use Rattle.tg_tree.specs.glue.Plain.{plain_ts}
use Rattle.tg_canon.specs.mirror.Canon.{is_nothing}
use Rattle.tg_canon.proofs.Nothings.{is_nothing-Seq}
use Rattle.tg_canon.proofs.parts.is_nothing.Goals as goal

pub returns-in-Seq : goal.returns-in-Seq
returns-in-Seq c = c.is_empty.ensures ∙ sym (ap (λ s. is_nothing (plain_ts s)) c.in-Seq.is ∙ is_nothing-Seq c.in-Seq.inner)
