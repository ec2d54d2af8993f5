use Rattle.std.proofs.Common.{sym, ap, ◌∙◌}
use Rattle.tg_tree.specs.glue.Plain.{plain_ts}
use Rattle.tg_tree.proofs.ListLaws.{plain_ts-Seq}
use Rattle.tg_canon.proofs.opened.parts_of.Goals as goal

pub returns-in-Seq-clause-parts : goal.returns-in-Seq-clause-parts
returns-in-Seq-clause-parts c = sym (ap plain_ts (sym c.into_inner.ensures ∙ c.in-Seq.is) ∙ plain_ts-Seq c.in-Seq.ss)
