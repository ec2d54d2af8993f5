use Rattle.tg_emit_laws.proofs.HasLabels.{emitted_has_labels}
use Rattle.tg_emit_laws.proofs.laws.emitted_has_labels.Goals as goal

pub returns : goal.returns
returns c = emitted_has_labels
