use Rattle.std.proofs.Common.{sym, ap, ◌∙◌}
use Rattle.std.specs.FinSet.{contains}
use Rattle.tg_escape.proofs.SetSteps.{has_key}
use Rattle.tg_escape.proofs.sets.Bytes.has.Goals as goal

pub returns : goal.returns
returns c = c.contains.ensures ∙ (sym (has_key c.self.inside.bytes.keys c.args.at) ∙ ap (λ s. contains s c.args.at) c.self.view_is)
