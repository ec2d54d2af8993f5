use Rattle.std.proofs.Common.{sym, ap, ◌∙◌}
use Rattle.tg_explain_types.specs.glue.Starts.{first_start}
use Rattle.tg_explain_types.proofs.Lists.{start_is}
use Rattle.tg_explain_types.proofs.parts.functions_start.Goals as goal

pub returns : goal.returns
returns c = c.first_start.ensures ∙ ap first_start c.deref.ensures.value ∙ sym (start_is c.args.group.now)
