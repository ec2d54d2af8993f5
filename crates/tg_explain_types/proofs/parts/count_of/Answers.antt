use Rattle.std.proofs.Common.{sym, ap, ◌∙◌, length}
use Rattle.tg_explain_types.proofs.Lists.{count_is}
use Rattle.tg_explain_types.proofs.parts.count_of.Goals as goal

pub returns : goal.returns
returns c = c.length_of.ensures ∙ ap length c.deref.ensures.value ∙ sym (count_is c.args.exps.now)
