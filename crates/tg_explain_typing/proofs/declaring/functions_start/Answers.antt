use Rattle.std.proofs.Common.{sym, ap, ◌∙◌}
use Rattle.tg_explain_typing.specs.glue.Bodies.{first_start}
use Rattle.tg_explain_typing.proofs.Lists.{start_is}
use Rattle.tg_explain_typing.proofs.declaring.functions_start.Goals as goal

pub returns : goal.returns
returns c = c.start_of.ensures ∙ ap first_start c.deref.ensures.value ∙ sym (start_is c.args.group.now)
