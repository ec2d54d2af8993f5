use Rattle.std.proofs.Common.{ap, ◌∙◌}
use Rattle.tg_syntax.specs.Tree.{Let}
use Rattle.tg_syntax.specs.declared.trees.Exps.{roll-Exps}
use Rattle.tg_syntax.specs.glue.Lists.{decs_of}
use Rattle.tg_syntax.proofs.ListLaws.{plain_exps-made, plain_kind-Let}
use Rattle.tg_syntax.proofs.making.let_in.Goals as goal

pub returns : goal.returns
returns c = plain_kind-Let (record { items = c.args.decs }) (roll-Exps (record { items = c.args.body })) c.args.span
    ∙ ap (Let c.args.span (decs_of c.args.decs.items)) (plain_exps-made c.args.body)
