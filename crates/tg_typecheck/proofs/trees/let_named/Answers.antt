use Rattle.std.specs.Prelude.{length}
use Rattle.tg_typecheck.proofs.TreeSteps.{let_within}
use Rattle.tg_typecheck.proofs.trees.let_named.Goals as goal

pub returns-clause-decs : goal.returns-clause-decs
returns-clause-decs c =
    (let_within (length c.args.names.now) c.args.e.now.kind c.args.e.now.span c.args.decs.now c.args.body.now c.requires.parts c.requires.all).0

pub returns-clause-body : goal.returns-clause-body
returns-clause-body c =
    (let_within (length c.args.names.now) c.args.e.now.kind c.args.e.now.span c.args.decs.now c.args.body.now c.requires.parts c.requires.all).1
