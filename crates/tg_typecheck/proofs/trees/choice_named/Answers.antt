use Rattle.std.specs.Prelude.{length, box_value}
use Rattle.std.proofs.Common.{subst}
use Rattle.tg_syntax.specs.glue.Plain.{plain}
use Rattle.tg_syntax.specs.NamesWithin.{NamesWithin}
use Rattle.tg_typecheck.proofs.TreeSteps.{choice_whole, choice_within, way_within}
use Rattle.tg_typecheck.proofs.trees.choice_named.Goals as goal

pub returns-clause-whole : goal.returns-clause-whole
returns-clause-whole c = choice_whole c.args.e.now.kind c.args.e.now.span _ _ _ c.requires.parts

pub returns-clause-test : goal.returns-clause-test
returns-clause-test c =
    (choice_within _ c.args.e.now.span _ _ _ (subst (λ x. NamesWithin (length c.args.names.now) x)
    (choice_whole c.args.e.now.kind c.args.e.now.span _ _ _ c.requires.parts) c.requires.all)).0

pub returns-clause-this : goal.returns-clause-this
returns-clause-this c =
    (choice_within _ c.args.e.now.span _ _ _ (subst (λ x. NamesWithin (length c.args.names.now) x)
    (choice_whole c.args.e.now.kind c.args.e.now.span _ _ _ c.requires.parts) c.requires.all)).1

pub returns-clause-other : goal.returns-clause-other
returns-clause-other c =
    way_within _ c.args.e.now.span (λ b. plain (box_value b)) _ _ _
    (subst (λ x. NamesWithin (length c.args.names.now) x) (choice_whole c.args.e.now.kind c.args.e.now.span _ _ _ c.requires.parts) c.requires.all)
