use Rattle.tg_syntax.specs.glue.Plain.{plain}
use Rattle.tg_escape.specs.Uses.{uses_of}
use Rattle.tg_escape.proofs.SearchSteps.{found_in}
use Rattle.tg_escape.proofs.SetSteps.{escapes_from_nothing, links_from_nothing}
use Rattle.tg_escape.proofs.searches.search_body.Goals as goal

pub returns-clause-escapes : goal.returns-clause-escapes
returns-clause-escapes c =
    escapes_from_nothing (uses_of (plain c.args.body.now)) c.nothing.result _ (found_in (plain c.args.body.now) c.new.ensures c.new-2.ensures.items
    c.in_ok-in_exp.ensures) c.nothing.ensures.escapes

pub returns-clause-links : goal.returns-clause-links
returns-clause-links c =
    links_from_nothing (uses_of (plain c.args.body.now)) c.nothing.result _ (found_in (plain c.args.body.now) c.new.ensures c.new-2.ensures.items
    c.in_ok-in_exp.ensures) c.nothing.ensures.links
