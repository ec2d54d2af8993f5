use Rattle.std.proofs.Common.{arith}
use Rattle.tg_tree.specs.glue.Plain.{plain_ts}
use Rattle.tg_canon.specs.mirror.Canon as canon
use Rattle.tg_canon.specs.mirror.Canon.{statements_of}
use Rattle.tg_canon.proofs.Growing.{body_grows}
use Rattle.tg_canon.proofs.Steps.{ends}
use Rattle.tg_canon.proofs.bodies.linearize.Goals as goal

pub invariant_of-frame-clause-temps_below : goal.invariant_of-frame-clause-temps_below
invariant_of-frame-clause-temps_below c =
    let grown = body_grows (plain_ts c.args.body) c.in_ok-part.ensures in omega (arith, grown, c.args.frame.now.temps_below)

pub returns-clause-statements : goal.returns-clause-statements
returns-clause-statements c =
    ends (λ (p : canon.Part). statements_of p.statement) c.in_ok-part.ensures c.in_ok-statements.ensures

pub returns-clause-temps : goal.returns-clause-temps
returns-clause-temps c = body_grows (plain_ts c.args.body) c.in_ok-part.ensures

pub returns-in_err-statements-clause-temps : goal.returns-in_err-statements-clause-temps
returns-in_err-statements-clause-temps c = body_grows (plain_ts c.args.body) c.in_ok-part.ensures
