use Rattle.std.specs.Prelude.{IsTrue, false}
use Rattle.tg_parser.proofs.Chains.{take_no, take_none}
use Rattle.tg_parser.proofs.taking.take.Goals as goal

no_false : IsTrue false → ⊥
no_false e = cc

pub returns-in-None-clause-given : goal.returns-in-None-clause-given
returns-in-None-clause-given c = take_none c.args.mark c.args.tokens.now c.in-None.ensures.cases

pub returns-else-is-clause-given : goal.returns-else-is-clause-given
returns-else-is-clause-given c = take_no c.args.mark c.args.tokens.now c.in-Some.first.now c.in-Some.rest.now
    c.in-Some.ensures.cases.0 (λ e. no_false (c.if-is.ensures.1 e))
