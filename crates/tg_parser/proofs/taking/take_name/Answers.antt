use Rattle.tg_parser.proofs.Chains.{name_not, name_none}
use Rattle.tg_parser.proofs.taking.take_name.Goals as goal

pub returns-in-None-clause-given : goal.returns-in-None-clause-given
returns-in-None-clause-given c = name_none c.args.tokens.now c.in-None.ensures.cases

pub returns-in_default : goal.returns-in_default
returns-in_default c = record {
  given = name_not c.args.tokens.now c.in-Some.first.now c.in-Some.rest.now
      c.in-Some.ensures.cases.0 c.in_default.not-Ident;
  shorter = tt;
}
