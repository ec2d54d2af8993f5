use Rattle.std.proofs.Common.{subst}
use Rattle.std.specs.Prelude.{MatchOption}
use Rattle.tg_syntax.specs.SyntaxFaults.{IsShallow}
use Rattle.tg_parser.specs.glue.Deep.{IsFirstDeep, all}
use Rattle.tg_parser.proofs.ParseSteps.{cut_at}
use Rattle.tg_parser.proofs.parsing.readable.Goals as goal

pub returns-in-None : goal.returns-in-None
returns-in-None c = all (subst (λ o. MatchOption o (IsShallow c.args.tokens.now) (λ place. IsFirstDeep c.args.tokens.now place))
    c.in-None.is c.in_ok-first_deep.ensures)

pub returns-in-Some : goal.returns-in-Some
returns-in-Some c =
    cut_at c.args.tokens.now c.in-Some.place
    (subst (λ o. MatchOption o (IsShallow c.args.tokens.now) (λ place. IsFirstDeep c.args.tokens.now place)) c.in-Some.is c.in_ok-first_deep.ensures)
