use Rattle.tg_syntax.specs.Beginnings.{beginnings}
use Rattle.std.proofs.Common.{[]}
use Rattle.tg_syntax_laws.proofs.Standing.{tokens_stand}
use Rattle.tg_syntax_laws.proofs.Orders.{apart}
use Rattle.tg_syntax_laws.proofs.Begun.{in_order}
use Rattle.tg_syntax_laws.proofs.NamesKnown.{all_named}
use Rattle.tg_syntax_laws.proofs.laws.places_are_apart.Goals as goal

pub returns-clause-tokens : goal.returns-clause-tokens
returns-clause-tokens c names text tokens l = tokens_stand l

pub returns-clause-order : goal.returns-clause-order
returns-clause-order c = in_order

pub returns-clause-apart : goal.returns-clause-apart
returns-clause-apart c names text tokens body l p = apart (beginnings body []) (in_order tokens body (tokens_stand l) p)

pub returns-clause-names : goal.returns-clause-names
returns-clause-names c = all_named
