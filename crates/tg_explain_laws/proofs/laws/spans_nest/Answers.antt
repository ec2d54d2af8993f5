use Rattle.tg_explain_laws.proofs.Nest.{spans_nest}
use Rattle.tg_explain_laws.proofs.Covered.{names_are_covered}
use Rattle.tg_explain_laws.proofs.laws.spans_nest.Goals as goal

pub returns-clause-nest : goal.returns-clause-nest
returns-clause-nest c = spans_nest

pub returns-clause-names : goal.returns-clause-names
returns-clause-names c = names_are_covered
