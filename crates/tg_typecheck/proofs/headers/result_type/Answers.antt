use Rattle.std.proofs.Common.{ap, ◌∙◌}
use Rattle.tg_typecheck.proofs.Steps.{given_is, carry}
use Rattle.tg_typecheck.specs.Groups as groups
use Rattle.tg_typecheck.proofs.headers.result_type.Goals as goal

pub returns-in-Some : goal.returns-in-Some
returns-in-Some c = λ scope l h n. carry c.type_named.result _ _ (ap (λ k. groups.result_type scope k n) c.in-Some.is) (c.type_named.ensures scope l h n)

pub returns-in-None : goal.returns-in-None
returns-in-None c = λ scope l h n. ap (λ k. groups.result_type scope k n) c.in-None.is ∙ given_is c.nothing.ensures
