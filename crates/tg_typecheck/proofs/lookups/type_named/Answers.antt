use Rattle.std.proofs.Common.{ap}
use Rattle.tg_typecheck.proofs.Namings.{type_is, type_unknown, bad_is}
use Rattle.tg_typecheck.proofs.lookups.type_named.Goals as goal

pub returns-in-Some : goal.returns-in-Some
returns-in-Some c = λ scope l h n. type_is c.args.x scope (ap (λ s. s.types) h) c.in-Some.ensures

pub returns-in-None : goal.returns-in-None
returns-in-None c = λ scope l h n. bad_is c.bad.ensures (type_unknown c.args.x scope n (ap (λ s. s.types) h) c.in-None.ensures)
