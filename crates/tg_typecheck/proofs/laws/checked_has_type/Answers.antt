use Rattle.tg_typecheck.proofs.Derivations.{checked_has_type}
use Rattle.tg_typecheck.proofs.laws.checked_has_type.Goals as goal

pub returns : goal.returns
returns c = checked_has_type
