use Rattle.tg_canon.proofs.Canonicals.{linearized_canonical}
use Rattle.tg_canon.proofs.Closings.{linearized_closed}
use Rattle.tg_canon.proofs.laws.canonical_statements.Goals as goal

pub returns : goal.returns
returns c = record { canonical = linearized_canonical; closed = linearized_closed }
