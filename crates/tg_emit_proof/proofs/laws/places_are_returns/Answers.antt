use Rattle.tg_emit_proof.proofs.ReturnWords.{places_are_returns}
use Rattle.tg_emit_proof.proofs.laws.places_are_returns.Goals as goal

pub returns : goal.returns
returns c = places_are_returns
