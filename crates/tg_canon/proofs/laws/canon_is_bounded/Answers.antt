use Rattle.tg_canon.proofs.Tests.{joins_are_paid}
use Rattle.tg_canon.proofs.Sized.{length_stays, needs_stay}
use Rattle.tg_canon.proofs.laws.canon_is_bounded.Goals as goal

pub returns : goal.returns
returns c = record { length = λ f own. length_stays joins_are_paid f own; needs = λ f own. needs_stay joins_are_paid f own }
