use Rattle.tg_redundancy.proofs.Shaped.{passes_tests}
use Rattle.tg_redundancy.proofs.laws.known_names_its_own.Goals as goal

pub returns : goal.returns
returns c = passes_tests
