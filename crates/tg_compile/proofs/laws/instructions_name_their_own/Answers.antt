use Rattle.tg_compile.proofs.Naming.{own_names}
use Rattle.tg_compile.proofs.laws.instructions_name_their_own.Goals as goal

pub returns : goal.returns
returns c = own_names c.code_names_its_own.ensures.registers c.code_names_its_own.ensures.slots c.known_names_its_own.ensures
