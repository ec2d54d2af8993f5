use Rattle.tg_compile.proofs.Linking.{names_no_more}
use Rattle.tg_compile.proofs.laws.code_names_no_more.Goals as goal

pub returns : goal.returns
returns c =
    names_no_more c.names_stay.ensures.names c.names_stay-2.ensures c.code_names_its_own.ensures.names
    c.known_names_its_own.ensures c.allocations_keep_tests.ensures
