use Rattle.tg_regalloc.proofs.TestsKept.{allocations_keep_tests}
use Rattle.tg_regalloc.proofs.growth.allocations_keep_tests.Goals as goal

pub returns : goal.returns
returns c = allocations_keep_tests
