use Rattle.tg_syntax_laws.proofs.Complete.{complete_program}
use Rattle.tg_syntax_laws.proofs.Exact.{got_is, bad_is, out_is}
use Rattle.tg_syntax_laws.proofs.NoEnd.{not_out}
use Rattle.tg_syntax_laws.proofs.laws.descent_is_exact.Goals as goal

pub returns-clause-each : goal.returns-clause-each
returns-clause-each c = complete_program

pub returns-clause-programs : goal.returns-clause-programs
returns-clause-programs c = got_is

pub returns-clause-first : goal.returns-clause-first
returns-clause-first c = bad_is

pub returns-clause-more : goal.returns-clause-more
returns-clause-more c = out_is

pub returns-clause-ends : goal.returns-clause-ends
returns-clause-ends c = not_out
