use Rattle.tg_syntax_laws.proofs.Covers.{span_of-Reads, span_of-IsPlace}
use Rattle.tg_syntax_laws.proofs.laws.spans_are_exact.Goals as goal

pub returns-clause-expressions : goal.returns-clause-expressions
returns-clause-expressions c level tokens e r = span_of-Reads r

pub returns-clause-places : goal.returns-clause-places
returns-clause-places c tokens s v p = span_of-IsPlace p
