use Rattle.tg_lexer.proofs.TokenEnds.{ends_once}
use Rattle.tg_driver.proofs.CanonicalTexts.{bad_tokens}
use Rattle.tg_driver.proofs.reading.parse_tokens.Goals as goal

pub parse-requires : goal.parse-requires
parse-requires c = record { ends = rw c.deref.ensures.value (ends_once c.requires.1.lexed) }

pub returns-in-Err : goal.returns-in-Err
returns-in-Err c = λ text h.
    c.syntactic.ensures text (bad_tokens text _ _ c.in-Err.fault h (rw c.deref.ensures.value at c.in-Err.ensures.bad))
