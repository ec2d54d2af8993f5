use Rattle.tg_lexer.proofs.Readings.{int_token, int_large}
use Rattle.tg_lexer.proofs.lexemes.read_int.Goals as goal

pub returns-in-Some-clause-read : goal.returns-in-Some-clause-read
returns-in-Some-clause-read c = λ n. int_token n _ _ _ c.requires.begins c.count_run-size.ensures c.in-Some.ensures.0 c.in-Some.ensures.1

pub returns-in-None-clause-read : goal.returns-in-None-clause-read
returns-in-None-clause-read c = λ _. int_large _ _ _ c.requires.begins c.count_run-size.ensures c.in-None.ensures
