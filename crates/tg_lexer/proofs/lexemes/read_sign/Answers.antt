use Rattle.tg_lexer.proofs.Readings.{sign_token, no_front}
use Rattle.tg_lexer.proofs.lexemes.read_sign.Goals as goal

pub returns-in-Some-clause-read : goal.returns-in-Some-clause-read
returns-in-Some-clause-read c = λ n. sign_token n _ _ _ c.requires.begins c.in-Some.ensures

pub returns-in-None-clause-read : goal.returns-in-None-clause-read
returns-in-None-clause-read c = λ _. no_front _ _ c.requires.begins c.in-None.ensures
