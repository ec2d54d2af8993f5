use Rattle.std.proofs.lemmas.List.{take_rest}
use Rattle.tg_lexer.proofs.Readings.{comment_gap, comment_open}
use Rattle.tg_lexer.proofs.lexemes.read_comment.Goals as goal

pub returns-in-Some-clause-read : goal.returns-in-Some-clause-read
returns-in-Some-clause-read c = λ _. comment_gap _ _ c.requires.begins (rw take_rest at c.in-Some.ensures)

pub returns-in-None-clause-read : goal.returns-in-None-clause-read
returns-in-None-clause-read c = λ _. comment_open _ _ c.requires.begins (rw take_rest at c.in-None.ensures)
