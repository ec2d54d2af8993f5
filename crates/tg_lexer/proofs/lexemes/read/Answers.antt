use Rattle.std.proofs.Common.{sym}
use Rattle.tg_lexer.proofs.Readings.{blank_gap}
use Rattle.tg_lexer.proofs.lexemes.read.Goals as goal

pub returns-then-is_blank-clause-read : goal.returns-then-is_blank-clause-read
returns-then-is_blank-clause-read c = blank_gap _ c.requires.some (sym c.if-is_blank.ensures)

pub returns-then-is_digit-clause-read : goal.returns-then-is_digit-clause-read
returns-then-is_digit-clause-read c = c.read_int.ensures.read _

pub returns-then-first-eq34-clause-read : goal.returns-then-first-eq34-clause-read
returns-then-first-eq34-clause-read c = c.read_string.ensures.read _

pub returns-then-starts_with-clause-read : goal.returns-then-starts_with-clause-read
returns-then-starts_with-clause-read c = c.read_comment.ensures.read _

pub returns-clause-read : goal.returns-clause-read
returns-clause-read c = c.read_sign.ensures.read _
