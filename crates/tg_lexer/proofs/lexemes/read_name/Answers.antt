use Rattle.std.proofs.Common.{take}
use Rattle.tg_lexer.proofs.Readings.{word_token}
use Rattle.tg_lexer.proofs.Interning.{ident_token, interned_named}
use Rattle.tg_lexer.proofs.lexemes.read_name.Goals as goal

pub intern-requires-clause-bytes : goal.intern-requires-clause-bytes
intern-requires-clause-bytes c = c.count_run-size.ensures.all

pub returns-in-Some-clause-read : goal.returns-in-Some-clause-read
returns-in-Some-clause-read c = word_token _ _ _ _ c.requires.begins c.count_run-size.ensures c.in-Some.ensures

pub returns-clause-read : goal.returns-clause-read
returns-clause-read c = ident_token _ _ _ _ _ c.requires.begins c.count_run-size.ensures c.in_default.ensures c.in_ok-name.ensures.ok

pub returns-clause-named : goal.returns-clause-named
returns-clause-named c = interned_named c.args.names.now _ (take c.count_run-size.result c.args.text.now) c.in_ok-name.name.0 c.in_ok-name.ensures.ok
