use Rattle.std.proofs.Common.{take}
use Rattle.tg_syntax.specs.Spellings.{AllAre}
use Rattle.tg_lexer.specs.glue.Lexemes.{in_class}
use Rattle.tg_lexer.proofs.bytes.count_run.Given as goal

abbrev pub invariant-loop-size : goal.invariant-loop-size
invariant-loop-size l = AllAre (in_class l.class) (take l.size l.text)
