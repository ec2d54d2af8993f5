use Rattle.std.proofs.Common.{arith}
use Rattle.tg_syntax.proofs.Numerals.{digit_worth}
use Rattle.tg_lexer.proofs.escapes.number.Goals as goal

pub returns : goal.returns
returns c = omega (arith, digit_worth c.args.a c.requires.first, digit_worth c.args.b c.requires.second, digit_worth c.args.c c.requires.third)
