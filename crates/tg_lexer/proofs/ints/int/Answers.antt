use Rattle.std.proofs.Common.{sym}
use Rattle.tg_lexer.proofs.Numerals.{digit_low_at, number_more, number_great}
use Rattle.tg_lexer.proofs.ints.int.Goals as goal

pub overflow_sub-more : goal.overflow_sub-more
overflow_sub-more c = digit_low_at _ _ c.requires c.loop-byte-test.true

pub loop-byte-preserved : goal.loop-byte-preserved
loop-byte-preserved c = (sym (number_more _ _ _ c.requires c.loop-byte.invariant.0 c.loop-byte-test.true), c.if-more-gt-GREATEST.false)

pub returns-then-more-gt-GREATEST : goal.returns-then-more-gt-GREATEST
returns-then-more-gt-GREATEST c = number_great _ _ _ c.requires c.loop-byte.invariant.0 c.loop-byte-test.true c.if-more-gt-GREATEST.true
