use Rattle.std.proofs.Common.{sym}
use Rattle.tg_lexer.proofs.EscapeSteps.{digit_ended, digit_misfit, digits_ended, digits_misfit, digits_great, digits_whole}
use Rattle.tg_lexer.proofs.escapes.decimal.Goals as goal

pub returns-in_default : goal.returns-in_default
returns-in_default c = digit_ended _ _ c.requires.is_first c.requires.is_digit c.in_default.ensures

pub returns-then-not-is_digit : goal.returns-then-not-is_digit
returns-then-not-is_digit c = digit_misfit _ _ _ _ c.requires.is_first c.requires.is_digit c.in-Some.ensures (sym c.if-not-is_digit.ensures) c.misfit.ensures

pub returns-in_default-byte_at : goal.returns-in_default-byte_at
returns-in_default-byte_at c = digits_ended _ _ _ c.requires.is_first c.requires.is_digit c.in-Some.ensures
    (sym c.if-not-is_digit.ensures) c.in_default-byte_at.ensures

pub returns-then-not-is_digit-2 : goal.returns-then-not-is_digit-2
returns-then-not-is_digit-2 c = digits_misfit _ _ _ _ _ c.requires.is_first c.requires.is_digit c.in-Some.ensures
    (sym c.if-not-is_digit.ensures) c.in-Some-byte_at.ensures (sym c.if-not-is_digit-2.ensures) c.misfit-then-not-is_digit-2.ensures

pub returns-then-value-gt255 : goal.returns-then-value-gt255
returns-then-value-gt255 c = digits_great _ _ _ _ _ c.requires.is_first c.requires.is_digit c.in-Some.ensures
    (sym c.if-not-is_digit.ensures) c.in-Some-byte_at.ensures (sym c.if-not-is_digit-2.ensures) c.number-value.ensures c.if-value-gt255.true

pub returns : goal.returns
returns c = digits_whole _ _ _ _ _ c.requires.is_first c.requires.is_digit c.in-Some.ensures (sym c.if-not-is_digit.ensures)
    c.in-Some-byte_at.ensures (sym c.if-not-is_digit-2.ensures) c.number-value.ensures c.if-value-gt255.false
