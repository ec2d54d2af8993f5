use Rattle.std.proofs.Common.{arith, sym, ap, ◌∙◌, Some}
use Rattle.tg_syntax.specs.Spellings.{newline, tab, quote, backslash}
use Rattle.tg_lexer.proofs.EscapeSteps.{byte_whole, byte_bad, nothing_cut, not_equal}
use Rattle.tg_lexer.proofs.escapes.escape.Goals as goal

pub returns-in_default : goal.returns-in_default
returns-in_default c = nothing_cut _ c.in_default.ensures

pub returns-in-110 : goal.returns-in-110
returns-in-110 c = byte_whole _ 110 10 (ap Some (sym c.in-110.is) ∙ c.in-Some.ensures) newline

pub returns-in-116 : goal.returns-in-116
returns-in-116 c = byte_whole _ 116 9 (ap Some (sym c.in-116.is) ∙ c.in-Some.ensures) tab

pub returns-in-34 : goal.returns-in-34
returns-in-34 c = byte_whole _ 34 34 (ap Some (sym c.in-34.is) ∙ c.in-Some.ensures) quote

pub returns-in-92 : goal.returns-in-92
returns-in-92 c = byte_whole _ 92 92 (ap Some (sym c.in-92.is) ∙ c.in-Some.ensures) backslash

pub returns-in_default-3 : goal.returns-in_default-3
returns-in_default-3 c =
    byte_bad _ _ c.in-Some.ensures (not_equal _ 110 (omega arith)) (not_equal _ 116 (omega arith)) (not_equal _ 34 (omega arith))
    (not_equal _ 92 (omega arith)) (not_equal _ 94 (omega arith)) (sym c.if-is_digit.ensures) (sym c.if-is_blank.ensures)
