use Rattle.std.proofs.Common.{sym, ap, ◌∙◌, Some}
use Rattle.tg_lexer.proofs.EscapeSteps.{blanks_ended, blanks_whole, blanks_bad, not_equal}
use Rattle.tg_lexer.proofs.escapes.gap.Goals as goal

pub returns-in_default : goal.returns-in_default
returns-in_default c = blanks_ended _ _ _ c.count_run-size.ensures c.requires.is_first c.requires.is_blank c.in_default.ensures

pub returns-then-byte-eq92 : goal.returns-then-byte-eq92
returns-then-byte-eq92 c = blanks_whole _ _ _ c.count_run-size.ensures c.requires.is_first c.requires.is_blank
    (ap Some (sym c.if-byte-eq92.true) ∙ c.in-Some.ensures)

pub returns-else-byte-eq92 : goal.returns-else-byte-eq92
returns-else-byte-eq92 c = blanks_bad _ _ _ _ c.count_run-size.ensures c.requires.is_first c.requires.is_blank
    c.in-Some.ensures (not_equal _ _ c.if-byte-eq92.false)
