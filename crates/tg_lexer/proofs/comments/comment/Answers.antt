use Rattle.std.proofs.lemmas.List.{take_rest}
use Rattle.tg_lexer.proofs.Closings.{open_first, open_opens, open_closes, open_byte, open_closed, open_ended}
use Rattle.tg_lexer.proofs.comments.comment.Goals as goal

pub loop-at-init : goal.loop-at-init
loop-at-init c = open_first _

pub loop-at-preserved-in-Opens : goal.loop-at-preserved-in-Opens
loop-at-preserved-in-Opens c = open_opens _ _ _ c.loop-at.invariant (rw take_rest at c.in-Opens.ensures)

pub loop-at-preserved-else-depth-eq0 : goal.loop-at-preserved-else-depth-eq0
loop-at-preserved-else-depth-eq0 c = open_closes _ _ _ c.loop-at.invariant (rw take_rest at c.in-Closes.ensures) c.if-depth-eq0.false

pub returns-then-depth-eq0 : goal.returns-then-depth-eq0
returns-then-depth-eq0 c = open_closed _ _ _ c.loop-at.invariant (rw take_rest at c.in-Closes.ensures) c.if-depth-eq0.true

pub loop-at-preserved : goal.loop-at-preserved
loop-at-preserved c =
    let h = rw take_rest at c.in-Byte.ensures in
    open_byte _ _ _ c.loop-at.invariant c.loop-at-test.true h.0 h.1

pub returns : goal.returns
returns c = open_ended _ _ _ c.loop-at.invariant c.loop-at-test.false
