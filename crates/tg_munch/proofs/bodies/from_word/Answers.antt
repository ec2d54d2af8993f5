use Rattle.std.proofs.Common.{sym, subst}
use Rattle.tg_munch.specs.glue.Drafts.{Writes}
use Rattle.tg_munch.specs.mirror.Bodies.{from_word}
use Rattle.tg_munch.proofs.Writing.{writes_then}
use Rattle.tg_munch.proofs.bodies.from_word.Goals as goal

pub returns-in_ok-put-in-InFrame : goal.returns-in_ok-put-in-InFrame
returns-in_ok-put-in-InFrame c =
    subst (λ h. Writes (from_word c.args.above c.args.i h) c.args.draft.now c.put.new.self tt) (sym c.in-InFrame.is)
    (writes_then _ c.in_ok-value-in-InFrame.ensures
    (writes_then _ (rw c.in_ok-bytes.ensures at c.in_ok-load_above-in-InFrame.ensures) c.in_ok-put-in-InFrame.ensures))
