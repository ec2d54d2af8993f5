use Rattle.std.proofs.Common.{ap, ◌∙◌, arith}
use Rattle.tg_frame.proofs.Making.{made_slot_at, made_temp_at}
use Rattle.tg_frame.proofs.frames.new_frame.Goals as goal
use Rattle.tg_frame.proofs.frames.new_frame.Goals.{then-escapes+in_ok-push, else-escapes+in_ok-push-2}

pub loop-escapes-preserved : goal.loop-escapes-preserved
loop-escapes-preserved c = elim c.if-escapes.branch [
  | then-escapes+in_ok-push w ↦ made_slot_at _ _ _ _ _ _ _ _ _
      (omega (arith, c.loop-escapes-test.true)) w.if-escapes.true c.loop-escapes.invariant (ap (λ v. v.items) w.params-is
      ∙ w.in_ok-push.ensures.items) w.slots-is w.temps-is
  | else-escapes+in_ok-push-2 w ↦ made_temp_at _ _ _ _ _ _ _ _ _
      (omega (arith, c.loop-escapes-test.true)) w.if-escapes.false c.loop-escapes.invariant (ap (λ v. v.items) w.params-is
      ∙ w.in_ok-push-2.ensures.items) w.slots-is w.temps-is
]
