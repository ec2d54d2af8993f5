use Rattle.std.proofs.Common.{◌≡◌, ◌-◌, ◌||◌, ℕ, true, List, length, ap, ◌∙◌, sym, subst}
use Rattle.std.specs.List.{list_all}
use Rattle.std.proofs.lemmas.List.{take_all}
use Rattle.tg_instr.specs.declared.operands.Opnd.{Opnd}
use Rattle.tg_instr.specs.Operands.{is_same}
use Rattle.tg_instr.specs.Codes.{is_below}
use Rattle.tg_interference.specs.Nodes.{operand_at}
use Rattle.tg_interference.specs.Pairs.{has}
use Rattle.tg_interference.specs.glue.Crossing.{is_marked}
use Rattle.tg_interference.proofs.Operands.{all_read}
use Rattle.tg_interference.proofs.Joining.{has_more}
use Rattle.tg_interference.proofs.Marking.{more_marked, as_marked, has_put, all_put}
use Rattle.tg_interference.proofs.crossing.mark_crossing.Goals as goal
use Rattle.tg_interference.proofs.crossing.mark_crossing.Goals.{then-mark_operand+in_ok-push, else-mark_operand}

pub mark_operand-requires-clause-below : goal.mark_operand-requires-clause-below
mark_operand-requires-clause-below c =
    ap (λ n. is_below (n - 25) c.one-item.result) c.loop-one.invariant.sized
    ∙ all_read (is_below (length c.args.crossed.now - 25)) c.args.live.now c.loop-one.one-index c.one-item.result
    c.loop-one-test.true c.one-item.is c.requires.live

pub loop-one-preserved : goal.loop-one-preserved
loop-one-preserved c =
    let old = c.args.crossed.now in
    let live = c.args.live.now in
    let i = c.loop-one.one-index in
    let x = c.one-item.result in
    let p = is_below (length old - 25) in
    let before = c.loop-one.first.items in
    let after = c.if-mark_operand.first.items in
    let here = all_read p live i x c.loop-one-test.true c.one-item.is c.requires.live in
    let Firsts : List Opnd → Type 0 = λ xs.
    ((n : ℕ) → is_marked c.mark_operand.new.crossed n ≡ (is_marked old n || has xs n)) × (list_all p xs ≡ true) in
    let firsts : Firsts after = elim c.if-mark_operand.branch [
      | then-mark_operand+in_ok-push w ↦ subst Firsts (sym (ap (λ v. v.items) w.first-is ∙ w.in_ok-push.ensures.items)) (
        λ n. more_marked _ _ _ _ _ (c.mark_operand.ensures.marked n) (c.loop-one.invariant.first n)
            ∙ ap (λ b. is_marked old n || b) (sym (has_put before x n)),
        all_put p before x c.loop-one.invariant.below here,
      )
      | else-mark_operand w ↦ subst Firsts (sym (ap (λ v. v.items) w.first-is)) (
        λ n. as_marked (is_marked c.mark_operand.new.crossed n) (is_marked c.loop-one.crossed n) (is_marked old n)
            (has before n) (is_same (operand_at n) x) (c.mark_operand.ensures.marked n) (c.loop-one.invariant.first n)
            (λ h. sym w.if-mark_operand.false ∙ c.mark_operand.ensures.first n h),
        c.loop-one.invariant.below,
      )
    ] in
    record {
      sized = c.mark_operand.ensures.sized ∙ c.loop-one.invariant.sized;
      marked = λ n. more_marked _ _ _ _ _ (c.mark_operand.ensures.marked n) (c.loop-one.invariant.marked n)
          ∙ ap (λ b. is_marked old n || b) (sym (has_more live i x c.loop-one-test.true c.one-item.is n));
      first = firsts.0;
      below = firsts.1;
    }

pub returns-clause-marked : goal.returns-clause-marked
returns-clause-marked c = λ n.
    c.loop-one.invariant.marked n
    ∙ ap (λ list. is_marked c.args.crossed.now n || has list n)
    (take_all c.loop-one.one-index c.args.live.now c.loop-one-test.false)
