use Rattle.std.proofs.Common.{◌++◌, length, take, get_or, ap, sym, ◌∙◌, arith}
use Rattle.std.proofs.lemmas.List.{take_more}
use Rattle.tg_instr.proofs.Tests.{all_at}
use Rattle.tg_instr.specs.Codes.{has_temps_below}
use Rattle.tg_regalloc.specs.Rewriting.{code_rewritten, instruction_rewritten, next_after, slot_in, temps_after}
use Rattle.tg_regalloc.proofs.Rewritten.{rewritten_more, temps_more, draws_few}
use Rattle.tg_regalloc.proofs.rewriting.instructions.Goals as goal

pub loop-one-preserved : goal.loop-one-preserved
loop-one-preserved c =
    let list = c.args.code.now in
    let slot_of = slot_in c.args.slots.now in
    let start = c.args.next.now in
    let front = take c.loop-one.one-index list in
    let one = get_or list c.loop-one.one-index c.one-item.result in
    let more = take_more list c.loop-one.one-index c.one-item.result c.loop-one-test.true in
    let few = draws_few slot_of c.one-item.result c.loop-one.next in
    record {
      list = c.in_ok-put_rewritten.ensures.list
          ∙ (ap (λ l. l ++ instruction_rewritten slot_of c.one-item.result c.loop-one.next) c.loop-one.invariant.list
          ∙ (ap (λ x. code_rewritten slot_of front start ++ instruction_rewritten slot_of x c.loop-one.next) c.one-item.is
          ∙ (ap (λ n. code_rewritten slot_of front start ++ instruction_rewritten slot_of one n) c.loop-one.invariant.next
          ∙ (sym (rewritten_more slot_of front one start) ∙ ap (λ l. code_rewritten slot_of l start) (sym more)))));
      next = c.in_ok-put_rewritten.ensures.next ∙ (ap (λ x. next_after slot_of x c.loop-one.next) c.one-item.is
          ∙ (ap (next_after slot_of one) c.loop-one.invariant.next
          ∙ (sym (temps_more slot_of front one start) ∙ ap (λ l. temps_after slot_of l start) (sym more))));
      room = let new = c.in_ok-put_rewritten.ensures.next in omega (arith, few, new);
    }

pub put_rewritten-requires-clause-below : goal.put_rewritten-requires-clause-below
put_rewritten-requires-clause-below c = rw c.one-item.is (all_at (has_temps_below (length c.args.slots.now)) c.args.code.now
    c.loop-one.one-index c.one-item.result c.loop-one-test.true c.requires.below)
