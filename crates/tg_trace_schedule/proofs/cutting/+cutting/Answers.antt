use Rattle.std.proofs.Common.{◌≡◌, ◌<◌, ◌≤◌, [], ◌∷◌, ◌++◌, ap, sym, ◌∙◌, subst, arith, take, length}
use Rattle.std.specs.Prelude.{OnOk}
use Rattle.tg_tree.specs.declared.trees.Stms.{roll-Stms}
use Rattle.tg_tree.specs.glue.Plain.{plain_ts}
use Rattle.tg_tree.proofs.ListLaws.{plain_ts-Seq}
use Rattle.tg_trace_schedule.specs.glue.Plains.{plain_cut, Cuts, come_to}
use Rattle.tg_trace_schedule.specs.mirror.Cutting as cutting
use Rattle.tg_trace_schedule.proofs.Depths.{no_deeper}
use Rattle.tg_trace_schedule.proofs.Backs.{back, cut_all_is, back_in, back_out, back_none}
use Rattle.tg_trace_schedule.proofs.Turns.{turned_is, popped}
use Rattle.tg_trace_schedule.proofs.cutting.+cutting.Goals as goal

pub cut-returns-in-Seq : goal.cut-returns-in-Seq
cut-returns-in-Seq t c =
    subst (λ s. OnOk c.cut_all.result (Cuts c.args.before.now c.cut_all.new.before (cutting.cut c.args.before.now.exits.items s)))
    (sym (ap plain_ts c.in-Seq.is ∙ plain_ts-Seq c.in-Seq.all)) c.cut_all.ensures

pub cut_loop-returns : goal.cut_loop-returns
cut_loop-returns t c =
    let exits = c.args.before.now.exits.items in
    let exit = c.in_ok-exit.exit in
    let opened = plain_cut c.jump_to.new.cut in
    let pushed : c.jump_to.new.cut.exits.items ≡ exits ++ exit ∷ [] =
    c.jump_to.ensures.exits ∙ (c.in_ok-push.ensures.items ∙ ap (λ es. es ++ exit ∷ []) (c.in_ok-head.ensures.cut.exits ∙ c.in_ok-exit.ensures.cut.exits)) in
    record {
      exits = c.in_ok-put_head.ensures.exits ∙ popped _ _ _ exits exit c.pop.ensures.rest c.cut.new.before.exits.ok.0 (c.in_ok-cut.ensures.exits ∙ pushed);
      cut =
          turned_is exits (plain_ts c.args.turn.value) (plain_cut c.args.before.now) (plain_cut c.seal.new.cut)
          (plain_cut c.draw.new.cut) opened _ _ exit c.in_ok-head.head
          c.in_ok-exit.ensures.mark c.in_ok-exit.ensures.cut.cut c.in_ok-head.ensures.mark c.in_ok-head.ensures.cut.cut c.jump_to.ensures.cut
          (c.in_ok-cut.ensures.cut ∙ (ap (λ b. cutting.cut c.jump_to.new.cut.exits.items (plain_ts b) opened) c.into_inner.ensures
          ∙ ap (λ es. cutting.cut es (plain_ts c.args.turn.value) opened) pushed)) c.in_ok-put_head.ensures.cut;
    }

pub cut_all-loop-statement-preserved-in-Continue-1 : goal.cut_all-loop-statement-preserved-in-Continue-1
cut_all-loop-statement-preserved-in-Continue-1 t c =
    let exits = c.args.before.now.exits.items in
    let count = c.come_to-count.result in
    let rest = c.pop.new.self.items in
    let s = c.in-Some.statement in
    let before = plain_cut c.loop-statement.before in
    let h : length rest < count = omega arith in
    record {
      deeper =
          let shorter = no_deeper (roll-Stms (record { items = c.pop.new.self })) c.loop-statement.all s c.in-Some.ensures.items in
          omega (arith, shorter, c.loop-statement.invariant.deeper);
      exits = c.in_ok-cut.ensures.exits ∙ c.loop-statement.invariant.exits;
      cut =
          ap (back exits (take count rest)) (c.in_ok-cut.ensures.cut ∙ ap (λ es. cutting.cut es (plain_ts s) before) c.loop-statement.invariant.exits)
          ∙ (back_in exits count rest c.loop-statement.all.items.items s before c.in-Some.ensures.items h ∙ c.loop-statement.invariant.cut);
    }

pub cut_all-loop-statement-preserved : goal.cut_all-loop-statement-preserved
cut_all-loop-statement-preserved t c =
    let exits = c.args.before.now.exits.items in
    let count = c.come_to-count.result in
    let rest = c.pop.new.self.items in
    let h : count ≤ length rest = omega arith in
    record {
      deeper =
          let shorter = no_deeper (roll-Stms (record { items = c.pop.new.self })) c.loop-statement.all c.in-Some.statement c.in-Some.ensures.items in
          omega (arith, shorter, c.loop-statement.invariant.deeper);
      exits = c.loop-statement.invariant.exits;
      cut = back_out exits count rest c.loop-statement.all.items.items c.in-Some.statement (plain_cut c.loop-statement.before)
          c.in-Some.ensures.items h ∙ c.loop-statement.invariant.cut;
    }

pub cut_all-returns : goal.cut_all-returns
cut_all-returns t c =
    let exits = c.args.before.now.exits.items in
    let h : length c.loop-statement.all.items.items ≤ 0 = omega (arith, c.in_default.ensures.cases) in
    record {
      exits = c.loop-statement.invariant.exits;
      cut =
          back_none exits c.come_to-count.result c.loop-statement.all.items.items (plain_cut c.loop-statement.before) _ h c.loop-statement.invariant.cut
          ∙ (ap (λ n. back exits (take n c.args.all.items.items) (plain_cut c.args.before.now)) (c.come_to-count.ensures ∙ ap come_to c.deref.ensures.value)
          ∙ sym (cut_all_is exits c.args.all.items.items (plain_cut c.args.before.now)));
    }
