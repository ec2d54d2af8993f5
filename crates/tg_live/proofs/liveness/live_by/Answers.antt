use Rattle.std.proofs.Common.{◌≡◌, ◌<◌, ◌+◌, ℕ, suc, not, nat_eq, ◌&&◌, length, sym, ap, ◌∙◌, subst, arith}
use Rattle.tg_instr.specs.declared.operands.Opnd.{Opnd}
use Rattle.tg_live.specs.Live.{AreLiveSets}
use Rattle.tg_live.specs.glue.Tables.{row}
use Rattle.std.specs.List.{list_any}
use Rattle.tg_live.specs.mirror.Search.{has_stamp, has_stamp_before, IsSearched}
use Rattle.tg_live.specs.glue.LiveChanges.{ends_in, sets_of}
use Rattle.tg_live.proofs.Noted.{grown}
use Rattle.tg_live.proofs.Turned.{table_of_flow}
use Rattle.tg_live.proofs.Gathered.{gathered_all}
use Rattle.tg_live.proofs.Collected.{collected_from, collected_more, firsts_within, lasts_within, row_fresh, stamp_fresh}
use Rattle.tg_live.proofs.liveness.live_by.Goals as goal

pub operand_of-one-requires : goal.operand_of-one-requires
operand_of-one-requires c = omega (arith, c.loop-number-test.true, c.len-number-end.ensures, c.requires.size)

pub run-requires-clause-before : goal.run-requires-clause-before
run-requires-clause-before c =
    table_of_flow c.args.list.now c.before-in-loop-number.result.now
    (sym c.before-in-loop-number.ensures ∙ c.requires.flow)

pub run-requires-clause-size : goal.run-requires-clause-size
run-requires-clause-size c = c.loop-number.invariant.sized

pub run-requires-clause-fresh : goal.run-requires-clause-fresh
run-requires-clause-fresh c =
    stamp_fresh c.loop-number.number c.loop-number.search.marks c.loop-number.invariant.stamps

pub add-requires-clause-within_firsts : goal.add-requires-clause-within_firsts
add-requires-clause-within_firsts c =
    firsts_within c.args.list.now c.operand_of-one.result (c.loop-number.number + 1)
    c.loop-number.search.marks c.run.new.self c.in_ok-run.ensures c.loop-number.invariant.sized

pub add-requires-clause-within_lasts : goal.add-requires-clause-within_lasts
add-requires-clause-within_lasts c =
    lasts_within c.args.list.now c.operand_of-one.result (c.loop-number.number + 1)
    c.loop-number.search.marks c.run.new.self c.in_ok-run.ensures c.loop-number.invariant.sized

pub add-requires-clause-sized_comes : goal.add-requires-clause-sized_comes
add-requires-clause-sized_comes c =
    c.loop-number.invariant.sized_comes ∙ sym (c.in_ok-run.ensures.size ∙ c.loop-number.invariant.sized)

pub add-requires-clause-sized_goes : goal.add-requires-clause-sized_goes
add-requires-clause-sized_goes c =
    c.loop-number.invariant.sized_goes ∙ sym (c.in_ok-run.ensures.size ∙ c.loop-number.invariant.sized)

pub add-requires-clause-fresh_comes : goal.add-requires-clause-fresh_comes
add-requires-clause-fresh_comes c = λ q.
    ap (λ (x : Opnd). ends_in x (row c.loop-number.changes.comes q)) c.operand_of-one.ensures
    ∙ row_fresh c.loop-number.number c.loop-number.changes.comes c.loop-number.invariant.lower_comes q

pub add-requires-clause-fresh_goes : goal.add-requires-clause-fresh_goes
add-requires-clause-fresh_goes c = λ q.
    ap (λ (x : Opnd). ends_in x (row c.loop-number.changes.goes q)) c.operand_of-one.ensures
    ∙ row_fresh c.loop-number.number c.loop-number.changes.goes c.loop-number.invariant.lower_goes q

pub loop-number-init : goal.loop-number-init
loop-number-init c =
    collected_from c.args.list.now _ _ _ c.in_ok-search.ensures c.in_ok-changes.ensures.comes
    c.in_ok-changes.ensures.goes

pub loop-number-preserved : goal.loop-number-preserved
loop-number-preserved c =
    let list = c.args.list.now in
    let n = c.loop-number.number in
    let marks = c.loop-number.search.marks in
    let f = c.run.new.self in
    let old = c.loop-number.changes in
    let new = c.add.new.self in
    let Searched : Opnd → Type 0 = λ x. IsSearched list x (n + 1) marks f in
    let Come : Opnd → Type 0 = λ x. (q : ℕ) → row new.comes q
    ≡ grown (list_any (nat_eq q) f.firsts && not (has_stamp_before (n + 1) f.marks q)) x (row old.comes q) in
    let Go : Opnd → Type 0 = λ x. (q : ℕ) → q < length old.goes → row new.goes q
    ≡ grown (list_any (λ p. nat_eq q (suc p)) f.lasts && not (has_stamp (n + 1) f.marks q)) x (row old.goes q) in
    let e = c.operand_of-one.ensures in
    collected_more list n marks old.comes old.goes new.comes new.goes f c.loop-number.invariant
    (subst Searched e c.in_ok-run.ensures) c.in_ok-add.ensures.sized_comes c.in_ok-add.ensures.sized_goes
    (subst Come e c.in_ok-add.ensures.comes) (subst Go e c.in_ok-add.ensures.goes)

pub returns : goal.returns
returns c =
    let list = c.args.list.now in
    let n = c.loop-number.number in
    let sets = sets_of c.loop-number.changes.comes c.loop-number.changes.goes in
    let e : n ≡ length c.args.sites.now =
    omega (arith, c.loop-number-test.false, c.loop-number.auto.number-end, c.len-number-end.ensures) in
    subst (AreLiveSets list) (sym c.new-3.ensures)
    (gathered_all list n sets c.args.sites.now c.loop-number.invariant.gathered c.requires.sites e)
