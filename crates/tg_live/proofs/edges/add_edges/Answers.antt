-- Each kind of instruction adds its edges.
use Rattle.std.proofs.Common.{◌≡◌, ◌+◌, suc, length, OnOk, sym, ap, ◌∙◌, subst, arith}
use Rattle.tg_instr.specs.declared.instr.Instr.TheVariants.{Jump, Branch, Fault, Return}
use Rattle.tg_live.specs.Flow.{successors}
use Rattle.tg_live.specs.glue.Tables.{Table, push_at, add_to}
use Rattle.tg_live.proofs.Turned.{length-push_at}
use Rattle.tg_live.proofs.Places.{marks_at, edge_row, next_row, first_within, second_within}
use Rattle.tg_live.proofs.edges.add_edges.Goals as goal

pub push-requires : goal.push-requires
push-requires c =
    let place = c.place_of.ensures c.args.list.now c.requires.places (marks_at c.args.list.now c.args.at
    c.index-list-at.result (Jump
    c.in-Jump.mark) c.requires.at c.index-list-at.is c.in-Jump.is c.requires.marks_stand) in
    let e = edge_row c.args.list.now c.args.at c.index-list-at.result (Jump
    c.in-Jump.mark) c.requires.at c.index-list-at.is c.in-Jump.is in
    let l = first_within (length c.args.before.now) (successors c.args.list.now) c.args.at _ _ c.requires.within e in
    omega (arith, l, place)

pub push-requires-in-Branch : goal.push-requires-in-Branch
push-requires-in-Branch c =
    let place = c.place_of-in-Branch.ensures c.args.list.now c.requires.places (marks_at c.args.list.now c.args.at
    c.index-list-at.result (Branch c.in-Branch.field-0
    c.in-Branch.mark) c.requires.at c.index-list-at.is c.in-Branch.is c.requires.marks_stand) in
    let e = edge_row c.args.list.now c.args.at c.index-list-at.result (Branch c.in-Branch.field-0
    c.in-Branch.mark) c.requires.at c.index-list-at.is c.in-Branch.is in
    let l = first_within (length c.args.before.now) (successors c.args.list.now) c.args.at _ _ c.requires.within e in
    omega (arith, l, place)

pub push-requires-in-Branch-2 : goal.push-requires-in-Branch-2
push-requires-in-Branch-2 c =
    let e = edge_row c.args.list.now c.args.at c.index-list-at.result (Branch c.in-Branch.field-0
    c.in-Branch.mark) c.requires.at c.index-list-at.is c.in-Branch.is in
    let l = second_within (length c.args.before.now) (successors c.args.list.now) c.args.at _ _ _ c.requires.within e in
    let n = ap (λ (t : Table). length t) c.in_ok-push-in-Branch.ensures
    ∙ length-push_at c.args.before.now c.place_of-in-Branch.result c.args.at in
    omega (arith, l, n)

pub push-requires-in_default : goal.push-requires-in_default
push-requires-in_default c =
    let e = next_row c.args.list.now c.args.at c.index-list-at.result c.requires.at c.index-list-at.is
    c.in_default.not-Jump c.in_default.not-Branch c.in_default.not-Fault c.in_default.not-Return in
    let l = first_within (length c.args.before.now) (successors c.args.list.now) c.args.at _ _ c.requires.within e in
    omega (arith, l)

pub returns-in-Jump : goal.returns-in-Jump
returns-in-Jump c =
    let place = c.place_of.ensures c.args.list.now c.requires.places (marks_at c.args.list.now c.args.at
    c.index-list-at.result (Jump
    c.in-Jump.mark) c.requires.at c.index-list-at.is c.in-Jump.is c.requires.marks_stand) in
    let e = edge_row c.args.list.now c.args.at c.index-list-at.result (Jump
    c.in-Jump.mark) c.requires.at c.index-list-at.is c.in-Jump.is in
    let P : Table → Type 0 = λ t. OnOk c.push.result (c.push.new.self ≡ t) in
    subst P (ap (λ k. push_at c.args.before.now k c.args.at) place
    ∙ sym (ap (λ ks. add_to c.args.at ks c.args.before.now) e)) c.push.ensures

pub returns-in_ok-push-in-Branch : goal.returns-in_ok-push-in-Branch
returns-in_ok-push-in-Branch c =
    let place = c.place_of-in-Branch.ensures c.args.list.now c.requires.places (marks_at c.args.list.now c.args.at
    c.index-list-at.result (Branch c.in-Branch.field-0
    c.in-Branch.mark) c.requires.at c.index-list-at.is c.in-Branch.is c.requires.marks_stand) in
    let e = edge_row c.args.list.now c.args.at c.index-list-at.result (Branch c.in-Branch.field-0
    c.in-Branch.mark) c.requires.at c.index-list-at.is c.in-Branch.is in
    let next : c.args.at + 1 ≡ suc c.args.at = omega arith in
    let first = c.in_ok-push-in-Branch.ensures ∙ ap (λ k. push_at c.args.before.now k c.args.at) place in
    let P : Table → Type 0 = λ t. OnOk c.push-in-Branch-2.result (c.push-in-Branch-2.new.self ≡ t) in
    subst P
    (ap (λ k. push_at c.push-in-Branch.new.self k c.args.at) next
    ∙ (ap (λ t. push_at t (suc c.args.at) c.args.at) first
    ∙ sym (ap (λ ks. add_to c.args.at ks c.args.before.now) e))) c.push-in-Branch-2.ensures

pub returns-in-Fault : goal.returns-in-Fault
returns-in-Fault c =
    let e = edge_row c.args.list.now c.args.at c.index-list-at.result (Fault
    c.in-Fault.field-0) c.requires.at c.index-list-at.is c.in-Fault.is in
    sym (ap (λ ks. add_to c.args.at ks c.args.before.now) e)

pub returns-in-Return : goal.returns-in-Return
returns-in-Return c =
    let e = edge_row c.args.list.now c.args.at c.index-list-at.result Return c.requires.at c.index-list-at.is
    c.in-Return.is in
    sym (ap (λ ks. add_to c.args.at ks c.args.before.now) e)

pub returns-in_default : goal.returns-in_default
returns-in_default c =
    let e = next_row c.args.list.now c.args.at c.index-list-at.result c.requires.at c.index-list-at.is
    c.in_default.not-Jump c.in_default.not-Branch c.in_default.not-Fault c.in_default.not-Return in
    let next : c.args.at + 1 ≡ suc c.args.at = omega arith in
    let P : Table → Type 0 = λ t. OnOk c.push-in_default.result (c.push-in_default.new.self ≡ t) in
    subst P (ap (λ k. push_at c.args.before.now k c.args.at) next
    ∙ sym (ap (λ ks. add_to c.args.at ks c.args.before.now) e)) c.push-in_default.ensures
