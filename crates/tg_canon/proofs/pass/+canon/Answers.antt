use Rattle.std.proofs.Common.{sym, ap, ◌∙◌}
use Rattle.tg_tree.specs.glue.Plain.{plain_tx, plain_cond, plain_ts}
use Rattle.tg_tree.specs.glue.Lists.{txs_of, stms_of}
use Rattle.tg_canon.specs.mirror.Canon.{in_front}
use Rattle.tg_canon.specs.glue.Breaking.{leads}
use Rattle.tg_canon.specs.glue.Views.{plain_part, plain_parts, plain_hoisted, plain_tested, plain_opened}
use Rattle.tg_canon.proofs.Arms.{constant_hoists, address_hoists, temporary_hoists, frame_hoists, binary_hoists, load_hoists, byte_hoists, call_hoists}
use Rattle.tg_canon.proofs.Arms.{service_hoists, after_hoists, word_hoists, operands_hoist, compare_tests, not_tests, both_tests, either_tests}
use Rattle.tg_canon.proofs.Arms.{compare_leaves, not_leaves, move_goes, store_goes, store_byte_goes, do_goes, if_goes, if_goes_by_parts, loop_goes}
use Rattle.tg_canon.proofs.Arms.{break_goes, fault_goes, sequence_goes, return_goes}
use Rattle.tg_canon.proofs.Cases.{hoists_as, word_as, tests_as, leaves_as, goes_as, opened_as, call_as, if_ok, at_ok}
use Rattle.tg_canon.proofs.Steps.{same}
use Rattle.tg_canon.proofs.Walks.{statements_begin, statement_more, arguments_begin, argument_more, ends_with, none_left}
use Rattle.tg_canon.proofs.pass.+canon.Goals as goal

pub hoist-returns-in-Const : goal.hoist-returns-in-Const
hoist-returns-in-Const t c =
    if_ok c.constant.result c.constant.ensures
    (λ _ e. hoists_as (leads c.args.breaks.now) (sym c.into_inner.ensures ∙ c.in-Const.is) (constant_hoists (leads c.args.breaks.now) c.in-Const.n e))

pub hoist-returns-in-Address : goal.hoist-returns-in-Address
hoist-returns-in-Address t c =
    if_ok c.address.result c.address.ensures
    (λ _ e. hoists_as (leads c.args.breaks.now) (sym c.into_inner.ensures ∙ c.in-Address.is) (address_hoists (leads c.args.breaks.now) c.in-Address.label.0 e))

pub hoist-returns-in-Temp : goal.hoist-returns-in-Temp
hoist-returns-in-Temp t c =
    if_ok c.temporary.result c.temporary.ensures
    (λ _ e. hoists_as (leads c.args.breaks.now) (sym c.into_inner.ensures ∙ c.in-Temp.is) (temporary_hoists (leads c.args.breaks.now) c.in-Temp.temp.0 e))

pub hoist-returns-in-FrameAddress : goal.hoist-returns-in-FrameAddress
hoist-returns-in-FrameAddress t c =
    if_ok c.frame_address.result c.frame_address.ensures
    (λ _ e. hoists_as (leads c.args.breaks.now) (sym c.into_inner.ensures ∙ c.in-FrameAddress.is) (frame_hoists (leads c.args.breaks.now) e))

pub hoist-returns-in_ok-both-in-Binary : goal.hoist-returns-in_ok-both-in-Binary
hoist-returns-in_ok-both-in-Binary t c =
    if_ok c.operate.result c.operate.ensures
    (λ _ e. hoists_as (leads c.args.breaks.now) (sym c.into_inner.ensures ∙ c.in-Binary.is) (binary_hoists (leads c.args.breaks.now) c.in-Binary.op
    (plain_tx c.in-Binary.x.value) (plain_tx c.in-Binary.y.value) c.in_ok-both-in-Binary.ensures e))

pub hoist-returns-in_ok-a-in-Load : goal.hoist-returns-in_ok-a-in-Load
hoist-returns-in_ok-a-in-Load t c =
    if_ok c.load_from.result c.load_from.ensures
    (λ _ e. hoists_as (leads c.args.breaks.now) (sym c.into_inner.ensures ∙ c.in-Load.is) (load_hoists (leads c.args.breaks.now) (plain_tx c.in-Load.x.value)
    c.in_ok-a-in-Load.ensures e))

pub hoist-returns-in_ok-a-in-LoadByte : goal.hoist-returns-in_ok-a-in-LoadByte
hoist-returns-in_ok-a-in-LoadByte t c =
    if_ok c.load_byte_from.result c.load_byte_from.ensures
    (λ _ e. hoists_as (leads c.args.breaks.now) (sym c.into_inner.ensures ∙ c.in-LoadByte.is)
    (byte_hoists (leads c.args.breaks.now) (plain_tx c.in-LoadByte.x.value)
    c.in_ok-a-in-LoadByte.ensures e))

pub hoist-returns-in_ok-a-in-Service : goal.hoist-returns-in_ok-a-in-Service
hoist-returns-in_ok-a-in-Service t c =
    if_ok c.serve.result c.serve.ensures
    (λ _ e. hoists_as (leads c.args.breaks.now) (sym c.into_inner.ensures ∙ c.in-Service.is)
    (service_hoists (leads c.args.breaks.now) c.in-Service.number (plain_tx c.in-Service.x.value)
    c.in_ok-a-in-Service.ensures e))

pub hoist-returns-in_ok-all-in-Call : goal.hoist-returns-in_ok-all-in-Call
hoist-returns-in_ok-all-in-Call t c =
    if_ok c.call_of.result c.call_of.ensures (λ _ e. call_as (leads c.args.breaks.now) c.in-Call.label c.in-Call.xs (sym c.into_inner.ensures ∙ c.in-Call.is)
    (call_hoists (leads c.args.breaks.now) c.in-Call.label.0 (txs_of c.in-Call.xs.items.items) c.in_ok-all-in-Call.ensures e))

pub hoist-returns-in-After : goal.hoist-returns-in-After
hoist-returns-in-After t c =
    if_ok c.hoist_after.result c.hoist_after.ensures (λ _ e. hoists_as (leads c.args.breaks.now) (sym c.into_inner.ensures ∙ c.in-After.is) e)

pub hoist_after-returns : goal.hoist_after-returns
hoist_after-returns t c =
    if_ok c.behind_part.result c.behind_part.ensures (λ _ e. after_hoists (leads c.args.breaks.now) (plain_ts c.args.s.value) (plain_tx c.args.x.value)
    (same (at_ok _ c.in_ok-first.ensures.1 c.hoist-a.ensures) (ap (λ b. plain_hoisted b.value) c.in_ok-both.ensures.0))
    (goes_as (leads c.args.breaks.now) (ap (λ b. b.value) (sym c.in_ok-first.ensures.0)) (at_ok _ c.in_ok-both.ensures.1 c.linear-p.ensures)) e)

pub hoist_word-returns : goal.hoist_word-returns
hoist_word-returns t c =
    if_ok c.word.result c.word.ensures (λ _ e. word_hoists (leads c.args.breaks.now) (plain_tx c.args.x.value) c.in_ok-a.ensures e)

pub hoist_both-returns : goal.hoist_both-returns
hoist_both-returns t c =
    if_ok c.side_by_side.result c.side_by_side.ensures
    (λ _ e. operands_hoist (leads c.args.breaks.now) (plain_tx c.args.left.value) (plain_tx c.args.right.value)
    (same c.in_ok-b.ensures (ap (λ b. plain_hoisted b.value) c.in_ok-both.ensures.0))
    (at_ok _ c.in_ok-both.ensures.1 c.hoist_word-a.ensures) e)

pub hoist_all-loop-x-init : goal.hoist_all-loop-x-init
hoist_all-loop-x-init t c =
    arguments_begin (leads c.args.breaks.now) c.args.xs.items.items c.in_ok-none.ensures

pub hoist_all-loop-x-preserved : goal.hoist_all-loop-x-preserved
hoist_all-loop-x-preserved t c =
    argument_more (leads c.args.breaks.now) c.in-Some.x c.loop-x.invariant c.in-Some.ensures.items
    (word_as (leads c.args.breaks.now) (sym c.in_ok-x.ensures.ok) c.in_ok-a.ensures) c.in_ok-all.ensures

pub hoist_all-returns : goal.hoist_all-returns
hoist_all-returns t c =
    ends_with c.loop-x.invariant (none_left c.loop-x.xs.items.items (sym c.loop-x.xs.items.ok.0 ∙ c.in_default.ensures.cases.0))

pub condition-returns-in_ok-both-in-Compare : goal.condition-returns-in_ok-both-in-Compare
condition-returns-in_ok-both-in-Compare t c =
    if_ok c.compare_both.result c.compare_both.ensures
    (λ _ e. tests_as (leads c.args.breaks.now) (sym c.into_inner.ensures ∙ c.in-Compare.is) (compare_tests (leads c.args.breaks.now) c.in-Compare.rel
    (plain_tx c.in-Compare.x.value) (plain_tx c.in-Compare.y.value) c.in_ok-both-in-Compare.ensures e))

pub condition-returns-in_ok-t-in-Not : goal.condition-returns-in_ok-t-in-Not
condition-returns-in_ok-t-in-Not t c =
    if_ok c.opposite.result c.opposite.ensures
    (λ _ e. tests_as (leads c.args.breaks.now) (sym c.into_inner.ensures ∙ c.in-Not.is) (not_tests (leads c.args.breaks.now) (plain_cond c.in-Not.c.value)
    c.in_ok-t-in-Not.ensures e))

pub condition-returns-in_ok-both-in-Both : goal.condition-returns-in_ok-both-in-Both
condition-returns-in_ok-both-in-Both t c =
    if_ok c.and.result c.and.ensures
    (λ _ e. tests_as (leads c.args.breaks.now) (sym c.into_inner.ensures ∙ c.in-Both.is) (both_tests (leads c.args.breaks.now) (plain_cond c.in-Both.c.value)
    (plain_cond c.in-Both.d.value) (same c.in_ok-u-in-Both.ensures (ap (λ b. plain_tested b.value) c.in_ok-both-in-Both.ensures.0))
    (at_ok _ c.in_ok-both-in-Both.ensures.1 c.condition-t.ensures) e))

pub condition-returns-in_ok-both-in-Either : goal.condition-returns-in_ok-both-in-Either
condition-returns-in_ok-both-in-Either t c =
    if_ok c.or.result c.or.ensures
    (λ _ e. tests_as (leads c.args.breaks.now) (sym c.into_inner.ensures ∙ c.in-Either.is) (either_tests (leads c.args.breaks.now) (plain_cond c.in-Either.c.value)
    (plain_cond c.in-Either.d.value) (same c.in_ok-u-in-Either.ensures (ap (λ b. plain_tested b.value) c.in_ok-both-in-Either.ensures.0))
    (at_ok _ c.in_ok-both-in-Either.ensures.1 c.condition-t-in-Either.ensures) e))

pub leave-returns-in_ok-t-in-Compare : goal.leave-returns-in_ok-t-in-Compare
leave-returns-in_ok-t-in-Compare t c =
    if_ok c.exit_where.result c.exit_where.ensures
    (λ _ e. leaves_as (leads c.args.breaks.now) c.args.when c.args.loops (sym c.into_inner.ensures ∙ c.in-Compare.is)
    (compare_leaves (leads c.args.breaks.now) c.args.when c.args.loops c.in-Compare.rel
    (plain_tx c.in-Compare.x.value) (plain_tx c.in-Compare.y.value) c.in_ok-both-in-Compare.ensures c.in_ok-t-in-Compare.ensures e))

pub leave-returns-in-Not : goal.leave-returns-in-Not
leave-returns-in-Not t c =
    if_ok c.leave.result c.leave.ensures
    (λ _ e. leaves_as (leads c.args.breaks.now) c.args.when c.args.loops (sym c.into_inner.ensures ∙ c.in-Not.is)
    (not_leaves (leads c.args.breaks.now) c.args.when c.args.loops (plain_cond c.in-Not.c.value) e))

pub linear-returns-in_ok-a-in-Move : goal.linear-returns-in_ok-a-in-Move
linear-returns-in_ok-a-in-Move t c =
    if_ok c.move_to.result c.move_to.ensures (λ _ e. opened_as (leads c.args.breaks.now) (ap plain_opened (sym c.in-Move.is) ∙ c.in_ok-opened.ensures.parts)
    (move_goes (leads c.args.breaks.now) c.in-Move.temp.0 (plain_tx c.in-Move.x.value) c.in_ok-a-in-Move.ensures e))

pub linear-returns-in_ok-both-in-Store : goal.linear-returns-in_ok-both-in-Store
linear-returns-in_ok-both-in-Store t c =
    if_ok c.store.result c.store.ensures (λ _ e. opened_as (leads c.args.breaks.now) (ap plain_opened (sym c.in-Store.is) ∙ c.in_ok-opened.ensures.parts)
    (store_goes (leads c.args.breaks.now) (plain_tx c.in-Store.x.value) (plain_tx c.in-Store.y.value) c.in_ok-both-in-Store.ensures e))

pub linear-returns-in_ok-both-in-StoreByte : goal.linear-returns-in_ok-both-in-StoreByte
linear-returns-in_ok-both-in-StoreByte t c =
    if_ok c.store_byte.result c.store_byte.ensures
    (λ _ e. opened_as (leads c.args.breaks.now) (ap plain_opened (sym c.in-StoreByte.is) ∙ c.in_ok-opened.ensures.parts)
    (store_byte_goes (leads c.args.breaks.now) (plain_tx c.in-StoreByte.x.value) (plain_tx c.in-StoreByte.y.value) c.in_ok-both-in-StoreByte.ensures e))

pub linear-returns-in_ok-a-in-Do : goal.linear-returns-in_ok-a-in-Do
linear-returns-in_ok-a-in-Do t c =
    if_ok c.drop_value.result c.drop_value.ensures (λ _ e. opened_as (leads c.args.breaks.now) (ap plain_opened (sym c.in-Do.is) ∙ c.in_ok-opened.ensures.parts)
    (do_goes (leads c.args.breaks.now) (plain_tx c.in-Do.x.value) c.in_ok-a-in-Do.ensures e))

pub linear-returns-in_ok-a-in-Return : goal.linear-returns-in_ok-a-in-Return
linear-returns-in_ok-a-in-Return t c =
    if_ok c.return_of.result c.return_of.ensures
    (λ _ e. opened_as (leads c.args.breaks.now) (ap plain_opened (sym c.in-Return.is) ∙ c.in_ok-opened.ensures.parts)
    (return_goes (leads c.args.breaks.now) (plain_tx c.in-Return.x.value) c.in_ok-a-in-Return.ensures e))

pub linear-returns-in_ok-p-in-Loop : goal.linear-returns-in_ok-p-in-Loop
linear-returns-in_ok-p-in-Loop t c =
    if_ok c.repeated.result c.repeated.ensures (λ _ e. opened_as (leads c.args.breaks.now) (ap plain_opened (sym c.in-Loop.is) ∙ c.in_ok-opened.ensures.parts)
    (loop_goes (leads c.args.breaks.now) (plain_ts c.in-Loop.s.value) c.in_ok-p-in-Loop.ensures e))

pub linear-returns-in_ok-further-in-Break : goal.linear-returns-in_ok-further-in-Break
linear-returns-in_ok-further-in-Break t c =
    if_ok c.leaves.result c.leaves.ensures (λ _ e. opened_as (leads c.args.breaks.now) (ap plain_opened (sym c.in-Break.is) ∙ c.in_ok-opened.ensures.parts)
    (break_goes (leads c.args.breaks.now) c.in-Break.loops c.in_ok-further-in-Break.ensures e))

pub linear-returns-in-Fault : goal.linear-returns-in-Fault
linear-returns-in-Fault t c =
    if_ok c.faults.result c.faults.ensures (λ _ e. opened_as (leads c.args.breaks.now) (ap plain_opened (sym c.in-Fault.is) ∙ c.in_ok-opened.ensures.parts)
    (fault_goes (leads c.args.breaks.now) c.in-Fault.number e))

pub linear-returns-in_ok-all-in-Seq : goal.linear-returns-in_ok-all-in-Seq
linear-returns-in_ok-all-in-Seq t c =
    if_ok c.in_turn.result c.in_turn.ensures (λ _ e. opened_as (leads c.args.breaks.now) (ap plain_opened (sym c.in-Seq.is) ∙ c.in_ok-opened.ensures.parts)
    (sequence_goes (leads c.args.breaks.now) (stms_of c.in-Seq.ss.items.items) c.in_ok-all-in-Seq.ensures e))

pub choose_whole-returns : goal.choose_whole-returns
choose_whole-returns t c =
    if_ok c.choose.result c.choose.ensures (λ _ e w. if_goes (leads c.args.breaks.now) (plain_cond c.args.test.value) (plain_ts c.args.this.value) (plain_ts c.args.other.value) w
    c.in_ok-q.ensures c.in_ok-p.ensures c.in_ok-t.ensures e)

pub choose_in_parts-returns : goal.choose_in_parts-returns
choose_in_parts-returns t c =
    if_ok c.choose_by_parts.result c.choose_by_parts.ensures (λ _ e w. if_goes_by_parts (leads c.args.breaks.now) (plain_cond c.args.test.value) (plain_ts c.args.this.value)
    (plain_ts c.args.other.value) w c.in_ok-q.ensures c.in_ok-p.ensures c.in_ok-t.ensures e)

pub linear_all-loop-s-init : goal.linear_all-loop-s-init
linear_all-loop-s-init t c =
    statements_begin (leads c.args.breaks.now) c.args.ss.items.items c.in_ok-all.ensures

pub linear_all-loop-s-preserved : goal.linear_all-loop-s-preserved
linear_all-loop-s-preserved t c =
    statement_more (leads c.args.breaks.now) c.in-Some.s c.loop-s.invariant c.in-Some.ensures.items
    (goes_as (leads c.args.breaks.now) (sym c.in_ok-s.ensures.ok) c.in_ok-p.ensures)
    (c.in_ok-put_in_front.ensures ∙ ap (λ all. in_front (plain_part c.in_ok-p.p.value) (plain_parts all)) c.deref_mut.ensures.value)

pub linear_all-returns : goal.linear_all-returns
linear_all-returns t c =
    ends_with c.loop-s.invariant (none_left c.loop-s.ss.items.items (sym c.loop-s.ss.items.ok.0 ∙ c.in_default.ensures.cases.0))
