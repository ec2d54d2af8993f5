use Rattle.std.proofs.Common.{ℕ, Bool, true, false, None, ◌≡◌, ◌+◌, length, arith, refl, ap, sym, ◌∙◌, subst}
use Rattle.std.specs.Prelude.{IfOk}
use Rattle.tg_tree.specs.glue.Lists.{txs_of}
use Rattle.tg_tree.specs.glue.Plain.{plain_tx}
use Rattle.tg_tree.proofs.ListLaws.{plain_tx-Call}
use Rattle.tg_munch.specs.glue.Drafts.{Writes}
use Rattle.tg_munch.specs.mirror.Arguments.{one_may_end, ordered}
use Rattle.tg_munch.specs.mirror.Choosing.{Choice}
use Rattle.tg_munch.specs.mirror.Munching.{expression, arguments, based_at, left_side}
use Rattle.tg_munch.specs.mirror.Tiles.{based, loaded}
use Rattle.tg_munch.proofs.Walking.{leads_on, leads_end, argument_each, picked, picks_all, picks_frame, picks_registers, passed_low, passed_high}
use Rattle.tg_munch.proofs.Walking.{by_word, on_operands, load_is, load_byte_is}
use Rattle.tg_munch.proofs.Writing.{writes_then, writes_none}
use Rattle.tg_munch.proofs.expressions.+munching.Goals as goal

pub with_constant-returns : goal.with_constant-returns
with_constant-returns t c =
    writes_then _ c.in_ok-to.ensures
    (writes_then _ c.in_ok-from.ensures (rw c.instruction.ensures at c.in_ok-value.ensures))

pub load-returns : goal.load-returns
load-returns t c = writes_then _ c.in_ok-to.ensures c.in_ok-value.ensures

pub load_byte-returns : goal.load_byte-returns
load_byte-returns t c =
    writes_then _ c.in_ok-to.ensures (writes_then _ c.in_ok-place.ensures c.in_ok-value.ensures)

pub service-returns : goal.service-returns
service-returns t c =
    writes_then _ c.in_ok-expression.ensures (writes_then _ c.in_ok-constant.ensures c.in_ok-put.ensures)

pub call-returns : goal.call-returns
call-returns t c = writes_then _ c.in_ok-arguments.ensures c.in_ok-put.ensures

pub arguments-returns-then-one_may_end : goal.arguments-returns-then-one_may_end
arguments-returns-then-one_may_end t c =
    let xs = txs_of c.args.items.now.items.items in
    let value : (ℕ → Bool) → Choice (Unit {0}) = λ picks. arguments c.args.slots picks 0 xs in
    let ends : one_may_end 0 xs ≡ true = subst (λ ys. one_may_end 0 (txs_of ys) ≡ true) c.deref.ensures.value
    (sym c.one_may_end.ensures ∙ c.if-one_may_end.true) in
    subst (λ b. Writes (ordered b value) c.args.draft.now c.pass_those.new.draft tt) (sym ends)
    (subst (λ picks. Writes (value picks) c.args.draft.now c.pass_those.new.draft tt) picks_all c.in_ok-pass_those.ensures)

pub arguments-returns : goal.arguments-returns
arguments-returns t c =
    let xs = txs_of c.args.items.now.items.items in
    let value : (ℕ → Bool) → Choice (Unit {0}) = λ picks. arguments c.args.slots picks 0 xs in
    let ends : one_may_end 0 xs ≡ false = subst (λ ys. one_may_end 0 (txs_of ys) ≡ false) c.deref.ensures.value
    (sym c.one_may_end.ensures ∙ c.if-one_may_end.false) in
    subst (λ b. Writes (ordered b value) c.args.draft.now c.pass_those-3.new.draft tt) (sym ends)
    (writes_then _
    (subst (λ picks. Writes (value picks) c.args.draft.now c.pass_those-2.new.draft tt) picks_frame c.in_ok-pass_those-2.ensures)
    (subst (λ picks. Writes (value picks) c.pass_those-2.new.draft c.pass_those-3.new.draft tt) picks_registers c.in_ok-pass_those-3.ensures))

pub pass_those-loop-i-preserved : goal.pass_those-loop-i-preserved
pass_those-loop-i-preserved t c =
    let i = c.loop-i.i in
    leads_on (argument_each c.args.slots (picked c.args.registers c.args.frame)) c.args.items.now.items.items 0 i i
    (rw c.deref-x-items.ensures.value at c.loop-i-test.true) (rw c.deref-x-items.ensures.value at c.x-item.is)
    c.loop-i.invariant (rw c.is_wanted-wanted.ensures at c.in_ok-pass_where.ensures)

pub pass_those-returns : goal.pass_those-returns
pass_those-returns t c =
    let i = c.loop-i.i in
    let over : i ≡ length c.deref-x-items.result.now = omega (arith, c.loop-i.auto.i-end, c.loop-i-test.false) in
    leads_end (argument_each c.args.slots (picked c.args.registers c.args.frame)) c.args.items.now.items.items 0 i i
    (over ∙ ap length c.deref-x-items.ensures.value) c.loop-i.invariant

pub base-returns-in_ok-operand-in-Some : goal.base-returns-in_ok-operand-in-Some
base-returns-in_ok-operand-in-Some t c =
    let x = plain_tx c.args.address.now in
    subst (λ o. Writes (based o (left_side c.args.slots x) (expression c.args.slots x None))
    c.args.draft.now c.left_side.new.draft (record { bytes = c.in-Some.bytes; operand = c.in_ok-operand-in-Some.operand }))
    c.in-Some.ensures (writes_then _ c.in_ok-operand-in-Some.ensures (writes_none _ _))

pub base-returns-in_ok-operand-in-None : goal.base-returns-in_ok-operand-in-None
base-returns-in_ok-operand-in-None t c =
    let x = plain_tx c.args.address.now in
    rw c.new.ensures (subst (λ o. Writes (based o (left_side c.args.slots x) (expression c.args.slots x None))
    c.args.draft.now c.expression.new.draft (record { bytes = 0; operand = c.in_ok-operand-in-None.operand }))
    c.in-None.ensures (writes_then _ c.in_ok-operand-in-None.ensures (writes_none _ _)))

pub load_to-returns-in_ok-value-in-None : goal.load_to-returns-in_ok-value-in-None
load_to-returns-in_ok-value-in-None t c =
    subst (λ s. Writes (loaded s (based_at c.args.slots (plain_tx c.args.address.now)) c.args.to)
    c.args.draft.now c.define-in-None.new.self c.in_ok-value-in-None.value)
    c.in-None.ensures (writes_then _ c.in_ok-place-in-None.ensures c.in_ok-value-in-None.ensures)

pub expression-returns-in_ok-value-in-Call : goal.expression-returns-in_ok-value-in-Call
expression-returns-in_ok-value-in-Call t c =
    subst (λ y. Writes (expression c.args.slots y c.args.asked) c.args.draft.now c.answer_in.new.draft c.in_ok-value-in-Call.value)
    (sym (ap plain_tx c.in-Call.is ∙ plain_tx-Call c.in-Call.label c.in-Call.items))
    (writes_then _ c.in_ok-call-in-Call.ensures c.in_ok-value-in-Call.ensures)

pub expression-returns-in_ok-value-in-Service : goal.expression-returns-in_ok-value-in-Service
expression-returns-in_ok-value-in-Service t c =
    subst (λ y. Writes (expression c.args.slots (plain_tx y) c.args.asked) c.args.draft.now c.answer_in-in-Service.new.draft c.in_ok-value-in-Service.value)
    (sym c.in-Service.is)
    (writes_then _ (rw c.deref-in-Service.ensures at c.in_ok-service-in-Service.ensures) c.in_ok-value-in-Service.ensures)

pub expression-returns-in_ok-value-in-ByWord : goal.expression-returns-in_ok-value-in-ByWord
expression-returns-in_ok-value-in-ByWord t c =
    subst (λ y. Writes (expression c.args.slots (plain_tx y) c.args.asked) c.args.draft.now c.shift_into.new.draft c.in_ok-value-in-ByWord.value)
    (sym c.in-Binary.is)
    (by_word c.args.slots c.in-Binary.op (plain_tx c.in-Binary.left.value) (plain_tx c.in-Binary.right.value) c.args.asked
    (rw (c.deref.ensures, c.deref-in-Binary.ensures) at c.in-ByWord.ensures)
    (rw c.deref-in-ByWord.ensures at c.in_ok-word-in-ByWord.ensures)
    (rw c.deref-in-ByWord-2.ensures at c.in_ok-amount-in-ByWord.ensures)
    c.in_ok-value-in-ByWord.ensures)

pub expression-returns-in_ok-value-in-Operands : goal.expression-returns-in_ok-value-in-Operands
expression-returns-in_ok-value-in-Operands t c =
    subst (λ y. Writes (expression c.args.slots (plain_tx y) c.args.asked) c.args.draft.now c.operate.new.draft c.in_ok-value-in-Operands.value)
    (sym c.in-Binary.is)
    (on_operands c.args.slots c.in-Binary.op (plain_tx c.in-Binary.left.value) (plain_tx c.in-Binary.right.value) c.args.asked
    (rw (c.deref.ensures, c.deref-in-Binary.ensures) at c.in-Operands.ensures)
    c.in_ok-to-in-Operands.ensures
    (rw c.deref-in-Operands.ensures at c.in_ok-first-in-Operands.ensures)
    (rw c.deref-in-Operands-2.ensures at c.in_ok-second-in-Operands.ensures)
    c.in_ok-value-in-Operands.ensures)

pub expression-returns-in-Load : goal.expression-returns-in-Load
expression-returns-in-Load t c =
    subst (λ y. IfOk c.load.result (λ v. Writes (expression c.args.slots (plain_tx y) c.args.asked) c.args.draft.now c.load.new.draft v))
    (sym c.in-Load.is)
    (subst (λ q. IfOk c.load.result (λ v. Writes q c.args.draft.now c.load.new.draft v))
    (sym (load_is c.args.slots (plain_tx c.in-Load.address.value) c.args.asked)) (rw c.deref-in-Load.ensures at c.load.ensures))

pub expression-returns-in-LoadByte : goal.expression-returns-in-LoadByte
expression-returns-in-LoadByte t c =
    subst (λ y. IfOk c.load_byte.result (λ v. Writes (expression c.args.slots (plain_tx y) c.args.asked) c.args.draft.now c.load_byte.new.draft v))
    (sym c.in-LoadByte.is)
    (subst (λ q. IfOk c.load_byte.result (λ v. Writes q c.args.draft.now c.load_byte.new.draft v))
    (sym (load_byte_is c.args.slots (plain_tx c.in-LoadByte.address.value) c.args.asked)) (rw c.deref-in-LoadByte.ensures at c.load_byte.ensures))

pub pass-returns-then-i-lt4 : goal.pass-returns-then-i-lt4
pass-returns-then-i-lt4 t c =
    let value = expression c.args.slots (plain_tx c.args.x.now) in
    let e : c.new.result ≡ 4 + c.args.i = omega (arith, c.new.ensures, c.if-i-lt4.true) in
    subst (λ q. Writes q c.args.draft.now c.expression.new.draft tt) (sym (passed_low c.args.i value c.if-i-lt4.true))
    (writes_then _ (rw e at c.in_ok-expression.ensures) (writes_none _ _))

pub pass-returns : goal.pass-returns
pass-returns t c =
    let value = expression c.args.slots (plain_tx c.args.x.now) in
    subst (λ q. Writes q c.args.draft.now c.store_low.new.draft tt) (sym (passed_high c.args.i value c.if-i-lt4.false))
    (writes_then _ c.in_ok-value.ensures (rw c.in_ok-bytes.ensures at c.in_ok-store_low.ensures))

pub left_side-returns-in-Load : goal.left_side-returns-in-Load
left_side-returns-in-Load t c =
    subst (λ q. IfOk c.expression-in-Load.result (λ v. Writes q c.args.draft.now c.expression-in-Load.new.draft v))
    (subst (λ y. expression c.args.slots (plain_tx y) None ≡ left_side c.args.slots (plain_tx y)) (sym c.in-Load.is) refl)
    c.expression-in-Load.ensures

pub left_side-returns-in-LoadByte : goal.left_side-returns-in-LoadByte
left_side-returns-in-LoadByte t c =
    subst (λ q. IfOk c.expression-in-LoadByte.result (λ v. Writes q c.args.draft.now c.expression-in-LoadByte.new.draft v))
    (subst (λ y. expression c.args.slots (plain_tx y) None ≡ left_side c.args.slots (plain_tx y)) (sym c.in-LoadByte.is) refl)
    c.expression-in-LoadByte.ensures
