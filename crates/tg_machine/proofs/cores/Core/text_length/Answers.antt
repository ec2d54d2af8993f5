use Rattle.std.proofs.Common.{arith, ◌≡◌, ◌+◌, sym, length}
use Rattle.std.proofs.lemmas.Result.{err_from_is_err_and}
use Rattle.tg_machine.proofs.Texts.{found_none, found_more, found_all, found_fault, found_over}
use Rattle.tg_machine.proofs.cores.Core.text_length.Goals as goal

pub loop-length-init : goal.loop-length-init
loop-length-init c = found_none _ _ _

pub loop-length-preserved : goal.loop-length-preserved
loop-length-preserved c =
    found_more _ _ _ _ _ c.loop-length-test.true c.loop-length.invariant (sym c.in_ok-load_byte.ensures.value)
    c.in_ok-load_byte.ensures.low c.if-branch-eq0.false

pub returns-in_err-load_byte-clause-text : goal.returns-in_err-load_byte-clause-text
returns-in_err-load_byte-clause-text c =
    let s = c.args.self.now in
    let p = err_from_is_err_and c.from_residual.result c.from_residual.ensures.1 in
    let is : c.len.result + c.len-2.result + c.len-3.result + 1 ≡ length s.statics + length s.heap + length s.stack + 1 = grind arith in
    let h = found_fault _ _ _ _ _ is c.loop-length-test.true c.loop-length.invariant (sym c.in_err-load_byte.ensures.value) in
    rw (p.1, p.2) h

pub returns-then-branch-eq0-clause-text : goal.returns-then-branch-eq0-clause-text
returns-then-branch-eq0-clause-text c =
    let s = c.args.self.now in
    let is : c.len.result + c.len-2.result + c.len-3.result + 1 ≡ length s.statics + length s.heap + length s.stack + 1 = grind arith in
    found_all _ _ _ _ _ is c.loop-length-test.true c.loop-length.invariant (sym c.in_ok-load_byte.ensures.value)
    c.in_ok-load_byte.ensures.low c.if-branch-eq0.true

pub returns-clause-text : goal.returns-clause-text
returns-clause-text c =
    let s = c.args.self.now in
    let is : c.len.result + c.len-2.result + c.len-3.result + 1 ≡ length s.statics + length s.heap + length s.stack + 1 = grind arith in
    let over : c.loop-length.length ≡ c.len.result + c.len-2.result + c.len-3.result + 1 = omega arith in
    found_over _ _ _ _ is over c.loop-length.invariant
