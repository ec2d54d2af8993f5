use Rattle.std.proofs.Common.{◌≢◌, ◌<◌, get_or, arith, sym}
use Rattle.std.proofs.lemmas.List.{take_rest}
use Rattle.tg_lexer.proofs.StringSteps.{quotes_none, quotes_plain, quotes_escape, quotes_gap, quotes_whole, quotes_end, quotes_line, quotes_cut}
use Rattle.tg_lexer.proofs.StringSteps.{quotes_bad, quotes_control}
use Rattle.tg_lexer.proofs.strings.string.Goals as goal

pub loop-at-init : goal.loop-at-init
loop-at-init c = rw c.new-meant.ensures.items (quotes_none _)

pub loop-at-preserved-then-is_plain : goal.loop-at-preserved-then-is_plain
loop-at-preserved-then-is_plain c = rw c.in_ok-push.ensures.items (quotes_plain _ _ _ c.loop-at.invariant c.loop-at-test.true (sym c.if-is_plain.ensures))

pub loop-at-preserved-in-Byte : goal.loop-at-preserved-in-Byte
loop-at-preserved-in-Byte c = rw c.in_ok-push-in-Byte.ensures.items (quotes_escape _ _ _ _ _ c.loop-at.invariant
    c.loop-at-test.true c.in-92.is (rw take_rest at c.in-Byte.ensures))

pub loop-at-preserved : goal.loop-at-preserved
loop-at-preserved c = quotes_gap _ _ _ _ c.loop-at.invariant c.loop-at-test.true c.in-92.is (rw take_rest at c.in-Nothing.ensures)

pub returns-in-34 : goal.returns-in-34
returns-in-34 c = rw c.from_vec.ensures (quotes_whole _ _ _ c.loop-at.invariant c.loop-at-test.true c.in-34.is)

pub returns-in-10 : goal.returns-in-10
returns-in-10 c = (quotes_line _ _ _ _ c.loop-at.invariant c.loop-at-test.true c.in-10.is, omega arith)

pub returns-in-Cut : goal.returns-in-Cut
returns-in-Cut c = (quotes_cut _ _ _ _ c.loop-at.invariant c.loop-at-test.true c.in-92.is (rw take_rest at c.in-Cut.ensures), omega arith)

pub returns-in-Bad : goal.returns-in-Bad
returns-in-Bad c = (quotes_bad _ _ _ _ c.loop-at.invariant c.loop-at-test.true c.in-92.is (rw take_rest at c.in-Bad.ensures), omega arith)

pub returns-in_default : goal.returns-in_default
returns-in_default c =
    let quote : get_or c.args.text.now c.loop-at.at 0 ≢ 34 = omega arith in
    let line : get_or c.args.text.now c.loop-at.at 0 ≢ 10 = omega arith in
    let backslash : get_or c.args.text.now c.loop-at.at 0 ≢ 92 = omega arith in
    let byte : get_or c.args.text.now c.loop-at.at 0 < 256 = omega (arith, c.type_inv.text c.loop-at.at) in
    (quotes_control _ _ _ _ c.loop-at.invariant c.loop-at-test.true byte (sym c.if-is_plain.ensures) quote line backslash, omega arith)

pub returns : goal.returns
returns c = (quotes_end _ _ _ _ c.loop-at.invariant c.loop-at-test.false, omega arith)
