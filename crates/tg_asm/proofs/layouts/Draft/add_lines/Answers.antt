use Rattle.tg_asm.specs.glue.Layouts.{laid_of, lined_labels}
use Rattle.tg_asm.proofs.LinePass.{laid_again, laid_first, laid_more, laid_bad, laid_rises, laid_rises_first, lines_on}
use Rattle.tg_asm.proofs.layouts.Draft.add_lines.Goals as goal

pub loop-rule-init : goal.loop-rule-init
loop-rule-init c = laid_first c.args.text.now (lined_labels c.args.self.now) (laid_of c.args.self.now) c.requires.laid c.requires.lined

pub returns-in-Err-Rule-clause-told : goal.returns-in-Err-Rule-clause-told
returns-in-Err-Rule-clause-told c =
    let added = rw c.in-Err-Rule.field-0-is at c.in-Err-Rule.ensures.added in
    let lined = rw c.in-Err-Rule.field-0-is at c.in-Err-Rule.ensures.lined in
    rw c.in-Err-Rule.field-0-is (laid_bad _ _ c.split_line.result.0.now _ _ _ _ _ _ c.loop-rule.invariant
    (lines_on c.loop-rule.rest.now c.split_line.result.0.now c.split_line.result.1 c.split_line.ensures.lines) added lined)

pub returns-in-Err-Rule-clause-rises : goal.returns-in-Err-Rule-clause-rises
returns-in-Err-Rule-clause-rises c =
    let lined = rw c.in-Err-Rule.field-0-is at c.in-Err-Rule.ensures.lined in
    laid_rises _ _ c.split_line.result.0.now _ _ _ _ c.loop-rule.invariant lined

pub returns-in-Err-Memory-clause-again : goal.returns-in-Err-Memory-clause-again
returns-in-Err-Memory-clause-again c =
    laid_again _ _ c.split_line.result.0.now _ _ _ _ _ c.loop-rule.invariant
    (lines_on c.loop-rule.rest.now c.split_line.result.0.now c.split_line.result.1 c.split_line.ensures.lines) c.add_line.ensures.begun

pub returns-in-Err-Memory-clause-rises : goal.returns-in-Err-Memory-clause-rises
returns-in-Err-Memory-clause-rises c = laid_rises_first _ _ c.split_line.result.0.now _ _ _ _ c.loop-rule.invariant c.add_line.ensures.begun

pub loop-rule-preserved : goal.loop-rule-preserved
loop-rule-preserved c =
    let lines = rw c.in-Some.is at c.split_line.ensures.lines in
    let shorter = rw c.in-Some.is at c.split_line.ensures.shorter in
    laid_more _ _ _ _ _ _ _ _ _ c.loop-rule.invariant lines shorter c.in-Ok.ensures.added c.in-Ok.ensures.lined c.in-Ok.ensures.small
