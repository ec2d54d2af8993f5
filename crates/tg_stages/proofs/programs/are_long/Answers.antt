use Rattle.std.proofs.Common.{◌++◌, ◌+◌, ◌<◌, drop, get_or, length, false, sym, ap, ◌∙◌, append_assoc, rules}
use Rattle.tg_emit.specs.mirror.Lines.{function_lines, functions_lines}
use Rattle.tg_regalloc.specs.Allocations.{codes_of}
use Rattle.tg_stages.proofs.Counts.{emittable_there, lines_more}
use Rattle.tg_stages.proofs.programs.are_long.Goals as goal

pub function-requires : goal.function-requires
function-requires c =
    let inside : c.loop-at.at < length c.args.allocations.now = search rules in
    emittable_there c.args.allocations.now c.loop-at.at c.index-allocations-at.result inside c.requires

pub loop-at-preserved : goal.loop-at-preserved
loop-at-preserved c =
    let inside : c.loop-at.at < length c.args.allocations.now = search rules in
    let d = c.index-allocations-at.result in
    let before = c.loop-at.lines.items in
    let rest = functions_lines false (codes_of (drop (c.loop-at.at + 1) c.args.allocations.now)) in
    c.loop-at.invariant ∙ ap (λ x. before ++ x) (lines_more c.args.allocations.now c.loop-at.at d inside)
    ∙ sym (append_assoc before (function_lines false (get_or c.args.allocations.now c.loop-at.at d).done) rest)
    ∙ ap (λ x. x ++ rest) (sym c.in_ok-function.ensures.lines)
