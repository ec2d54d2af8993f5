use Rattle.std.proofs.Common.{◌≡◌, ◌++◌, drop}
use Rattle.tg_regalloc_report.specs.Listing.{spilled_lines}
use Rattle.tg_regalloc_report.proofs.steps.put_spilled.Given as goal

abbrev pub invariant-loop-node : goal.invariant-loop-node
invariant-loop-node l =
    l.initial.text.items ++ spilled_lines l.nodes ≡ l.text.items ++ spilled_lines (drop l.node-index l.nodes)
