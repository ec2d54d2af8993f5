use Rattle.std.proofs.Common.{◌≡◌, ◌≤◌, take, length}
use Rattle.tg_tree.specs.declared.trees.Stms.{size-Stms}
use Rattle.tg_trace_schedule.specs.glue.Plains.{plain_cut}
use Rattle.tg_trace_schedule.proofs.Backs.{back}
use Rattle.tg_trace_schedule.proofs.cutting.+cutting.Given as goal

abbrev pub invariant-cut_all-loop-statement : goal.invariant-cut_all-loop-statement
invariant-cut_all-loop-statement l = record {
  deeper : size-Stms l.all ≤ size-Stms l.initial.all;
  exits : l.before.exits.items ≡ l.fn.before.exits.items;
  cut : back l.fn.before.exits.items (take l.count l.all.items.items) (plain_cut l.before) ≡ back l.fn.before.exits.items
      (take l.count l.fn.all.items.items) (plain_cut l.fn.before);
}

abbrev pub decreases-cut_all-loop-statement : goal.decreases-cut_all-loop-statement
decreases-cut_all-loop-statement l = length l.all.items.items
