use Rattle.std.proofs.Common.{length, ◌+◌, ◌*◌}
use Rattle.tg_canon.specs.glue.Breaking.{leads}
use Rattle.tg_canon.specs.glue.Views.{plain_parts, plain_arguments}
use Rattle.tg_canon.proofs.Walks.{StatementsWalked, ArgumentsWalked}
use Rattle.tg_canon.proofs.pass.+canon.Given as goal

abbrev pub invariant-hoist_all-loop-x : goal.invariant-hoist_all-loop-x
invariant-hoist_all-loop-x l = ArgumentsWalked (leads l.breaks) l.fn.xs.items.items l.fn.supply.next l.xs.items.items (plain_arguments l.all.value) l.supply.next

abbrev pub invariant-linear_all-loop-s : goal.invariant-linear_all-loop-s
invariant-linear_all-loop-s l = StatementsWalked (leads l.breaks) l.fn.ss.items.items l.fn.supply.next l.ss.items.items (plain_parts l.all.value) l.supply.next

abbrev pub decreases-hoist : goal.decreases-hoist
decreases-hoist l = 2 * l.height

abbrev pub decreases-hoist_after : goal.decreases-hoist_after
decreases-hoist_after l = 2 * l.height + 1

abbrev pub decreases-hoist_word : goal.decreases-hoist_word
decreases-hoist_word l = 2 * l.height

abbrev pub decreases-hoist_both : goal.decreases-hoist_both
decreases-hoist_both l = 2 * l.height + 1

abbrev pub decreases-hoist_all : goal.decreases-hoist_all
decreases-hoist_all l = 2 * l.height

abbrev pub decreases-condition : goal.decreases-condition
decreases-condition l = 2 * l.height

abbrev pub decreases-leave : goal.decreases-leave
decreases-leave l = 2 * l.height

abbrev pub decreases-linear : goal.decreases-linear
decreases-linear l = 2 * l.height

abbrev pub decreases-choose_whole : goal.decreases-choose_whole
decreases-choose_whole l = 2 * l.height + 1

abbrev pub decreases-choose_in_parts : goal.decreases-choose_in_parts
decreases-choose_in_parts l = 2 * l.height + 1

abbrev pub decreases-linear_all : goal.decreases-linear_all
decreases-linear_all l = 2 * l.height

abbrev pub decreases-hoist_all-loop-x : goal.decreases-hoist_all-loop-x
decreases-hoist_all-loop-x l = length l.xs.items.items

abbrev pub decreases-linear_all-loop-s : goal.decreases-linear_all-loop-s
decreases-linear_all-loop-s l = length l.ss.items.items
