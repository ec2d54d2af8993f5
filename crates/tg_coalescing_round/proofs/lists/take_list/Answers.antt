use Rattle.std.proofs.Common.{ℕ, List, set, ap, ◌∙◌}
use Rattle.tg_coalescing_round.specs.glue.Lists.{numbers_in}
use Rattle.tg_graph.proofs.Vectors.{lists_set}
use Rattle.tg_coalescing_round.proofs.Vectors.{items_of}
use Rattle.tg_coalescing_round.proofs.lists.take_list.Goals as goal

pub returns-clause-left : goal.returns-clause-left
returns-clause-left c =
    lists_set items_of c.args.lists.now.items c.args.at c.try_take.new.dest
    ∙ ap (λ (xs : List ℕ). set (numbers_in c.args.lists.now.items) c.args.at xs) c.in_ok-try_take.ensures.after.0
