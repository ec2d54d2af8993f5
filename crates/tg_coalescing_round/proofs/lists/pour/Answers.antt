use Rattle.std.proofs.Common.{[], ◌∙◌}
use Rattle.tg_coalescing_round.specs.glue.Lists.{numbers_in}
use Rattle.tg_graph.proofs.Vectors.{at_err, lists_back}
use Rattle.tg_coalescing_round.proofs.Vectors.{items_of}
use Rattle.tg_coalescing_round.proofs.lists.pour.Goals as goal

pub returns-then-is_err-clause-err : goal.returns-then-is_err-clause-err
returns-then-is_err-clause-err c =
    lists_back items_of (numbers_in c.args.lists.now.items) c.extend_list.new.lists.items c.args.from c.in_ok-moved.moved []
    (at_err c.extend_list.result c.if-is_err.ensures.value c.extend_list.ensures.err ∙ c.in_ok-moved.ensures.left)
    c.in_ok-moved.ensures.taken
