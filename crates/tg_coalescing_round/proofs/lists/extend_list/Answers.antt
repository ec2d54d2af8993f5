use Rattle.std.proofs.Common.{ap}
use Rattle.std.proofs.lemmas.Result.{err_from_is_err_and}
use Rattle.tg_graph.proofs.Vectors.{lists_more, lists_same}
use Rattle.tg_coalescing_round.proofs.Vectors.{items_of}
use Rattle.tg_coalescing_round.proofs.lists.extend_list.Goals as goal

pub returns-in_err-extend_from_slice-clause-err : goal.returns-in_err-extend_from_slice-clause-err
returns-in_err-extend_from_slice-clause-err c =
    let p = err_from_is_err_and c.from_residual.result c.from_residual.ensures.1 in
    rw p.1
    (lists_same items_of c.args.lists.now.items c.args.at c.extend_from_slice.new.self c.index_mut-list.result.now c.requires
    c.index_mut-list.ensures.value (ap items_of c.in_err-extend_from_slice.ensures.err))

pub returns-clause-ok : goal.returns-clause-ok
returns-clause-ok c =
    lists_more items_of c.args.lists.now.items c.args.at c.extend_from_slice.new.self c.index_mut-list.result.now
    c.args.more.now c.requires c.index_mut-list.ensures.value c.in_ok-extend_from_slice.ensures.ok
