use Rattle.std.proofs.Common.{◌-◌, arith}
use Rattle.std.proofs.lemmas.Result.{err_from_is_err_and}
use Rattle.tg_graph.proofs.Vectors.{items_of, lists_pushed, lists_same}
use Rattle.tg_graph.proofs.lists.push_neighbour.Goals as goal

pub returns-in_err-push_roomily-clause-err : goal.returns-in_err-push_roomily-clause-err
returns-in_err-push_roomily-clause-err c =
    let p = err_from_is_err_and c.from_residual.result c.from_residual.ensures.1 in
    rw p.1
    (lists_same items_of c.args.lists.now.items (c.args.node - 25) c.push_roomily.new.list c.index_mut-list.result.now
    (omega arith) c.index_mut-list.ensures.value
    c.in_err-push_roomily.ensures.err)

pub returns-in_ok-push_roomily-clause-ok : goal.returns-in_ok-push_roomily-clause-ok
returns-in_ok-push_roomily-clause-ok c =
    lists_pushed c.args.lists.now.items c.args.node c.args.neighbour c.push_roomily.new.list c.index_mut-list.result.now
    c.if-node-ge-COLOURS.true (omega arith)
    c.index_mut-list.ensures.value c.in_ok-push_roomily.ensures.ok
