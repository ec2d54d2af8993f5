use Rattle.std.proofs.Common.{arith}
use Rattle.tg_graph.proofs.Runs.{link_runs}
use Rattle.tg_graph.proofs.chains.link_last.Goals as goal

pub returns-clause-lists : goal.returns-clause-lists
returns-clause-lists c = λ n h k e xs o m r.
    link_runs c.args.next.now c.args.prev.now c.args.node c.args.end n e xs c.requires.inverse c.requires.within
    (omega arith) c.requires.alone h k o m r
