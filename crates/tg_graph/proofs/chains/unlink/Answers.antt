use Rattle.tg_graph.proofs.Runs.{unlink_runs}
use Rattle.tg_graph.proofs.chains.unlink.Goals as goal

pub returns-clause-lists : goal.returns-clause-lists
returns-clause-lists c = λ n h end xs k m r.
    unlink_runs c.args.next.now c.args.prev.now c.args.node n end xs c.requires.inverse c.requires.within h k m r
