use Rattle.std.proofs.Common.{refl}
use Rattle.tg_interference.specs.Moves.{moves_of}
use Rattle.tg_show.specs.Graph.{round_lines}
use Rattle.tg_stages.proofs.rounds.put_code_of_round.Goals as goal

pub returns : goal.returns
returns c =
    let graph = c.in_ok-graph.graph in
    record {
      told = round_lines c.args.names.now c.args.number graph (moves_of c.args.code.now.list);
      is_behind = rw c.in_ok-moves.ensures at rw c.as_slice.ensures at c.in_ok-put_round.ensures;
      holds = record { graph = graph; interferes = c.in_ok-graph.ensures; text_is = refl };
    }
