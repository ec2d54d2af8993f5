use Rattle.std.proofs.Common.{refl}
use Rattle.tg_interference.specs.Moves.{moves_of}
use Rattle.tg_show.specs.Stages.{instructions_stage, live_stage, graph_stage}
use Rattle.tg_stages.specs.Shown.{code_text}
use Rattle.tg_stages.proofs.Joined.{three_told}
use Rattle.tg_stages.proofs.functions.put_first_round.Goals as goal

pub returns : goal.returns
returns c =
    let names = c.args.names.now in
    let list = c.args.code.now.list in
    let sets = c.in_ok-sets.sets in
    let graph = c.in_ok-graph.graph in
    record {
      told = code_text names list sets graph;
      is_behind = three_told c.args.text.now.items _ _ _ (instructions_stage names list) (live_stage names sets list)
          (graph_stage names graph (moves_of list)) (rw c.as_slice-list.ensures at c.in_ok-put_code.ensures)
          (rw c.as_slice-list.ensures at c.in_ok-put_live.ensures)
          (rw c.in_ok-moves.ensures at rw c.as_slice.ensures at c.in_ok-put_graph.ensures);
      holds = record {
        live = sets;
        graph = graph;
        are_live = c.in_ok-sets.ensures;
        interferes = c.in_ok-graph.ensures;
        text_is = refl;
      };
    }
