use Rattle.tg_graph.proofs.Vectors.{matrix_set}
use Rattle.tg_graph.proofs.matrices.set_pair.Goals as goal

pub returns-clause-bits : goal.returns-clause-bits
returns-clause-bits c =
    matrix_set c.args.tiles.now.items c.args.place c.set_bit.new.words c.index_mut-words.result.now
    c.requires.tile c.index_mut-words.ensures.value c.set_bit.ensures
