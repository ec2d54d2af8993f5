use Rattle.std.proofs.Common.{ℕ, ◌/◌, ◌%◌, ◌<◌, List, length, OnOk, sym, subst}
use Rattle.tg_graph.proofs.Vectors.{matrix_kept, tile_set}
use Rattle.tg_graph.proofs.matrices.reach_pair.Goals as goal

pub returns-clause-within : goal.returns-clause-within
returns-clause-within c =
    subst (λ (ws : List ℕ). OnOk c.reach.result (c.args.place % 16384 / 32 < length ws))
    (sym (tile_set c.args.tiles.now.items (c.args.place / 16384) c.reach.new.words c.requires)) c.reach.ensures.within

pub returns-clause-bits : goal.returns-clause-bits
returns-clause-bits c =
    matrix_kept c.args.tiles.now.items (c.args.place / 16384) c.reach.new.words c.index_mut-words.result.now
    c.requires c.index_mut-words.ensures.value c.reach.ensures.bits
