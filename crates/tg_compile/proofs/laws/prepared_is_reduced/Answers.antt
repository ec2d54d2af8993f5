use Rattle.tg_compile.proofs.Preparing as preparing
use Rattle.tg_compile.proofs.laws.prepared_is_reduced.Goals as goal

pub returns : goal.returns
returns c =
    let shapes = c.shapes_stay.ensures in
    record {
      reduced = preparing.prepared_is_reduced c.fold_is_bounded.ensures.functions shapes.closed shapes.temps;
      literals = preparing.literals_stay;
      linked = preparing.prepared_is_linked shapes.names;
      words = preparing.prepared_has_words shapes.words;
    }
