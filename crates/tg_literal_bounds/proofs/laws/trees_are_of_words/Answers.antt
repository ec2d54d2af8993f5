use Rattle.tg_literal_bounds.proofs.WordTrees.{trees_are_of_words}
use Rattle.tg_literal_bounds.proofs.laws.trees_are_of_words.Goals as goal

pub returns : goal.returns
returns c = trees_are_of_words
