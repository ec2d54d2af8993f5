use Rattle.tg_show_laws.proofs.Codes.{trees_are_told, folded_are_told}
use Rattle.tg_show_laws.proofs.laws.trees_are_told.Goals as goal

pub returns : goal.returns
returns c = record { tree = trees_are_told; folded = folded_are_told }
