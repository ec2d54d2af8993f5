use Rattle.tg_translate_laws.proofs.GivingBack.{trees_give_back, linked_trees_give_back}
use Rattle.tg_translate_laws.proofs.laws.values_are_given_back.Goals as goal

pub returns : goal.returns
returns c = record { trees = trees_give_back; linked = linked_trees_give_back }
