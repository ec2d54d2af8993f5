use Rattle.tg_fold.proofs.Closing.{folded_closed}
use Rattle.tg_fold.proofs.Shaping.{names_stay, temps_stay, words_stay}
use Rattle.tg_fold.proofs.laws.shapes_stay.Goals as goal

pub returns : goal.returns
returns c = record { closed = folded_closed; names = names_stay; temps = temps_stay; words = words_stay }
