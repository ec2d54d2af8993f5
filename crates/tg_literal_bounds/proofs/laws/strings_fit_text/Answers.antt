use Rattle.tg_literal_bounds.proofs.Fitting.{strings_fit, strings_are_short}
use Rattle.tg_literal_bounds.proofs.laws.strings_fit_text.Goals as goal

pub returns : goal.returns
returns c = record { fit = strings_fit; short = strings_are_short }
