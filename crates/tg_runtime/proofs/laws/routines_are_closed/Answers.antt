use Rattle.std.proofs.Common.{refl}
use Rattle.tg_runtime.proofs.Constants.{all_are_routines, runtime_words}
use Rattle.tg_runtime.proofs.laws.routines_are_closed.Goals as goal

pub returns-clause-labels : goal.returns-clause-labels
returns-clause-labels c = refl

pub returns-clause-routines : goal.returns-clause-routines
returns-clause-routines c = all_are_routines

pub returns-clause-words : goal.returns-clause-words
returns-clause-words c = λ f n d k. runtime_words f n d k
