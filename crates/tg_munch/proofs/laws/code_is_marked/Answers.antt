use Rattle.tg_munch.proofs.MarkingLaws.{marks_are_apart, marks_are_there}
use Rattle.tg_munch.proofs.laws.code_is_marked.Goals as goal

pub returns-clause-differ : goal.returns-clause-differ
returns-clause-differ c = λ f h. marks_are_apart f h

pub returns-clause-stand : goal.returns-clause-stand
returns-clause-stand c = λ f h. marks_are_there f h
