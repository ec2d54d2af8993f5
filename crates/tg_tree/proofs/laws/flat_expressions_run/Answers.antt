use Rattle.tg_tree.proofs.FlatValues.{flat_runs, spends_length, word_spends}
use Rattle.tg_tree.proofs.laws.flat_expressions_run.Goals as goal

pub returns-clause-runs : goal.returns-clause-runs
returns-clause-runs c = λ g room ls enter later x e go w t n f. flat_runs g room ls enter later x e go w t n f

pub returns-clause-within : goal.returns-clause-within
returns-clause-within c = λ g ls base m t x f. spends_length g ls base m t x f

pub returns-clause-whole : goal.returns-clause-whole
returns-clause-whole c = λ g ls base m t x v f e. word_spends g ls base m t x v f e
