use Rattle.tg_semantics.proofs.AsSource.{turns_as_source, no_ending_is_full, only_stuck_is_stuck}
use Rattle.tg_semantics.proofs.laws.programs_as_sources.Goals as goal

pub returns-clause-turns : goal.returns-clause-turns
returns-clause-turns c = turns_as_source

pub returns-clause-full : goal.returns-clause-full
returns-clause-full c = λ o h. no_ending_is_full o.end h

pub returns-clause-stuck : goal.returns-clause-stuck
returns-clause-stuck c = λ o h. only_stuck_is_stuck o.end h
