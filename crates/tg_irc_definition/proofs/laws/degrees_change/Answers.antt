use Rattle.tg_irc_definition.proofs.Degrees.{taken_out_is_less, merged_is_less, merged_is_more}
use Rattle.tg_irc_definition.proofs.laws.degrees_change.Goals as goal

pub returns-clause-taken_out : goal.returns-clause-taken_out
returns-clause-taken_out c = taken_out_is_less

pub returns-clause-merged : goal.returns-clause-merged
returns-clause-merged c = merged_is_less

pub returns-clause-kept : goal.returns-clause-kept
returns-clause-kept c = merged_is_more
