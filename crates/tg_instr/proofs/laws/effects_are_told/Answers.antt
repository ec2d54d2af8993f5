use Rattle.tg_instr.proofs.Effects.{changes_definitions, reads_uses}
use Rattle.tg_instr.proofs.laws.effects_are_told.Goals as goal

pub returns-clause-changes : goal.returns-clause-changes
returns-clause-changes c = changes_definitions

pub returns-clause-reads : goal.returns-clause-reads
returns-clause-reads c = reads_uses
