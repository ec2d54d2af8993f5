use Rattle.tg_regalloc_proof.proofs.Composing.{keeps_compose, programs_are_kept}
use Rattle.tg_regalloc_proof.proofs.Cheaper.{charged_less_does_no_more}
use Rattle.tg_regalloc_proof.proofs.laws.programs_are_kept.Goals as goal

pub returns-clause-compose : goal.returns-clause-compose
returns-clause-compose c = keeps_compose

pub returns-clause-programs : goal.returns-clause-programs
returns-clause-programs c = programs_are_kept

pub returns-clause-cheaper : goal.returns-clause-cheaper
returns-clause-cheaper c = charged_less_does_no_more
