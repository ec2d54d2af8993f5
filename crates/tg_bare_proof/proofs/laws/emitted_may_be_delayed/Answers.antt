use Rattle.tg_bare_proof.proofs.Emitted.{emitted_gives_none, emitted_without, assembly_delayed}
use Rattle.tg_bare_proof.proofs.laws.emitted_may_be_delayed.Goals as goal

pub returns : goal.returns
returns c =
    record { may = λ turned fs. (emitted_gives_none turned fs, emitted_without turned fs); code = assembly_delayed }
