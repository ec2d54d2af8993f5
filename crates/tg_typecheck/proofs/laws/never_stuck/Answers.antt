use Rattle.tg_typecheck.proofs.NeverStuck.{never_stuck}
use Rattle.tg_typecheck.proofs.laws.never_stuck.Goals as goal

pub returns : goal.returns
returns c = never_stuck
