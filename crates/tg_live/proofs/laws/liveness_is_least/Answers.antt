use Rattle.tg_live.proofs.Reach.{live_before_use, live_before, least}
use Rattle.tg_live.proofs.laws.liveness_is_least.Goals as goal

pub returns-clause-before_use : goal.returns-clause-before_use
returns-clause-before_use c = live_before_use

pub returns-clause-before_live : goal.returns-clause-before_live
returns-clause-before_live c = live_before

pub returns-clause-least : goal.returns-clause-least
returns-clause-least c = least
