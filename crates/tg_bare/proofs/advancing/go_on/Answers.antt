use Rattle.tg_bare.proofs.RowWays.{goes_straight, ends_straight}
use Rattle.tg_bare.proofs.advancing.go_on.Goals as goal

pub returns-in-Ok : goal.returns-in-Ok
returns-in-Ok c = goes_straight _ c.in-Ok.place _ c.in-Ok.ensures

pub returns-in-Err : goal.returns-in-Err
returns-in-Err c = ends_straight _ c.in-Err.end _ c.in-Err.ensures
