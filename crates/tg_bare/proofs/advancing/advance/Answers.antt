use Rattle.tg_bare.proofs.RowWays.{straight_done, turns_done, calls_done, calls_end}
use Rattle.tg_bare.proofs.advancing.advance.Goals as goal

pub returns-in-Straight : goal.returns-in-Straight
returns-in-Straight c =
    straight_done c.args.core.now _ c.args.at c.args.one _ c.requires.found c.in-Straight.ensures c.go_on.ensures

pub returns-in-Turns : goal.returns-in-Turns
returns-in-Turns c =
    turns_done c.args.core.now _ c.args.at c.args.one c.in-Turns.place _ c.requires.found c.in-Turns.ensures c.enter.ensures

pub returns-in-Err : goal.returns-in-Err
returns-in-Err c =
    calls_end c.args.core.now _ c.args.at c.args.one c.in-Calls.link c.in-Calls.place _ c.requires.found c.in-Calls.ensures c.in-Err.ensures

pub returns-in-Ok : goal.returns-in-Ok
returns-in-Ok c =
    rw c.set.ensures
    (calls_done c.args.core.now _ c.args.at c.in-Ok.there c.args.one c.in-Calls.link c.in-Calls.place c.requires.found c.in-Calls.ensures
    c.in-Ok.ensures)
