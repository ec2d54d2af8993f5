use Rattle.std.proofs.Common.{◌≡◌, ◌<◌, ◌≤◌, ℕ, get_or, sym, ◌∙◌}
use Rattle.tg_coalescing_round.specs.glue.Lists.{lowered}
use Rattle.tg_coalescing_round.specs.glue.ShownWork.{work_of}
use Rattle.tg_coalescing_round.specs.glue.Works.{Work, degree_at, from, to}
use Rattle.tg_coalescing_round.proofs.Trying.{IsTried, constrained_done, from_counted_there, is_taken, over_done, over_loses, parked_done}
use Rattle.tg_coalescing_round.proofs.Trying.{room_there, same_done, taken, to_counted_there, under_done, under_loses}
use Rattle.tg_coalescing_round.proofs.states.Coalescer.try_move.Goals as goal
use Rattle.tg_coalescing_round.proofs.states.Coalescer.try_move.Goals.{After-from-from, After-take_first}

-- the work when the move is taken
abbrev begun : After-take_first → Work
begun c = record (work_of c.self.inside) { moves = c.take_first.new.self }

begun_is : (c : After-take_first) → begun c ≡ taken c.args.self.now
begun_is c = is_taken _ c.args.self.now c.take_first.new.self c.self.view_is c.take_first.ensures

to_there : (c : After-take_first) → 0 < get_or (begun c).moves.unsettled (to (begun c) c.args.index) 0
to_there c =
    to_counted_there c.args.index c.args.self.now c.requires.orderly c.requires.index c.requires.first (begun c) (begun_is c)

from_there : (c : After-take_first) →
    0 < get_or (lowered (to (begun c) c.args.index) (begun c).moves.unsettled) (from (begun c) c.args.index) 0
from_there c =
    from_counted_there c.args.index c.args.self.now c.requires.orderly c.requires.index c.requires.first (begun c) (begun_is c)

room : (c : After-take_first) → (x : ℕ) → x < (begun c).graph.nodes → degree_at (begun c) x ≤ (begun c).graph.nodes
room c = room_there c.args.index c.args.self.now c.requires.orderly c.requires.index c.requires.first (begun c) (begun_is c)

tried_there : (c : After-from-from) →
    IsTried c.args.index c.args.self.now (record (work_of c.self.inside) { moves = c.take_first.new.self }) c.to-to.result c.from-from.result
tried_there c = record {
  work = is_taken _ c.args.self.now c.take_first.new.self c.self.view_is c.take_first.ensures;
  one = c.to-to.ensures.value;
  other = c.from-from.ensures.value;
}

pub settle-requires-clause-to_counted : goal.settle-requires-clause-to_counted
settle-requires-clause-to_counted c = to_there (goal.at.settle-requires-clause-to_counted c).After-take_first

pub settle-requires-clause-from_counted : goal.settle-requires-clause-from_counted
settle-requires-clause-from_counted c = from_there (goal.at.settle-requires-clause-from_counted c).After-take_first

pub settle-requires-then-interferes-clause-to_counted : goal.settle-requires-then-interferes-clause-to_counted
settle-requires-then-interferes-clause-to_counted c =
    to_there (goal.at.settle-requires-then-interferes-clause-to_counted c).After-take_first

pub settle-requires-then-interferes-clause-from_counted : goal.settle-requires-then-interferes-clause-from_counted
settle-requires-then-interferes-clause-from_counted c =
    from_there (goal.at.settle-requires-then-interferes-clause-from_counted c).After-take_first

pub coalesce-requires-clause-to_counted : goal.coalesce-requires-clause-to_counted
coalesce-requires-clause-to_counted c = to_there (goal.at.coalesce-requires-clause-to_counted c).After-take_first

pub coalesce-requires-clause-from_counted : goal.coalesce-requires-clause-from_counted
coalesce-requires-clause-from_counted c = from_there (goal.at.coalesce-requires-clause-from_counted c).After-take_first

pub coalesce-requires-else-stands_under-clause-to_counted : goal.coalesce-requires-else-stands_under-clause-to_counted
coalesce-requires-else-stands_under-clause-to_counted c =
    to_there (goal.at.coalesce-requires-else-stands_under-clause-to_counted c).After-take_first

pub coalesce-requires-else-stands_under-clause-from_counted : goal.coalesce-requires-else-stands_under-clause-from_counted
coalesce-requires-else-stands_under-clause-from_counted c =
    from_there (goal.at.coalesce-requires-else-stands_under-clause-from_counted c).After-take_first

pub coalesce-requires-clause-counted : goal.coalesce-requires-clause-counted
coalesce-requires-clause-counted c =
    under_loses _ _ _ _ _ (tried_there (goal.at.coalesce-requires-clause-counted c).After-from-from) c.if-to-from.false
    (sym c.interferes.ensures ∙ c.if-interferes.false)
    c.requires.orderly c.requires.index c.requires.first (sym c.stands_under.ensures ∙ c.if-stands_under.true)

pub coalesce-requires-else-stands_under-clause-counted : goal.coalesce-requires-else-stands_under-clause-counted
coalesce-requires-else-stands_under-clause-counted c =
    over_loses _ _ _ _ _ (tried_there (goal.at.coalesce-requires-else-stands_under-clause-counted c).After-from-from)
    c.if-to-from.false (sym c.interferes.ensures ∙ c.if-interferes.false)
    c.requires.orderly c.requires.index c.requires.first (sym c.stands_under.ensures ∙ c.if-stands_under.false)

pub coalesce-requires-clause-room : goal.coalesce-requires-clause-room
coalesce-requires-clause-room c =
    room (goal.at.coalesce-requires-clause-room c).After-take_first c.to-to.result c.to-to.ensures.within

pub coalesce-requires-else-stands_under-clause-room : goal.coalesce-requires-else-stands_under-clause-room
coalesce-requires-else-stands_under-clause-room c =
    room (goal.at.coalesce-requires-else-stands_under-clause-room c).After-take_first c.from-from.result
    c.from-from.ensures.within

pub returns-in_ok-push : goal.returns-in_ok-push
returns-in_ok-push c =
    same_done _ _ _ _ _ (tried_there (goal.at.returns-in_ok-push c).After-from-from) c.if-to-from.true c.settle.new.self _
    c.push.new.self.items c.settle.ensures c.self-then-to-from.view_is c.in_ok-push.ensures.items

pub returns-in_ok-push-2 : goal.returns-in_ok-push-2
returns-in_ok-push-2 c =
    constrained_done _ _ _ _ _ (tried_there (goal.at.returns-in_ok-push-2 c).After-from-from) c.if-to-from.false
    (sym c.interferes.ensures ∙ c.if-interferes.true) c.settle-then-interferes.new.self _
    c.push-then-interferes.new.self.items c.settle-then-interferes.ensures c.self-then-interferes.view_is
    c.in_ok-push-2.ensures.items

pub returns-then-not-passes : goal.returns-then-not-passes
returns-then-not-passes c =
    parked_done _ _ _ _ _ (tried_there (goal.at.returns-then-not-passes c).After-from-from) c.if-to-from.false
    (sym c.interferes.ensures ∙ c.if-interferes.false)
    (sym c.passes.ensures ∙ c.if-not-passes.true) c.park.new.self c.park.ensures

pub returns-in_ok-coalesce : goal.returns-in_ok-coalesce
returns-in_ok-coalesce c =
    under_done _ _ _ _ _ (tried_there (goal.at.returns-in_ok-coalesce c).After-from-from) c.if-to-from.false
    (sym c.interferes.ensures ∙ c.if-interferes.false)
    (sym c.passes.ensures ∙ c.if-not-passes.false) (sym c.stands_under.ensures ∙ c.if-stands_under.true)
    c.coalesce.new.self c.in_ok-coalesce.ensures

pub returns-in_ok-coalesce-2 : goal.returns-in_ok-coalesce-2
returns-in_ok-coalesce-2 c =
    over_done _ _ _ _ _ (tried_there (goal.at.returns-in_ok-coalesce-2 c).After-from-from) c.if-to-from.false
    (sym c.interferes.ensures ∙ c.if-interferes.false)
    (sym c.passes.ensures ∙ c.if-not-passes.false) (sym c.stands_under.ensures ∙ c.if-stands_under.false)
    c.coalesce-else-stands_under.new.self c.in_ok-coalesce-2.ensures
