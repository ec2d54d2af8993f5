-- How steps change the degrees of the nodes that remain (George and Appel 1996, DecrementDegree and
-- Combine).
use Rattle.std.specs.Prelude.{◌≡◌, ◌≢◌, ℕ, ◌+◌, ◌<◌, not, ◌&&◌, IsTrue, Bool}
use Rattle.tg_irc_definition.specs.declared.steps.Step.TheVariants.{Coalesce}
use Rattle.tg_irc_definition.specs.Graphs.{bit, count, degree}
use Rattle.tg_irc_definition.specs.States.{Problem, RoundState}
use Rattle.tg_irc_definition.specs.Steps.{can, take_out, after}
use Rattle.tg_irc_definition.specs.laws.Laws.{IsSound}

abbrev pub degree_of : Problem → RoundState → ℕ → ℕ
degree_of g s x = degree g.graph.nodes s.remaining s.pairs x

-- a node that is taken out is a neighbour less to each of its neighbours
abbrev pub TakenOutIsLess : Type 0
TakenOutIsLess =
    (g : Problem) (s : RoundState) (x y : ℕ) →
    x < g.graph.nodes →
    IsTrue (s.remaining x) →
    degree_of g s y ≡ degree_of g (take_out g s x) y + bit (s.pairs y x)

-- a merge takes a neighbour from each node that was one of both ends, and from no other
abbrev pub MergedIsLess : Type 0
MergedIsLess =
    (g : Problem) (s : RoundState) (i kept gone : ℕ) (by_briggs : Bool) (y : ℕ) →
    IsSound g s →
    IsTrue (can g s (Coalesce i kept gone by_briggs)) →
    y ≢ kept →
    degree_of g s y ≡
    degree_of g (after g s (Coalesce i kept gone by_briggs)) y +
    bit (s.pairs y kept && s.pairs y gone)

-- and brings the kept node those neighbours of the other that it lacked
abbrev pub MergedIsMore : Type 0
MergedIsMore =
    (g : Problem) (s : RoundState) (i kept gone : ℕ) (by_briggs : Bool) →
    IsSound g s →
    IsTrue (can g s (Coalesce i kept gone by_briggs)) →
    degree_of g (after g s (Coalesce i kept gone by_briggs)) kept ≡
    degree_of g s kept +
    count (λ z. s.remaining z && s.pairs gone z && not (s.pairs kept z)) g.graph.nodes
