-- The laws of the meaning of trees and of flat code.
use Rattle.std.specs.Prelude.{ℕ, ◌+◌, ◌<◌, ◌≡◌, List, Option, Some}
use Rattle.tg_machine_state.specs.declared.ends.RunEnd.TheVariants.{StackFull}
use Rattle.tg_simulation.specs.Ran.{Ended, stops, StaysOver, OnlyGoesOn}
use Rattle.tg_tree.specs.Tree.{Ts, Linear, Function, Code}
use Rattle.tg_tree.specs.Units.{Stage}
use Rattle.tg_tree.specs.Actions.{World, Temps, Back}
use Rattle.tg_tree.specs.Meaning.{Point}
use Rattle.tg_tree.specs.Running.{Runner, entered, step, going, tree_run}
use Rattle.tg_tree.specs.Flat.{FlatPoint, flat_step, flat_going, flat_run}
use Rattle.tg_tree.specs.Holding.{TempsHoldAtLeast, WorldHoldsAtLeast, UnlessWrong, NextReadsNoMore}
use Rattle.tg_tree.specs.Holding.{AroundReadsNoMore}

-- a run is its own step: what comes of a point is a step from it, and then what comes of the points
-- after it
abbrev pub TreesStep : Type 0
TreesStep =
    (stage : Stage) (code : Code Ts) (size : ℕ → ℕ) (floor room : ℕ) (p : Point) (n : ℕ) →
    going stage code size floor room p n ≡
    step stage code size floor room (going stage code size floor room) p n

abbrev pub FlatCodeSteps : Type 0
FlatCodeSteps =
    (code : Code (List Linear)) (size : ℕ → ℕ) (floor room : ℕ) (p : FlatPoint) (n : ℕ) →
    flat_going code size floor room p n ≡
    flat_step code size floor room (flat_going code size floor room) p n

-- more fuel changes nothing of a run that is over
abbrev pub TreesStayOver : Type 0
TreesStayOver =
    (stage : Stage) (code : Code Ts) (size : ℕ → ℕ) (floor room body : ℕ) (input : List ℕ) →
    StaysOver (tree_run stage code size floor room body input)

abbrev pub FlatCodeStaysOver : Type 0
FlatCodeStaysOver =
    (code : Code (List Linear)) (size : ℕ → ℕ) (floor room body : ℕ) (input : List ℕ) →
    StaysOver (flat_run code size floor room body input)

-- and any other run goes on with it
abbrev pub TreesOnlyGoOn : Type 0
TreesOnlyGoOn =
    (stage : Stage) (code : Code Ts) (size : ℕ → ℕ) (floor room body : ℕ) (input : List ℕ) →
    OnlyGoesOn (tree_run stage code size floor room body input)

abbrev pub FlatCodeOnlyGoesOn : Type 0
FlatCodeOnlyGoesOn =
    (code : Code (List Linear)) (size : ℕ → ℕ) (floor room body : ℕ) (input : List ℕ) →
    OnlyGoesOn (flat_run code size floor room body input)

-- A run that doesn't go wrong reads no temporary that isn't set, no slot that wasn't stored to
-- since its activation began, and no memory outside the statics, the taken heap and the slots of
-- open activations: whatever these hold, it is the same.
abbrev pub TreesReadNoMore : Type 0
TreesReadNoMore =
    (stage : Stage) (code : Code Ts) (size : ℕ → ℕ) (floor room : ℕ)
    (p : Point) (x : World) (u : Temps) →
    AroundReadsNoMore p.around → NextReadsNoMore p.next →
    WorldHoldsAtLeast p.world x → TempsHoldAtLeast p.temps u →
    UnlessWrong (going stage code size floor room p)
    (going stage code size floor room (record p { world = x; temps = u }))

abbrev pub FlatCodeReadsNoMore : Type 0
FlatCodeReadsNoMore =
    (code : Code (List Linear)) (size : ℕ → ℕ) (floor room : ℕ)
    (p : FlatPoint) (x : World) (u : Temps) →
    AroundReadsNoMore p.around → WorldHoldsAtLeast p.world x → TempsHoldAtLeast p.temps u →
    UnlessWrong (flat_going code size floor room p)
    (flat_going code size floor room (record p { world = x; temps = u }))

-- a function whose frame reaches below the floor ends the run as it is entered, whatever its
-- arguments and the fuel
abbrev pub FullStackEnds : Type 0 → Type 0
FullStackEnds Body =
    (size : ℕ → ℕ) (floor : ℕ) (runner : Runner Body)
    (found : Option (Function Body)) (f : Function Body)
    (vs : List ℕ) (top : ℕ) (back : Back) (w : World) (n : ℕ) →
    found ≡ Some f → top < floor + size f.label →
    entered size floor runner found vs top back w n ≡ stops w.input (Ended StackFull)
