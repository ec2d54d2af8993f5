-- A program's run as one that code may follow: what its outcome is on the machine.
use Rattle.std.specs.Prelude.{ℕ, ◌≡◌, ◌≢◌, List}
use Rattle.tg_machine_state.specs.declared.ends.RunEnd.TheVariants.{StackFull}
use Rattle.tg_syntax.specs.Tree.{Exp}
use Rattle.tg_simulation.specs.Runs.{Run, turn}
use Rattle.tg_simulation.specs.Outcomes.{ended, out_of_fuel, stuck, Outcome}
use Rattle.tg_simulation.specs.Changes.{map_ending}
use Rattle.tg_simulation.specs.Agreement.{Source}
use Rattle.tg_semantics.specs.Values.{Ending, SourceWorld}
use Rattle.tg_semantics.specs.Passing.{Rest, over_in, with_turn, evaluate_passing}
use Rattle.tg_semantics.specs.MachineEnds.{machine_end}

-- as a program that code may follow
abbrev pub as_source : Outcome Ending → Source
as_source o = map_ending machine_end o

-- what comes from a world on
abbrev pub rest_run : Rest → SourceWorld → Run Source
rest_run rest w n = as_source (rest w n)

-- a program's run on an input
abbrev pub program_run :
    (names : List (List ℕ)) → Exp → (input : List ℕ) → (heap stack : ℕ) → Run Source
program_run names body input heap stack n =
    as_source (evaluate_passing names body input heap stack n)

-- a unit of fuel is used there as here
abbrev pub TurnsAsSource : Type 0
TurnsAsSource =
    (rest : Rest) (w : SourceWorld) (n : ℕ) →
    rest_run (with_turn rest) w n ≡ turn (as_source (over_in w out_of_fuel)) (rest_run rest w) n

-- no ending stands for a full stack, and only a run that is stuck is taken for one
abbrev pub NoEndingIsFull : Type 0
NoEndingIsFull = (o : Outcome Ending) → (as_source o).end ≢ ended StackFull

abbrev pub OnlyStuckIsStuck : Type 0
OnlyStuckIsStuck = (o : Outcome Ending) → (as_source o).end ≡ stuck → o.end ≡ stuck
