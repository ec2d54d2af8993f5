-- What the functions of the runtime stand in, and how their bodies run.
use Rattle.std.specs.Prelude.{ℕ, ◌≡◌, List, Some}
use Rattle.tg_simulation.specs.Runs.{Run}
use Rattle.tg_simulation.specs.Ran.{Ran}
use Rattle.tg_tree.specs.Tree.{Ts, Function, Literal}
use Rattle.tg_tree.specs.Units.{Trees}
use Rattle.tg_tree.specs.Actions.{World, Temps, Around, Next}
use Rattle.tg_tree.specs.Meaning.{Enter, Point, run}
use Rattle.tg_tree.specs.Running.{Runner, with_fuel, function_of, body_point}
use Rattle.tg_runtime.specs.mirror.Routines.{runtime}

-- What a body runs over, for any calls and any way to go on from a point: a run with static links
-- has others than a run without.
pub record Setting : Type 0 where
  pub literals : List Literal  -- those of the code
  pub room : ℕ  -- the bytes that the heap may have
  pub calling : Enter  -- what a call does
  pub goes : Point → Run Ran  -- how the run goes on from a point

module _ (setting : Setting) where
  -- a point after a unit of fuel, as at the head of a loop
  abbrev pub heads : Point → Run Ran
  heads q = with_fuel q.world (setting.goes q)

  abbrev pub does : Ts → Around → Next → World → Temps → Run Ran
  does = run Trees setting.room setting.literals setting.calling heads

  -- what comes of a point is its statement's run
  abbrev pub Steps : Type 0
  Steps =
      (p : Point) (n : ℕ) →
      setting.goes p n ≡ does p.statement p.around p.next p.world p.temps n

-- The code that the runtime's functions stand in, and how it runs.
pub record Host : Type 0 where
  pub literals : List Literal
  pub functions : List (Function Ts)
  pub size : ℕ → ℕ  -- of each function's frame, by its label
  pub floor : ℕ  -- of the stack
  pub room : ℕ  -- the bytes that the heap may have
  pub runner : Runner Ts  -- what runs a body from its begin

abbrev pub setting_of : Host → Enter → (Point → Run Ran) → Setting
setting_of host calling goes =
    record { literals = host.literals; room = host.room; calling = calling; goes = goes }

-- functions among which those of the runtime are, by their labels
abbrev pub HasRuntime : List (Function Ts) → Type 0
HasRuntime functions =
    (f : Function Ts) → function_of f.label runtime.functions ≡ Some f →
    function_of f.label functions ≡ Some f

-- Each body runs from its begin, by steps: so does a run of trees, with static links or without.
abbrev pub RunsBySteps : Host → Type 0
RunsBySteps host =
    (s : Ts) (around : Around) (w : World) (temps : Temps) →
    (calling : Enter) × (goes : Point → Run Ran) × Steps (setting_of host calling goes) ×
    ((n : ℕ) → host.runner s around w temps n ≡ goes (body_point s around w temps) n)
