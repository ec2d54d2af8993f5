-- Static links (Appel, chapter 6). The first argument of a call of a declared function is the frame
-- address of the current activation of the function around it in the text. A run that goes wrong at
-- any other first argument is the run, where the links are right: unless it goes wrong.
use Rattle.std.specs.Prelude.{ℕ, ◌-◌, ◌≡◌, ◌≢◌, ◌==◌, List, [], ◌∷◌, length, drop, Bool, false}
use Rattle.std.specs.Prelude.{nat_lt, if◌then◌else◌}
use Rattle.tg_simulation.specs.Runs.{Run, again}
use Rattle.tg_simulation.specs.Ran.{Ran, WantsFuel, Wrong, stops, StaysOver}
use Rattle.tg_tree.specs.Tree.{Ts, Code}
use Rattle.tg_tree.specs.Units.{Stage, marked_entry_units}
use Rattle.tg_tree.specs.Actions.{wrong}
use Rattle.tg_tree.specs.Meaning.{Enter, Point, run}
use Rattle.tg_tree.specs.Running.{Runner, with_fuel, call_in, body_point, program, tree_run}

-- a point, with the frame addresses of its activation and of those around it in the text, innermost
-- first
pub record LinkedPoint : Type 0 where
  pub point : Point
  pub frames : List ℕ

abbrev pub first_is : List ℕ → List ℕ → Bool
first_is (v ∷ vs) (frame ∷ frames) = v == frame
first_is _ _ = false

-- for the level of each declared function by its label; the program's body, with the label 32, has
-- the level 0
module _ (stage : Stage) (code : Code Ts) (size : ℕ → ℕ) (floor room : ℕ) (level : ℕ → ℕ) where
  -- those around a function, of those that its caller sees
  abbrev pub frames_around : (label : ℕ) → List ℕ → List ℕ
  frames_around label frames = drop (length frames - level label) frames

  abbrev pub run_linked_body : (LinkedPoint → Run Ran) → (frames : List ℕ) → Runner Ts
  run_linked_body later frames s e w temps =
      later (record { point = body_point s e w temps; frames = e.activation.base ∷ frames })

  abbrev pub call_within : (LinkedPoint → Run Ran) → (frames : List ℕ) → Enter
  call_within later frames =
      call_in marked_entry_units size floor (run_linked_body later frames) code.functions

  -- a function of the runtime is in no other
  abbrev pub enter_linked : (LinkedPoint → Run Ran) → (frames : List ℕ) → Enter
  enter_linked later frames label vs top back w =
      if nat_lt label 32 then call_within later [] label vs top back w else
      if first_is vs (frames_around label frames) then
      call_within later (frames_around label frames) label vs top back w else wrong w

  abbrev pub linked_step : (LinkedPoint → Run Ran) → LinkedPoint → Run Ran
  linked_step later p =
      run stage room code.literals (enter_linked later p.frames)
      (λ q. with_fuel q.world (later (record { point = q; frames = p.frames })))
      p.point.statement p.point.around p.point.next p.point.world p.point.temps

  abbrev pub linked_going : LinkedPoint → Run Ran
  linked_going = again (stops [] WantsFuel) linked_step

  abbrev pub linked_run : (body : ℕ) → (input : List ℕ) → Run Ran
  linked_run body input = program size floor (run_linked_body linked_going []) code body input

  -- of one body on one input: whatever the fuel, the run that looks at links is the run
  abbrev pub LinksAreRight : (body : ℕ) → (input : List ℕ) → Type 0
  LinksAreRight body input =
      (n : ℕ) → linked_run body input n ≡ tree_run stage code size floor room body input n

-- The laws of linked runs: each is its own step,
abbrev pub LinkedRunsStep : Type 0
LinkedRunsStep =
    (stage : Stage) (code : Code Ts) (size : ℕ → ℕ) (floor room : ℕ) (level : ℕ → ℕ)
    (p : LinkedPoint) (n : ℕ) →
    linked_going stage code size floor room level p n ≡
    linked_step stage code size floor room level (linked_going stage code size floor room level) p n

-- more fuel changes nothing of one that is over,
abbrev pub LinkedRunsStayOver : Type 0
LinkedRunsStayOver =
    (stage : Stage) (code : Code Ts) (size : ℕ → ℕ) (floor room : ℕ) (level : ℕ → ℕ)
    (body : ℕ) (input : List ℕ) →
    StaysOver (linked_run stage code size floor room level body input)

-- and one that doesn't go wrong is the run of the trees. So where none goes wrong, the links are
-- right.
abbrev pub LinkedRunsAreRuns : Type 0
LinkedRunsAreRuns =
    (stage : Stage) (code : Code Ts) (size : ℕ → ℕ) (floor room : ℕ) (level : ℕ → ℕ)
    (body : ℕ) (input : List ℕ) (n : ℕ) →
    (linked_run stage code size floor room level body input n).stop ≢ Wrong →
    linked_run stage code size floor room level body input n ≡
    tree_run stage code size floor room body input n
