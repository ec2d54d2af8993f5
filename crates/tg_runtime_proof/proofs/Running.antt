-- Runs of trees run bodies by steps, with static links and without, so their calls of the runtime are served; a code
-- with the runtime after it has it; and what memory has to be.
use Rattle.std.proofs.Common.{◌≡◌, ℕ, suc, arith, List, [], ◌∷◌, ◌++◌, Some, refl, sym, ap, ◌∙◌, All, ◌<◌, ◌≤◌, ◌+◌}
use Rattle.std.proofs.Common.{inl, inr, ne_eqb}
use Rattle.std.specs.Prelude.{if◌then◌else◌}
use Rattle.std.specs.List.{AllByRecursion}
use Rattle.std.proofs.lemmas.Bool.{cases_eq}
use Rattle.tg_machine_state.specs.State.{word_at, statics_base, heap_base}
use Rattle.tg_simulation.specs.Runs.{Run, again}
use Rattle.tg_simulation.specs.Ran.{Ran, WantsFuel, stops}
use Rattle.tg_tree.specs.Tree.{Ts, Code, Function}
use Rattle.tg_tree.specs.Units.{Trees}
use Rattle.tg_tree.specs.Memory.{Memory, Closed, Has, load, load_byte, string_block}
use Rattle.tg_tree.specs.Running.{enter, going, function_of}
use Rattle.tg_tree.specs.Links.{LinkedPoint, linked_going, enter_linked}
use Rattle.tg_tree.proofs.TreeRuns.{trees_step}
use Rattle.tg_runtime.specs.mirror.Routines.{runtime}
use Rattle.tg_runtime_proof.specs.Settings.{RunsBySteps, HasRuntime}
use Rattle.tg_runtime_proof.specs.laws.Serving.{TreesAreServed, LinkedAreServed, trees_host, linked_host}
use Rattle.tg_tree.proofs.Linked.{linked_own}
use Rattle.tg_runtime_proof.proofs.Whole.{runtime_is_correct}

pub trees_run_by_steps : (code : Code Ts) (size : ℕ → ℕ) (floor room : ℕ) →
    RunsBySteps (trees_host code size floor room)
trees_run_by_steps code size floor room s z w t = (
  enter Trees code size floor room (going Trees code size floor room),
  going Trees code size floor room,
  (λ p n. trees_step Trees code size floor room p n),
  λ n. refl,
)

pub trees_are_served : TreesAreServed
trees_are_served code size floor room w may =
    runtime_is_correct (trees_host code size floor room) w (trees_run_by_steps code size floor room) may

pub linked_runs_by_steps : (code : Code Ts) (size : ℕ → ℕ) (floor room : ℕ) (level : ℕ → ℕ) →
    RunsBySteps (linked_host code size floor room level)
linked_runs_by_steps code size floor room level s z w t =
    let later : LinkedPoint → Run Ran = linked_going Trees code size floor room level in
    let around = z.activation.base ∷ [] in (
      enter_linked Trees code size floor room level later around,
      (λ p. later (record { point = p; frames = around })),
      (λ p n. linked_own Trees code size floor room level (record { point = p; frames = around }) n),
      λ n. refl,
    )

pub linked_are_served : LinkedAreServed
linked_are_served code size floor room level w may =
    runtime_is_correct (linked_host code size floor room level) w (linked_runs_by_steps code size floor room level) may

-- The runtime's functions have labels below 32; functions of which none has such a label have the runtime, with it
-- after them.

abbrev pub IsLow : Function Ts → Type 0
IsLow f = f.label < 32

found_low : (label : ℕ) (fs : List (Function Ts)) (f : Function Ts) → AllByRecursion IsLow fs →
    function_of label fs ≡ Some f → label < 32
found_low label [] f low e = cc
found_low label (g ∷ fs) f low e =
    elim (cases_eq g.label label) [
      | inl eq ↦ let l = low.0 in omega (arith, eq, l)
      | inr ne ↦
          found_low label fs f low.1 (sym (ap (λ b. if b then Some g else function_of label fs)
          (ne_eqb g.label label ne)) ∙ e)
    ]

pub runtime_low : AllByRecursion IsLow runtime.functions
runtime_low = (
  omega arith,
  (
    omega arith,
    (
      omega arith,
      (
        omega arith,
        (
          omega arith,
          (
            omega arith,
            (
              omega arith,
              (
                omega arith,
                (
                  omega arith,
                  (omega arith, (omega arith, (omega arith, (omega arith, tt)))),
                ),
              ),
            ),
          ),
        ),
      ),
    ),
  ),
)

found_behind : (label : ℕ) (fs gs : List (Function Ts)) (f : Function Ts) → label < 32 → All (λ g. 32 ≤ g.label) fs →
    function_of label gs ≡ Some f → function_of label (fs ++ gs) ≡ Some f
found_behind label [] gs f low all e = e
found_behind label (g ∷ fs) gs f low all e =
    let own = all 0 g (omega arith) in
    ap (λ b. if b then Some g else function_of label (fs ++ gs))
    (ne_eqb g.label label (λ eq. omega (arith, own, eq, low))) ∙
    found_behind label fs gs f low (λ k d lt. all (suc k) d (omega (arith, lt))) e

pub with_runtime_behind : (fs : List (Function Ts)) → All (λ g. 32 ≤ g.label) fs →
    HasRuntime (fs ++ runtime.functions)
with_runtime_behind fs all f e =
    found_behind f.label fs runtime.functions f (found_low f.label runtime.functions f runtime_low e) all e

-- Statics that are no bytes have a string word by word, and its first byte isn't read there: so statics are bytes.
abbrev odd : Memory
odd = record { statics = 2 ∷ 0 ∷ 0 ∷ 0 ∷ 300 ∷ 0 ∷ 0 ∷ 0 ∷ []; heap = []; stack = λ a. Closed }

odd_words :
    (load odd statics_base ≡ Some (word_at (string_block (44 ∷ 1 ∷ [])) 0)) ×
    (load odd (statics_base + 4) ≡ Some (word_at (string_block (44 ∷ 1 ∷ [])) 4))
odd_words = (refl, refl)

odd_byte : load_byte odd (statics_base + 4) ≡ Some 300
odd_byte = refl

-- A string in the stack where the heap will be is lost after a block: so a string ends where the taken heap does.
abbrev high : Memory
high = record { statics = []; heap = []; stack = λ a. Has 0 }

high_words :
    (load high heap_base ≡ Some (word_at (string_block []) 0)) ×
    (load (record high { heap = 1 ∷ 0 ∷ 0 ∷ 0 ∷ [] }) heap_base ≡ Some 1)
high_words = (refl, refl)
