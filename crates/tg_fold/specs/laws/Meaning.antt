-- What folding promises of runs: folded bodies do what the bodies did, with no more work.
use Rattle.std.specs.Prelude.{ℕ, List, map}
use Rattle.tg_simulation.specs.Preserving.{Preserves}
use Rattle.tg_tree.specs.Tree.{Ts, Function, Literal, Code}
use Rattle.tg_tree.specs.Units.{Trees, marked_entry_units}
use Rattle.tg_tree.specs.Running.{Runner, run_body, going, tree_run}
use Rattle.tg_tree.specs.Carrying.{BodyCarried, CallsSimulate}
use Rattle.tg_fold.specs.laws.Laws.{folded_function}
use Rattle.tg_fold.specs.mirror.Folding.{folded}

abbrev pub folded_code : Code Ts → Code Ts
folded_code code = record {
  functions = map folded_function code.functions;
  literals = code.literals;
}

-- what runs bodies among these functions and literals
abbrev pub runner :
    List (Function Ts) → List Literal → (size : ℕ → ℕ) → (floor room : ℕ) → Runner Ts
runner functions literals size floor room =
    let code : Code Ts = record { functions = functions; literals = literals } in
    run_body Trees code size floor room (going Trees code size floor room)

-- work that a function does besides what it did: none
abbrev pub added_work : ℕ
added_work = 0

-- Each body is carried, whatever the functions are that it calls before the pass and after it.
abbrev pub BodiesAreCarried : Type 0
BodiesAreCarried =
    (functions functions' : List (Function Ts)) (literals : List Literal)
    (size : ℕ → ℕ) (floor room : ℕ) (body : Ts) →
    BodyCarried 1 added_work size floor marked_entry_units marked_entry_units
    (runner functions literals size floor room) (runner functions' literals size floor room)
    functions functions' body (folded body)

-- So calls of the functions of a code do what they did,
abbrev pub CallsAreCarried : Type 0
CallsAreCarried =
    (code : Code Ts) (size : ℕ → ℕ) (floor room n : ℕ) →
    CallsSimulate 1 added_work size floor marked_entry_units marked_entry_units
    (runner code.functions code.literals size floor room)
    (runner (folded_code code).functions code.literals size floor room)
    code.functions (folded_code code).functions n

-- and so do programs.
abbrev pub FoldIsCorrect : Type 0
FoldIsCorrect =
    (code : Code Ts) (size : ℕ → ℕ) (floor room body : ℕ) (input : List ℕ) →
    Preserves 1 added_work
    (tree_run Trees code size floor room body input)
    (tree_run Trees (folded_code code) size floor room body input)
