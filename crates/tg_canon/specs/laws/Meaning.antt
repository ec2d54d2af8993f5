-- What the pass promises of runs: its statements do what the bodies did.
use Rattle.std.specs.Prelude.{ℕ, ◌+◌, ◌≤◌, List, [], map}
use Rattle.std.specs.List.{Contains}
use Rattle.tg_simulation.specs.Preserving.{Preserves}
use Rattle.tg_tree.specs.Tree.{Ts, Stms, Seq, Function, Literal, Code}
use Rattle.tg_tree.specs.Units.{Stage, Trees, Canonical, marked_entry_units}
use Rattle.tg_tree.specs.Running.{Runner, run_body, going, tree_run, in_sequence, canonical_run}
use Rattle.tg_tree.specs.Sizes.{tree_length, tree_needs, canonical_length, canonical_needs}
use Rattle.tg_tree.specs.Carrying.{BodyCarried, CallsSimulate}
use Rattle.tg_tree.specs.Named.{named_ts, HasItsTemps}
use Rattle.tg_canon.specs.laws.Laws.{AreTempsBelow}
use Rattle.tg_canon.specs.mirror.Canon.{linearized}

-- a function in canonical form: its statements, and the temporaries that are drawn for them
abbrev pub canonical : Function Ts → Function Stms
canonical f = record {
  label = f.label;
  params = f.params;
  slots = f.slots;
  temps = (linearized f.body f.temps).next;
  out = f.out;
  body = (linearized f.body f.temps).it;
}

abbrev pub canonical_code : Code Ts → Code Stms
canonical_code code = record {
  functions = map canonical code.functions;
  literals = code.literals;
}

-- a body has its own temporaries below the first that is drawn
abbrev pub HasOwnTemps : Function Ts → Type 0
HasOwnTemps f = HasItsTemps (λ body. named_ts body []) f

-- what runs bodies, at a stage, among these functions and literals
abbrev pub runner :
    Stage → List (Function Ts) → List Literal →
    (size : ℕ → ℕ) → (floor room : ℕ) → Runner Ts
runner stage functions literals size floor room =
    let code : Code Ts = record { functions = functions; literals = literals } in
    run_body stage code size floor room (going stage code size floor room)

-- Work that a function does besides what it did: none. What is hoisted, held and tested part by
-- part
-- is counted in the trees.
abbrev pub added_work : ℕ
added_work = 0

-- Each body is carried, whatever the functions are that it calls before the pass and after it.
abbrev pub BodiesAreCarried : Type 0
BodiesAreCarried =
    (functions functions' : List (Function Ts)) (literals : List Literal)
    (size : ℕ → ℕ) (floor room : ℕ) (body : Ts) (temps : ℕ) →
    AreTempsBelow temps (named_ts body []) →
    BodyCarried 1 added_work size floor marked_entry_units marked_entry_units
    (runner Trees functions literals size floor room)
    (runner Canonical functions' literals size floor room)
    functions functions' body (Seq (linearized body temps).it)

-- So calls of the functions of a code do what they did,
abbrev pub CallsAreCarried : Type 0
CallsAreCarried =
    (code : Code Ts) (size : ℕ → ℕ) (floor room n : ℕ) →
    ((f : Function Ts) → Contains code.functions f → HasOwnTemps f) →
    CallsSimulate 1 added_work size floor marked_entry_units marked_entry_units
    (runner Trees code.functions code.literals size floor room)
    (runner Canonical (map in_sequence (canonical_code code).functions) code.literals
    size floor room)
    code.functions (map in_sequence (canonical_code code).functions) n

-- and so do programs.
abbrev pub CanonIsCorrect : Type 0
CanonIsCorrect =
    (code : Code Ts) (size : ℕ → ℕ) (floor room body : ℕ) (input : List ℕ) →
    ((f : Function Ts) → Contains code.functions f → HasOwnTemps f) →
    Preserves 1 added_work
    (tree_run Trees code size floor room body input)
    (canonical_run (canonical_code code) size floor room body input)

-- Lengths and needs. A function in canonical form is no longer, and what it draws is counted in the
-- trees' needs.
abbrev pub added_length : ℕ
added_length = 0

abbrev pub added_needs : ℕ
added_needs = 0

abbrev pub LengthStays : Type 0
LengthStays =
    (f : Function Ts) →
    HasOwnTemps f → canonical_length (canonical f) ≤ tree_length f + added_length

abbrev pub NeedsStay : Type 0
NeedsStay =
    (f : Function Ts) → HasOwnTemps f → canonical_needs (canonical f) ≤ tree_needs f + added_needs
