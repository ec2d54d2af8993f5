-- Programs of three functions, in each form that they take on their way to flat code.
use Rattle.std.specs.Prelude.{ℕ, ◌-◌, ◌≡◌, List, [], ◌∷◌, pos}
use Rattle.tg_machine_state.specs.declared.ends.RunEnd.TheVariants.{Exit}
use Rattle.tg_machine_state.specs.State.{stack_top}
use Rattle.tg_frame.specs.declared.accesses.Access.{Access}
use Rattle.tg_frame.specs.declared.accesses.Access.TheVariants.{InTemp}
use Rattle.tg_simulation.specs.Ran.{Ran, Stop, Ended}
use Rattle.tg_tree.specs.declared.operators.Bin.TheVariants.{Add}
use Rattle.tg_tree.specs.declared.operators.Rel.TheVariants.{Less, Equal}
use Rattle.tg_tree.specs.Tree.{Tx, Const, Temp, Binary, Load, Call, Service}
use Rattle.tg_tree.specs.Tree.{Cond, Compare, Both, Either, Not}
use Rattle.tg_tree.specs.Tree.{Ts, Move, Store, Do, If, Loop, Break, Return, Function, Code}
use Rattle.tg_tree.specs.Units.{Trees}
use Rattle.tg_tree.specs.Running.{tree_run, canonical_run}
use Rattle.tg_tree.specs.Flat.{flat_run}
use Rattle.tg_tree.specs.Forms.{txs, sequence, nothing, when}
use Rattle.tg_canon.specs.laws.Meaning.{canonical_code}
use Rattle.tg_trace_schedule.specs.Meaning.{block_run}
use Rattle.tg_trace_schedule.specs.laws.Carried.{code_in_blocks}
use Rattle.tg_canon_trace_proof.specs.Flattened.{flattened_code}

abbrev function : ℕ → List Access → (temps : ℕ) → List Ts → Function Ts
function label params temps ss = record {
  label = label;
  params = params;
  slots = 0;
  temps = temps;
  out = 0;
  body = sequence ss;
}

abbrev in_temp : ℕ → Access
in_temp t = InTemp (record { 0 = t })

abbrev write : Tx → Ts
write x = Do (Service 11 x)

abbrev up : ℕ → Ts
up t = Move t (Binary Add (Temp t) (Const 1))

abbrev less : (temp bound : ℕ) → Cond
less t n = Compare Less (Temp t) (Const n)

abbrev equal : (temp value : ℕ) → Cond
equal t n = Compare Equal (Temp t) (Const n)

abbrev code_of : List (Function Ts) → Code Ts
code_of functions = record { functions = functions; literals = [] }

-- The body writes what two functions give, added, three times. The first gives one of two words by
-- its argument; the second goes round a loop twice and gives how often it did.
abbrev pub adding : Code Ts
adding = code_of (
    function 32 [] 1 (
    Move 0 (Const 0) ∷
    Loop (If (less 0 3)
    (sequence (
    write (Binary Add (Call 40 (txs (Temp 0 ∷ []))) (Call 41 (txs []))) ∷ up 0 ∷ []))
    (Break 0)) ∷
    Return (Const 0) ∷ []) ∷
    function 40 (in_temp 0 ∷ []) 1 (
    when (equal 0 1) (Return (Const 65)) ∷ Return (Const 97) ∷ []) ∷
    function 41 [] 1 (
    Move 0 (Const 0) ∷
    Loop (sequence (up 0 ∷ If (less 0 2) nothing (Break 0) ∷ [])) ∷
    Return (Temp 0) ∷ []) ∷ [])

-- The first word of the heap counts up with each call of a function, which gives what it was; the
-- body reads it before and after a call in one expression, and leaves two loops from the inner one
-- where a condition of three parts holds. A third function writes a byte.
abbrev word : Tx
word = Const 285212672

abbrev pub counting : Code Ts
counting = code_of (
    function 32 [] 1 (
    Do (Service 9 (Const 4)) ∷
    Store word (Const 5) ∷
    Loop (Loop (sequence (
    Move 0 (Binary Add (Load word) (Binary Add (Call 40 (txs [])) (Load word))) ∷
    Do (Call 41 (txs (Temp 0 ∷ []))) ∷
    when (Both (Not (less 0 20)) (Either (equal 0 20) (equal 0 25))) (Break 1) ∷
    when (less 0 17) (Break 0) ∷ []))) ∷
    Return (Const 0) ∷ []) ∷
    function 40 [] 1 (
    Move 0 (Load word) ∷
    Store word (Binary Add (Temp 0) (Const 1)) ∷
    Return (Temp 0) ∷ []) ∷
    function 41 (in_temp 0 ∷ []) 1 (write (Temp 0) ∷ Return (Const 0) ∷ []) ∷ [])

-- what a run writes, and how it stops
abbrev seen : Ran → List ℕ × Stop
seen p = (p.output, p.stop)

abbrev frames : ℕ → ℕ
frames label = 16

abbrev floor : ℕ
floor = stack_top - 1024

abbrev as_trees : Code Ts → (fuel : ℕ) → List ℕ × Stop
as_trees code fuel = seen (tree_run Trees code frames floor 64 32 [] fuel)

abbrev as_canonical : Code Ts → (fuel : ℕ) → List ℕ × Stop
as_canonical code fuel = seen (canonical_run (canonical_code code) frames floor 64 32 [] fuel)

abbrev as_blocks : Code Ts → (fuel : ℕ) → List ℕ × Stop
as_blocks code fuel =
    seen (block_run (code_in_blocks (canonical_code code)) frames floor 64 32 [] fuel)

abbrev as_flat : Code Ts → (fuel : ℕ) → List ℕ × Stop
as_flat code fuel = seen (flat_run (flattened_code code) frames floor 64 32 [] fuel)

-- it comes to one end in every form
pub record EndsAlike (code : Code Ts) (fuel : ℕ) (output : List ℕ) : Type 0 where
  pub trees : as_trees code fuel ≡ (output, Ended (Exit (pos 0)))
  pub canonical : as_canonical code fuel ≡ (output, Ended (Exit (pos 0)))
  pub blocks : as_blocks code fuel ≡ (output, Ended (Exit (pos 0)))
  pub flat : as_flat code fuel ≡ (output, Ended (Exit (pos 0)))

abbrev pub AddingEndsAlike : Type 0
AddingEndsAlike = EndsAlike adding 40 (99 ∷ 67 ∷ 99 ∷ [])

abbrev pub CountingEndsAlike : Type 0
CountingEndsAlike = EndsAlike counting 40 (16 ∷ 19 ∷ 22 ∷ 25 ∷ [])
