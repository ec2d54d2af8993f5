-- Programs run before and after the pass, computed.
use Rattle.std.proofs.Common.{◌≡◌, ℕ, ◌-◌, List, [], ◌∷◌, refl}
use Rattle.std.specs.Prelude.{pos}
use Rattle.tg_machine_state.specs.declared.ends.RunEnd.TheVariants.{Exit}
use Rattle.tg_machine_state.specs.State.{stack_top}
use Rattle.tg_simulation.specs.Ran.{Ran, Stop, Ended}
use Rattle.tg_tree.specs.declared.operators.Bin.TheVariants.{Add}
use Rattle.tg_tree.specs.declared.operators.Rel.TheVariants.{Less, Equal}
use Rattle.tg_tree.specs.Tree.{Tx, Const, Temp, Binary, Load, Call, Service, no_txs, Compare, Both, Either, Ts, Move, Store, Do, If, Loop, Break}
use Rattle.tg_tree.specs.Tree.{Return, Stms, Function, Code}
use Rattle.tg_tree.specs.Units.{Trees}
use Rattle.tg_tree.specs.Running.{tree_run, canonical_run}
use Rattle.tg_tree.specs.Forms.{stms, sequence}
use Rattle.tg_canon.specs.laws.Meaning.{canonical_code}

abbrev fun : {Body : Type 0} → ℕ → (slots temps : ℕ) → Body → Function Body
fun label slots temps body = record { label = label; params = []; slots = slots; temps = temps; out = 0; body = body }

abbrev code_of : {Body : Type 0} → List (Function Body) → Code Body
code_of functions = record { functions = functions; literals = [] }

abbrev seen : Ran → List ℕ × Stop
seen p = (p.output, p.stop)

abbrev before : Code Ts → ℕ → List ℕ × Stop
before code fuel = seen (tree_run Trees code (λ label. 16) (stack_top - 256) 64 32 [] fuel)

abbrev behind : Code Stms → ℕ → List ℕ × Stop
behind code fuel = seen (canonical_run code (λ label. 16) (stack_top - 256) 64 32 [] fuel)

-- A function stores 7 to the first word of the heap, and gives 1. Another reads that word, adds what the first one gives, and writes
-- the sum.
abbrev taken : Tx
taken = Const 285212672

abbrev stores : Function Ts
stores = fun 40 0 0 (sequence (Store taken (Const 7) ∷ Return (Const 1) ∷ []))

abbrev called : Tx
called = Call 40 no_txs

abbrev program : Ts → Code Ts
program s = code_of (fun 32 0 1 (sequence (Do (Service 9 (Const 4)) ∷ s ∷ Return (Const 0) ∷ [])) ∷ stores ∷ [])

abbrev read_and_call : Code Ts
read_and_call = program (Do (Service 11 (Binary Add (Load taken) called)))

writes_one : before read_and_call 1 ≡ (1 ∷ [], Ended (Exit (pos 0)))
writes_one = refl

-- after the pass it does the same: what is read is kept before the call
kept_before_the_call : behind (canonical_code read_and_call) 1 ≡ before read_and_call 1
kept_before_the_call = refl

-- where the call is moved before the read that it changes, it doesn't
abbrev call_moved : Code Stms
call_moved = code_of (
    fun 32 0 2 (stms (Do (Service 9 (Const 4)) ∷ Move 1 called ∷ Do (Service 11 (Binary Add (Load taken) (Temp 1))) ∷ Return (Const 0) ∷ [])) ∷
    fun 40 0 0 (stms (Store taken (Const 7) ∷ Return (Const 1) ∷ [])) ∷ [])

moved_writes_eight : behind call_moved 1 ≡ (8 ∷ [], Ended (Exit (pos 0)))
moved_writes_eight = refl

-- a condition of three parts, whose last one calls, tested part by part in a loop
abbrev counts : Code Ts
counts = program (sequence (
    Move 0 (Const 0) ∷
    Loop (If (Both (Either (Compare Less (Temp 0) (Const 2)) (Compare Equal (Temp 0) (Const 2))) (Compare Equal called (Const 1)))
    (sequence (Do (Service 11 (Temp 0)) ∷ Move 0 (Binary Add (Temp 0) (Const 1)) ∷ [])) (Break 0)) ∷ []))

counts_to_three : before counts 8 ≡ (0 ∷ 1 ∷ 2 ∷ [], Ended (Exit (pos 0)))
counts_to_three = refl

counts_behind : behind (canonical_code counts) 8 ≡ before counts 8
counts_behind = refl

wants_more_behind : behind (canonical_code counts) 2 ≡ before counts 2
wants_more_behind = refl
