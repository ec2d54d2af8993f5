-- Runs of blocks, each computed by the definition itself.
use Rattle.std.proofs.Common.{◌≡◌, ℕ, ◌-◌, List, [], ◌∷◌, refl}
use Rattle.std.specs.Prelude.{pos}
use Rattle.tg_machine_state.specs.declared.ends.RunEnd.TheVariants.{Exit}
use Rattle.tg_machine_state.specs.State.{stack_top}
use Rattle.tg_frame.specs.declared.accesses.Access.{Access}
use Rattle.tg_frame.specs.declared.accesses.Access.TheVariants.{InTemp}
use Rattle.tg_simulation.specs.Ran.{Ran, Stop, Ended, WantsFuel, Wrong}
use Rattle.tg_tree.specs.declared.operators.Bin.TheVariants.{Add}
use Rattle.tg_tree.specs.declared.operators.Rel.TheVariants.{Less}
use Rattle.tg_tree.specs.Forms.{txs, stms, sequence, nothing}
use Rattle.tg_tree.specs.Tree as tree
use Rattle.tg_tree.specs.Tree.{Tx, Const, Temp, Binary, Call, Service, Cond, Compare, Ts, Move, Do, If, Loop, Break, Function, Code}
use Rattle.tg_tree.specs.Running.{canonical_run}
use Rattle.tg_trace_schedule.specs.Block.{BlockEnd, Jump, Return, Block}
use Rattle.tg_trace_schedule.specs.Meaning.{block_run}
use Rattle.tg_trace_schedule.specs.mirror.Cutting.{blocks_of}

abbrev fun : {Body : Type 0} → ℕ → List Access → Body → Function Body
fun label params body = record { label = label; params = params; slots = 0; temps = 0; out = 0; body = body }

abbrev seen : Ran → List ℕ × Stop
seen p = (p.output, p.stop)

-- what blocks write and how they stop, by the fuel
abbrev does : List (Function (List Block)) → ℕ → List ℕ × Stop
does functions fuel = seen (block_run (record { functions = functions; literals = [] }) (λ label. 8) (stack_top - 256) 8 32 [] fuel)

-- and what the statements do that are cut into them
abbrev before : List Ts → ℕ → List ℕ × Stop
before ss fuel = seen (canonical_run (record { functions = fun 32 [] (stms ss) ∷ []; literals = [] }) (λ label. 8) (stack_top - 256) 8 32 [] fuel)

abbrev behind : List Ts → ℕ → List ℕ × Stop
behind ss fuel = does (fun 32 [] (blocks_of (stms ss)) ∷ []) fuel

abbrev finished : List ℕ → List ℕ × Stop
finished bytes = (bytes, Ended (Exit (pos 0)))

abbrev print : Tx → Ts
print x = Do (Service 11 x)

abbrev up : Ts
up = Move 0 (Binary Add (Temp 0) (Const 1))

abbrev below : ℕ → Cond
below n = Compare Less (Temp 0) (Const n)

abbrev done : Ts
done = tree.Return (Const 0)

-- a loop that counts: the way back to its head takes a unit of fuel; and with one too few
abbrev counts : List Ts
counts = Move 0 (Const 0) ∷ Loop (If (below 3) (sequence (print (Temp 0) ∷ up ∷ [])) (Break 0)) ∷ done ∷ []

loop_counts : behind counts 3 ≡ finished (0 ∷ 1 ∷ 2 ∷ [])
loop_counts = refl

wants_one_more : behind counts 2 ≡ (0 ∷ 1 ∷ 2 ∷ [], WantsFuel)
wants_one_more = refl

-- a break out of two loops
abbrev leaves_two : List Ts
leaves_two =
    Move 0 (Const 0) ∷ Loop (sequence (print (Const 7) ∷ Loop (sequence (up ∷ If (below 3) (print (Temp 0)) (Break 1) ∷ [])) ∷ [])) ∷
    print (Const 9) ∷ done ∷ []

out_of_two : behind leaves_two 2 ≡ finished (7 ∷ 1 ∷ 2 ∷ 9 ∷ [])
out_of_two = refl

-- a choice whose sides are one
one_side : behind (Move 0 (Const 0) ∷ If (below 1) nothing nothing ∷ print (Const 5) ∷ done ∷ []) 0 ≡ finished (5 ∷ [])
one_side = refl

-- a call takes a unit of fuel too
abbrev calls : List (Function (List Block))
calls =
    fun 32 [] (blocks_of (stms (print (Call 33 (txs (Const 4 ∷ []))) ∷ done ∷ []))) ∷
    fun 33 (InTemp (record { 0 = 0 }) ∷ []) (blocks_of (stms (up ∷ tree.Return (Temp 0) ∷ []))) ∷ []

call_runs : does calls 1 ≡ finished (5 ∷ [])
call_runs = refl

call_wants : does calls 0 ≡ ([], WantsFuel)
call_wants = refl

-- a place that isn't there goes wrong
abbrev block : BlockEnd → List Ts → Block
block e ss = record { body = stms ss; end = e }

nowhere : does (fun 32 [] (block (Jump 3) (print (Const 6) ∷ []) ∷ block (Return (Const 0)) [] ∷ []) ∷ []) 4 ≡ (6 ∷ [], Wrong)
nowhere = refl

-- a way back to its own block takes fuel, and so does one to a block in front
own_place : does (fun 32 [] (block (Jump 0) (print (Const 6) ∷ []) ∷ []) ∷ []) 2 ≡ (6 ∷ 6 ∷ 6 ∷ [], WantsFuel)
own_place = refl

-- a loop at the front of a loop at the front of a loop, which is left by two: what is in the second is never come to
abbrev three_loops : List Ts
three_loops = print (Const 5) ∷ Loop (sequence (Loop (sequence (Loop (Break 1) ∷ print (Const 8) ∷ [])) ∷ print (Const 1) ∷ [])) ∷ done ∷ []

three_before : before three_loops 2 ≡ (5 ∷ 1 ∷ 1 ∷ 1 ∷ [], WantsFuel)
three_before = refl

three_behind : behind three_loops 2 ≡ (5 ∷ 1 ∷ 1 ∷ 1 ∷ [], WantsFuel)
three_behind = refl
