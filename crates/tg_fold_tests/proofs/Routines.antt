-- Each function of the runtime is called, and what its body does is computed before the pass and after it, by the meaning of
-- trees itself.
use Rattle.std.proofs.Common.{◌≡◌, ℕ, ◌-◌, ◌++◌, List, [], ◌∷◌, refl}
use Rattle.std.specs.Prelude.{codes, pos}
use Rattle.tg_machine_state.specs.declared.ends.RunEnd.TheVariants.{Exit}
use Rattle.tg_machine_state.specs.State.{stack_top}
use Rattle.tg_simulation.specs.Ran.{Ran, Stop, Ended}
use Rattle.tg_tree.specs.declared.operators.Bin.TheVariants.{Add}
use Rattle.tg_tree.specs.Tree.{Tx, Const, Address, Temp, Binary, Load, Call, Service, Ts, Move, Do, Return, Function, Literal, Code}
use Rattle.tg_tree.specs.Forms.{txs, sequence}
use Rattle.tg_tree.specs.Units.{Trees}
use Rattle.tg_tree.specs.Running.{tree_run}
use Rattle.tg_runtime.specs.declared.routines.Routine.{Routine}
use Rattle.tg_runtime.specs.declared.routines.Routine.TheVariants as routine
use Rattle.tg_runtime.specs.mirror.Labels.{label_of}
use Rattle.tg_runtime.specs.mirror.Routines.{runtime}
use Rattle.tg_fold.specs.laws.Meaning.{folded_code}

-- literals, by their labels
abbrev tiger : Tx
tiger = Address 33

abbrev hi : Tx
hi = Address 34

abbrev literals : List Literal
literals =
    record { label = 33; text = 5 ∷ 0 ∷ 0 ∷ 0 ∷ codes "tiger" } ∷
    record { label = 34; text = 2 ∷ 0 ∷ 0 ∷ 0 ∷ codes "hi" } ∷ []

abbrev call : Routine → List Tx → Tx
call one xs = Call (label_of one) (txs xs)

-- the low byte of a word is written
abbrev show : Tx → Ts
show x = Do (Service 11 x)

abbrev print : Tx → Ts
print string = Do (call routine.Print (string ∷ []))

-- a word of what the first temporary leads to
abbrev word : ℕ → Ts
word n = show (Load (Binary Add (Temp 0) (Const n)))

abbrev Seen : Type 0
Seen = List ℕ × Stop

abbrev seen : Code Ts → Seen
seen code = let p : Ran = tree_run Trees code (λ label. 8) (stack_top - 16) 64 32 (codes "a") 40 in (p.output, p.stop)

-- what a body writes, and how it stops, before the pass and after it
abbrev does : List Ts → Seen × Seen
does body =
    let main : Function Ts = record { label = 32; params = []; slots = 0; temps = 1; out = 0; body = sequence body } in
    let code : Code Ts = record { functions = main ∷ runtime.functions; literals = literals } in
    (seen code, seen (folded_code code))

abbrev alike : Seen → Seen × Seen
alike s = (s, s)

abbrev returns : List ℕ → Seen
returns bytes = (bytes, Ended (Exit (pos 0)))

strings_made :
    does (
    print (call routine.Concat (tiger ∷ hi ∷ [])) ∷
    print (call routine.Substring (tiger ∷ Const 1 ∷ Const 3 ∷ [])) ∷
    show (call routine.Compare (hi ∷ tiger ∷ [])) ∷
    Return (Const 0) ∷ []) ≡ alike (returns (codes "tigerhiige" ++ 255 ∷ []))
strings_made = refl

blocks_made :
    does (
    Move 0 (call routine.MakeArray (Const 2 ∷ Const 7 ∷ [])) ∷
    word 0 ∷
    word 8 ∷
    Move 0 (call routine.MakeRecord (Const 8 ∷ [])) ∷
    word 4 ∷
    Return (Const 0) ∷ []) ≡ alike (returns (2 ∷ 7 ∷ 0 ∷ []))
blocks_made = refl

bytes_read_and_made :
    does (
    print (call routine.Getchar []) ∷
    show (call routine.Ord (tiger ∷ [])) ∷
    show (call routine.Size (tiger ∷ [])) ∷
    show (call routine.Not (Const 0 ∷ [])) ∷
    Do (call routine.Flush []) ∷
    print (call routine.Chr (Const 65 ∷ [])) ∷
    Do (call routine.Exit (Const 3 ∷ [])) ∷ []) ≡ alike (codes "a" ++ 116 ∷ 5 ∷ 1 ∷ 65 ∷ [], Ended (Exit (pos 3)))
bytes_read_and_made = refl
