-- The units of work of some calls, each computed by the meaning of trees itself, beside those that a call takes at most.
use Rattle.std.proofs.Common.{◌≡◌, ℕ, ◌+◌, ◌-◌, ◌*◌, List, [], ◌∷◌, Bool, true, nat_le, refl}
use Rattle.std.specs.Prelude.{codes}
use Rattle.tg_machine_state.specs.State.{stack_top}
use Rattle.tg_tree.specs.Tree.{Tx, Const, Address, Call, Ts, Do, Return, Function, Literal}
use Rattle.tg_tree.specs.Forms.{txs, sequence}
use Rattle.tg_tree.specs.Units.{Trees}
use Rattle.tg_tree.specs.Running.{tree_run}
use Rattle.tg_runtime.specs.declared.routines.Routine.{Routine}
use Rattle.tg_runtime.specs.declared.routines.Routine.TheVariants as routine
use Rattle.tg_runtime.specs.mirror.Labels.{label_of}
use Rattle.tg_runtime.specs.mirror.Routines.{runtime}
use Rattle.tg_runtime_proof.specs.laws.Serving.{call_units, turn_units}

-- literals, by their labels
abbrev literals : List Literal
literals =
    record { label = 33; text = 5 ∷ 0 ∷ 0 ∷ 0 ∷ codes "tiger" } ∷
    record { label = 34; text = 2 ∷ 0 ∷ 0 ∷ 0 ∷ codes "hi" } ∷ []

abbrev main : List Ts → Function Ts
main body = record { label = 32; params = []; slots = 0; temps = 1; out = 0; body = sequence body }

-- the work of a body's run with the runtime
abbrev work_of : List Ts → ℕ
work_of body =
    (tree_run Trees (record { functions = main body ∷ runtime.functions; literals = literals }) (λ label. 8) (stack_top - 16) 64 32 [] 40).work

-- what a call adds to the work of a body that does nothing
abbrev call_work : Routine → List Tx → ℕ
call_work one xs = work_of (Do (Call (label_of one) (txs xs)) ∷ Return (Const 0) ∷ []) - work_of (Return (Const 0) ∷ [])

-- what a call of so many turns takes at most
abbrev units : (turns : ℕ) → ℕ
units turns = call_units + turn_units * turns

-- without a turn, and with seven
no_turn : units 0 ≡ 160
no_turn = refl

seven_turns : units 7 ≡ 412
seven_turns = refl

-- concat("tiger","hi"): seven bytes
joined_within : nat_le (call_work routine.Concat (Address 33 ∷ Address 34 ∷ [])) (units 7) ≡ true
joined_within = refl

-- "tiger" = "tiger": five bytes of each
compared_within : nat_le (call_work routine.Compare (Address 33 ∷ Address 33 ∷ [])) (units 10) ≡ true
compared_within = refl

-- print("tiger")
printed_within : nat_le (call_work routine.Print (Address 33 ∷ [])) (units 5) ≡ true
printed_within = refl

-- size("tiger")
size_within : nat_le (call_work routine.Size (Address 33 ∷ [])) (units 0) ≡ true
size_within = refl
