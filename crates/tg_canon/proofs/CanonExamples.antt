-- Canonical statements, each computed by the definition itself.
use Rattle.std.proofs.Common.{◌≡◌, List, [], ◌∷◌, refl}
use Rattle.tg_tree.specs.declared.operators.Bin.TheVariants.{Add, AddTrap}
use Rattle.tg_tree.specs.declared.operators.Rel.TheVariants.{Less, NotEqual}
use Rattle.tg_tree.specs.Tree.{Tx, Const, Temp, Binary, Load, Call, After, no_txs, tx, Cond, Compare, Not, Both, Ts, Move, Store, Do, If, Loop, Break}
use Rattle.tg_tree.specs.Tree.{Fault, Seq, Return, Stms, no_stms, stm}
use Rattle.tg_canon.specs.mirror.Drawing.{Drawn}
use Rattle.tg_canon.specs.mirror.Canon.{linearized}

abbrev stms : List Ts → Stms
stms [] = no_stms
stms (s ∷ ss) = stm s (stms ss)

abbrev seq : List Ts → Ts
seq ss = Seq (stms ss)

-- t9 := x, then a return, with temporaries drawn from 10 on
abbrev with_value : Tx → Drawn Stms
with_value x = linearized (seq (Move 9 x ∷ Return (Temp 9) ∷ [])) 10

abbrev g : Tx
g = Call 40 no_txs

-- in a sum of a temporary and a constant nothing is drawn
sum_is_flat : with_value (Binary Add (Temp 0) (Const 1)) ≡ record { it = stms (Move 9 (Binary Add (Temp 0) (Const 1)) ∷ Return (Temp 9) ∷ []); next = 10 }
sum_is_flat = refl

-- what a field holds is kept before a call
field_before_call : with_value (Binary Add (Load (Binary Add (Temp 0) (Const 4))) g) ≡
    record {
      it = stms (seq (seq (Move 11 (Load (Binary Add (Temp 0) (Const 4))) ∷ Move 10 g ∷ []) ∷ Move 9 (Binary Add (Temp 11) (Temp 10)) ∷ []) ∷
          Return (Temp 9) ∷ []);
      next = 12;
    }
field_before_call = refl

-- a temporary that nothing assigns stands in place, and so does an offset
temporary_before_call : with_value (Binary Add (Temp 0) g) ≡
    record { it = stms (seq (Move 10 g ∷ Move 9 (Binary Add (Temp 0) (Temp 10)) ∷ []) ∷ Return (Temp 9) ∷ []); next = 11 }
temporary_before_call = refl

offset_stays : linearized (Store (Binary Add (Load (Temp 0)) (Const 8)) g) 10 ≡
    record { it = stms (seq (Move 11 (Load (Temp 0)) ∷ Move 10 g ∷ []) ∷ Store (Binary Add (Temp 11) (Const 8)) (Temp 10) ∷ []); next = 12 }
offset_stays = refl

-- one that the right side assigns is kept
assigned_on_the_right : with_value (Binary Add (Temp 0) (After (Move 0 (Const 5)) (Temp 0))) ≡
    record { it = stms (seq (seq (Move 10 (Temp 0) ∷ Move 0 (Const 5) ∷ []) ∷ Move 9 (Binary Add (Temp 10) (Temp 0)) ∷ []) ∷ Return (Temp 9) ∷ []); next = 11 }
assigned_on_the_right = refl

-- a sum that may overflow is computed before what follows it, a plain move too
trap_before_move : with_value (Binary Add (Binary AddTrap (Temp 0) (Temp 1)) (After (Move 2 (Const 5)) (Temp 2))) ≡
    record {
      it = stms (seq (seq (Move 10 (Binary AddTrap (Temp 0) (Temp 1)) ∷ Move 2 (Const 5) ∷ []) ∷ Move 9 (Binary Add (Temp 10) (Temp 2)) ∷ []) ∷
          Return (Temp 9) ∷ []);
      next = 11;
    }
trap_before_move = refl

-- arguments, of which the last is a call
arguments : linearized (Do (Call 41 (tx (Load (Temp 0)) (tx (Temp 1) (tx g no_txs))))) 10 ≡
    record { it = stms (seq (Move 11 (Load (Temp 0)) ∷ Move 10 g ∷ []) ∷ Do (Call 41 (tx (Temp 11) (tx (Temp 1) (tx (Temp 10) no_txs)))) ∷ []); next = 12 }
arguments = refl

-- a value that isn't wanted
unwanted : linearized (seq (Do (Binary Add (Temp 0) (Load (Temp 1))) ∷ Do (Binary AddTrap (Temp 0) (Const 1)) ∷ Return (Const 0) ∷ [])) 10 ≡
    record { it = stms (Do (Binary AddTrap (Temp 0) (Const 1)) ∷ Return (Const 0) ∷ []); next = 10 }
unwanted = refl

-- a flat condition stays whole
abbrev less : Cond
less = Compare Less (Temp 0) (Const 2)

flat_condition : linearized (If (Both less (Not less)) (Return (Const 1)) (Fault 3)) 10 ≡
    record { it = stms (If (Both less (Not less)) (Return (Const 1)) (Fault 3) ∷ []); next = 10 }
flat_condition = refl

-- One whose right side calls is tested in turn. A break of the loop around it is one out of two loops more.
abbrev called : Cond
called = Compare NotEqual g (Const 0)

tested_in_turn : linearized (Loop (If (Both less called) (Move 1 (Const 1)) (Break 0))) 10 ≡ record {
  it = stms (Loop (Loop (seq (
      seq (
      Loop (seq (
      seq (
      seq (If less (seq []) (Break 0) ∷ seq (Move 10 g ∷ If (Compare NotEqual (Temp 10) (Const 0)) (seq []) (Break 0) ∷ []) ∷ []) ∷
      Move 1 (Const 1) ∷ []) ∷
      Break 1 ∷ [])) ∷
      Break 1 ∷ []) ∷
      Break 0 ∷ []))) ∷ []);
  next = 11;
}
tested_in_turn = refl
