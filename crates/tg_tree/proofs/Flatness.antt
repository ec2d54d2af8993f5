-- The tests of flatness tell what is flat.
use Rattle.std.proofs.Common.{◌≡◌, Bool, true, false, refl}
use Rattle.std.specs.Prelude.{◌&&◌}
use Rattle.tg_tree.specs.Tree.{Tx, Const, Address, Temp, FrameAddress, Binary, Load, LoadByte, Call, Service, After, Txs, no_txs, tx, Cond, Compare}
use Rattle.tg_tree.specs.Tree.{Not, Both, Either}
use Rattle.tg_tree.specs.Shapes.{IsFlat, AreFlat, IsFlatCond, is_flat, are_flat, is_flat_condition}

and_true : (a b : Bool) → a ≡ true → b ≡ true → (a && b) ≡ true
and_true a b e f = rw (e, f) refl

and_both : (a b : Bool) → (a && b) ≡ true → (a ≡ true) × (b ≡ true)
and_both true b e = (refl, e)
and_both false b e = cc

pub flat_tested : (x : Tx) → IsFlat x → is_flat x ≡ true
flat_tested (Const n) f = refl
flat_tested (Address label) f = refl
flat_tested (Temp i) f = refl
flat_tested FrameAddress f = refl
flat_tested (Binary op x y) f = and_true (is_flat x) (is_flat y) (flat_tested x f.0) (flat_tested y f.1)
flat_tested (Load x) f = flat_tested x f
flat_tested (LoadByte x) f = flat_tested x f
flat_tested (Call label xs) f = absurd f
flat_tested (Service n x) f = absurd f
flat_tested (After s x) f = absurd f

pub tested_flat : (x : Tx) → is_flat x ≡ true → IsFlat x
tested_flat (Const n) e = tt
tested_flat (Address label) e = tt
tested_flat (Temp i) e = tt
tested_flat FrameAddress e = tt
tested_flat (Binary op x y) e = let h = and_both (is_flat x) (is_flat y) e in (tested_flat x h.0, tested_flat y h.1)
tested_flat (Load x) e = tested_flat x e
tested_flat (LoadByte x) e = tested_flat x e
tested_flat (Call label xs) e = cc
tested_flat (Service n x) e = cc
tested_flat (After s x) e = cc

pub all_flat_tested : (xs : Txs) → AreFlat xs → are_flat xs ≡ true
all_flat_tested no_txs f = refl
all_flat_tested (tx x xs) f = and_true (is_flat x) (are_flat xs) (flat_tested x f.0) (all_flat_tested xs f.1)

pub all_tested_flat : (xs : Txs) → are_flat xs ≡ true → AreFlat xs
all_tested_flat no_txs e = tt
all_tested_flat (tx x xs) e = let h = and_both (is_flat x) (are_flat xs) e in (tested_flat x h.0, all_tested_flat xs h.1)

pub condition_tested : (c : Cond) → IsFlatCond c → is_flat_condition c ≡ true
condition_tested (Compare rel x y) f = and_true (is_flat x) (is_flat y) (flat_tested x f.0) (flat_tested y f.1)
condition_tested (Not c) f = condition_tested c f
condition_tested (Both c d) f = and_true (is_flat_condition c) (is_flat_condition d) (condition_tested c f.0) (condition_tested d f.1)
condition_tested (Either c d) f = and_true (is_flat_condition c) (is_flat_condition d) (condition_tested c f.0) (condition_tested d f.1)

pub tested_condition : (c : Cond) → is_flat_condition c ≡ true → IsFlatCond c
tested_condition (Compare rel x y) e = let h = and_both (is_flat x) (is_flat y) e in (tested_flat x h.0, tested_flat y h.1)
tested_condition (Not c) e = tested_condition c e
tested_condition (Both c d) e = let h = and_both (is_flat_condition c) (is_flat_condition d) e in (tested_condition c h.0, tested_condition d h.1)
tested_condition (Either c d) e = let h = and_both (is_flat_condition c) (is_flat_condition d) e in (tested_condition c h.0, tested_condition d h.1)
