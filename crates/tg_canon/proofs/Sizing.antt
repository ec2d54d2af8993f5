-- Lengths and needs of parts that are put together, and what is left of an expression's needs for holding it.
use Rattle.std.proofs.Common.{◌≡◌, ℕ, ◌+◌, ◌<◌, ◌≤◌, Bool, true, false, if◌then◌else◌, nat_lt, refl, ap, arith}
use Rattle.std.proofs.lemmas.Bool.{lt-ltb, le-ltb}
use Rattle.tg_tree.specs.Tree.{Tx, Const, Address, Temp, FrameAddress, Binary, Load, LoadByte, Call, Service, After, Ts, Seq, no_stms, stm, Move}
use Rattle.tg_tree.specs.Tree.{Store, StoreByte, Do, If, Loop, Break, Fault, Return}
use Rattle.tg_tree.specs.Units.{Canonical}
use Rattle.tg_tree.specs.Sizes.{statement_length, statement_needs, in_canonical}
use Rattle.tg_canon.specs.mirror.Canon.{is_nothing, pair, first_then}

abbrev pub size : Ts → ℕ
size s = statement_length Canonical s

abbrev pub takes : Ts → ℕ
takes s = statement_needs in_canonical s

nothing_counts : (s : Ts) → is_nothing s ≡ true → (size s ≡ 0) × (takes s ≡ 0)
nothing_counts (Seq no_stms) e = (refl, refl)
nothing_counts (Seq (stm s ss)) e = cc
nothing_counts (Move i x) e = cc
nothing_counts (Store x y) e = cc
nothing_counts (StoreByte x y) e = cc
nothing_counts (Do x) e = cc
nothing_counts (If c s t) e = cc
nothing_counts (Loop s) e = cc
nothing_counts (Break k) e = cc
nothing_counts (Fault k) e = cc
nothing_counts (Return x) e = cc

pub in_turn_counts : (s t : Ts) → (size (first_then s t) ≡ size s + size t) × (takes (first_then s t) ≡ takes s + takes t)
in_turn_counts s t = by (is_nothing s) (is_nothing t) refl refl
  where
    by : (a b : Bool) → is_nothing s ≡ a → is_nothing t ≡ b →
        (size (if a then t else if b then s else pair s t) ≡ size s + size t) × (takes (if a then t else if b then s else pair s t) ≡ takes s + takes t)
    by true b p q = let h = nothing_counts s p in (omega (arith, h.0), omega (arith, h.1))
    by false true p q = let h = nothing_counts t q in (omega (arith, h.0), omega (arith, h.1))
    by false false p q = (omega arith, omega arith)

-- whether it may still be held: a temporary that is drawn never is
abbrev pub holdable : (own : ℕ) → Tx → ℕ
holdable own (Temp i) = if nat_lt i own then 1 else 0
holdable own _ = 1

pub holdable_most : (own : ℕ) (x : Tx) → holdable own x ≤ 1
holdable_most own (Temp i) = by (nat_lt i own)
  where
    by : (b : Bool) → (if b then 1 else 0) ≤ 1
    by true = omega arith
    by false = omega arith
holdable_most own (Const _) = omega arith
holdable_most own (Address _) = omega arith
holdable_most own FrameAddress = omega arith
holdable_most own (Binary _ _ _) = omega arith
holdable_most own (Load _) = omega arith
holdable_most own (LoadByte _) = omega arith
holdable_most own (Call _ _) = omega arith
holdable_most own (Service _ _) = omega arith
holdable_most own (After _ _) = omega arith

pub own_holdable : (own i : ℕ) → i < own → holdable own (Temp i) ≡ 1
own_holdable own i lt = ap (λ b. if b then 1 else 0) (lt-ltb i own lt)

pub drawn_held : (own i : ℕ) → own ≤ i → holdable own (Temp i) ≡ 0
drawn_held own i le = ap (λ b. if b then 1 else 0) (le-ltb i own le)
