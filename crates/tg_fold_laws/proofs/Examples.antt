-- How far a body goes and how deep it is, before the pass and after it.
use Rattle.std.proofs.Common.{◌≡◌, ℕ, List, [], ◌∷◌, refl}
use Rattle.tg_tree.specs.declared.operators.Bin.TheVariants.{Add}
use Rattle.tg_tree.specs.declared.operators.Rel.TheVariants.{Less}
use Rattle.tg_tree.specs.Tree.{Tx, Const, Temp, FrameAddress, Binary, Load, Compare, Both, Ts, Move, If, Return}
use Rattle.tg_tree.specs.Forms.{sequence}
use Rattle.tg_translate_laws.specs.Accesses.{AccessesWithin}
use Rattle.tg_translate_laws.specs.Depths.{ts_depth}
use Rattle.tg_fold.specs.mirror.Folding.{folded}

-- a variable of the function around, at the end of the frame's static link
abbrev outer : Tx
outer = Load (Binary Add (Load FrameAddress) (Binary Add (Const 4) (Const 4)))

abbrev depths : Ts → ℕ × ℕ
depths s = (ts_depth s, ts_depth (folded s))

sum_of_constants : depths (Return (Binary Add (Const 1) (Binary Add (Const 2) (Const 3)))) ≡ (4, 2)
sum_of_constants = refl

sum_in_an_address : depths (Return outer) ≡ (5, 5)
sum_in_an_address = refl

known_condition : depths (If (Compare Less (Const 1) (Const 2)) (Return (Const 1)) (Return outer)) ≡ (6, 2)
known_condition = refl

-- a right side that is known, after a left one that isn't, is a comparison still
known_right : depths (If (Both (Compare Less (Temp 0) (Const 2)) (Compare Less (Const 2) (Const 1))) (Return (Const 1)) (Return (Const 2))) ≡ (4, 4)
known_right = refl

copies : depths (sequence (Move 0 (Temp 1) ∷ Return (Temp 0) ∷ [])) ≡ (3, 3)
copies = refl

-- two accesses one within the other, and neither fewer
two_accesses : AccessesWithin 2 (folded (Return outer))
two_accesses = (tt, tt)

one_access : AccessesWithin 1 (folded (Return outer)) → ⊥
one_access h = h.0

other_arm : AccessesWithin 0 (folded (If (Compare Less (Const 1) (Const 2)) (Return (Const 1)) (Return outer)))
other_arm = tt
