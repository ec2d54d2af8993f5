-- Two sides, which are constants or aren't.
use Rattle.std.proofs.Common.{◌≡◌, ℕ, refl}
use Rattle.std.specs.Prelude.{None}
use Rattle.tg_tree.specs.Tree.{Tx, Const, Address, Temp, FrameAddress, Binary, Load, LoadByte, Call, Service, After}
use Rattle.tg_fold.specs.Sides.{constants}

pub data AreSides : Tx → Tx → Type 0 where
  two : (a b : ℕ) → AreSides (Const a) (Const b)
  others : (x y : Tx) → constants x y ≡ None → AreSides x y

pub sides : (x y : Tx) → AreSides x y
sides (Const a) (Const b) = two a b
sides (Const a) (Address label) = others _ _ refl
sides (Const a) (Temp i) = others _ _ refl
sides (Const a) FrameAddress = others _ _ refl
sides (Const a) (Binary op u v) = others _ _ refl
sides (Const a) (Load u) = others _ _ refl
sides (Const a) (LoadByte u) = others _ _ refl
sides (Const a) (Call label xs) = others _ _ refl
sides (Const a) (Service n u) = others _ _ refl
sides (Const a) (After s u) = others _ _ refl
sides (Address label) y = others _ _ refl
sides (Temp i) y = others _ _ refl
sides FrameAddress y = others _ _ refl
sides (Binary op u v) y = others _ _ refl
sides (Load u) y = others _ _ refl
sides (LoadByte u) y = others _ _ refl
sides (Call label xs) y = others _ _ refl
sides (Service n u) y = others _ _ refl
sides (After s u) y = others _ _ refl
