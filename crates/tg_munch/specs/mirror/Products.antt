-- Products: `mult` leaves both words of a product, the upper one in HI, so that a check of the
-- product needs no second one (MIPS I manual, MULT and MFHI).
use Rattle.std.specs.Prelude.{ℕ, ◌==◌, ◌&&◌, not, Bool, false, Option, Some}
use Rattle.tg_tree.specs.declared.operators.Bin.TheVariants as bin
use Rattle.tg_tree.specs.Tree as tree
use Rattle.tg_tree.specs.Tree.{Tx, Ts, Linear}

-- the same word, the one before a move to a temporary and the other after it: a number, or another
-- temporary
abbrev pub is_same : (to : ℕ) → (x y : Tx) → Bool
is_same to (tree.Const n) (tree.Const m) = n == m
is_same to (tree.Temp i) (tree.Temp j) = i == j && not (i == to)
is_same to _ _ = false

-- a move of the product of two sides, which stay what they were
abbrev pub moves_product : Ts → (left right : Tx) → Bool
moves_product (tree.Move i (tree.Binary bin.Mul x y)) u v = is_same i x u && is_same i y v
moves_product _ u v = false

-- an element that leaves the upper word of the product of two sides in HI
abbrev pub leaves_product : (before : Option Linear) → (left right : Tx) → Bool
leaves_product (Some (tree.Do' s)) u v = moves_product s u v
leaves_product _ u v = false

-- whether HI is a word, directly after an element of flat code
abbrev pub is_in_hi : (before : Option Linear) → Tx → Bool
is_in_hi before (tree.Binary bin.MulHigh u v) = leaves_product before u v
is_in_hi before _ = false
