-- Basic blocks (Appel, chapter 8).
use Rattle.std.specs.Prelude.{ℕ}
use Rattle.tg_tree.specs.declared.operators.Rel.{Rel}
use Rattle.tg_tree.specs.Tree.{Tx, Stms}

-- where control goes from a block's end, by the places of blocks in their list; the true side of a
-- branch is first
pub data BlockEnd : Type 0 where
  Jump : (place : ℕ) → BlockEnd
  Branch : Rel → (left right : Tx) → (yes' no' : ℕ) → BlockEnd
  Fault : ℕ → BlockEnd
  Return : Tx → BlockEnd

-- flat statements, and an end
pub record Block : Type 0 where
  pub body : Stms
  pub end : BlockEnd
