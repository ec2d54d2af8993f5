-- Suffixes of a code.
use Rattle.std.proofs.Common.{◌≡◌, List, ◌∷◌, Some}
use Rattle.tg_instr.specs.declared.instr.Instr.{Instr}

-- a suffix of a code
pub data IsRest (all : List Instr) : List Instr → Type 0 where
  whole : IsRest all all
  next : (x : Instr) (rest : List Instr) → IsRest all (x ∷ rest) → IsRest all rest

pub some_is : (x y : List Instr) → Some x ≡ Some y → x ≡ y
some_is x y e = cc
