-- The words and numbers of trees and flat code (Appel, chapter 7).
use Rattle.std.specs.Prelude.{ℕ, ◌==◌, List, [], ◌∷◌, ◌++◌, length, codes}
use Rattle.std.specs.Prelude.{if◌then◌else◌, slice_index_or}
use Rattle.std.specs.Fmt.{decimal, signed_decimal}
use Rattle.tg_base.specs.Words.{signed}
use Rattle.tg_tree.specs.declared.operators.Bin.{Bin}
use Rattle.tg_tree.specs.declared.operators.Bin.TheVariants.{Add, Sub, Mul, Div, And, Or, Xor}
use Rattle.tg_tree.specs.declared.operators.Bin.TheVariants.{ShiftLeft, ShiftRight, ShiftSigned}
use Rattle.tg_tree.specs.declared.operators.Bin.TheVariants.{AddTrap, SubTrap, MulHigh}
use Rattle.tg_tree.specs.declared.operators.Rel.{Rel}
use Rattle.tg_tree.specs.declared.operators.Rel.TheVariants.{Equal, NotEqual, Less, LessEqual}
use Rattle.tg_tree.specs.declared.operators.Rel.TheVariants.{Greater, GreaterEqual, Below, NotBelow}

-- the int that a word stands for
abbrev pub int_text : (word : ℕ) → List ℕ
int_text n = signed_decimal (signed n)

-- a colon and a name, or nothing where there is none
abbrev pub name_text : (name : List ℕ) → List ℕ
name_text name = if length name == 0 then [] else 58 ∷ name

-- a temporary by its number, with its name, of a list by numbers
abbrev pub temp_text : (names : List (List ℕ)) → (temp : ℕ) → List ℕ
temp_text names t = codes "t" ++ decimal t ++ name_text (slice_index_or names t [])

abbrev pub bin_word : Bin → List ℕ
bin_word Add = codes "PLUS"
bin_word Sub = codes "MINUS"
bin_word Mul = codes "MUL"
bin_word Div = codes "DIV"
bin_word And = codes "AND"
bin_word Or = codes "OR"
bin_word Xor = codes "XOR"
bin_word ShiftLeft = codes "LSHIFT"
bin_word ShiftRight = codes "RSHIFT"
bin_word ShiftSigned = codes "ARSHIFT"
bin_word AddTrap = codes "PLUSTRAP"
bin_word SubTrap = codes "MINUSTRAP"
bin_word MulHigh = codes "MULHIGH"

abbrev pub rel_word : Rel → List ℕ
rel_word Equal = codes "EQ"
rel_word NotEqual = codes "NE"
rel_word Less = codes "LT"
rel_word LessEqual = codes "LE"
rel_word Greater = codes "GT"
rel_word GreaterEqual = codes "GE"
rel_word Below = codes "ULT"
rel_word NotBelow = codes "UGE"
