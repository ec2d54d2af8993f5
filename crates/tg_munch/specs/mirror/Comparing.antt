-- Branches on a comparison (Appel, chapter 9; MIPS I manual, branches and set on less than).
use Rattle.std.specs.Prelude.{ℕ, ◌+◌, ◌%◌, ◌==◌, ◌&&◌, not, Bool, true, false, Option, Some, None}
use Rattle.std.specs.Prelude.{refl, if◌then◌else◌}
use Rattle.tg_tree.specs.declared.operators.Rel.{Rel}
use Rattle.tg_tree.specs.declared.operators.Rel.TheVariants.{Equal, NotEqual, Less, LessEqual}
use Rattle.tg_tree.specs.declared.operators.Rel.TheVariants.{Greater, GreaterEqual, Below, NotBelow}
use Rattle.tg_tree.specs.Tree.{Tx, Const}
use Rattle.tg_instr.specs.declared.operands.Opnd.{Opnd}
use Rattle.tg_instr.specs.declared.instr.Instr.{Instr}
use Rattle.tg_instr.specs.declared.instr.Instr.TheVariants.{Slt, Sltu, Slti, Sltiu, Jump, Branch}
use Rattle.tg_munch.specs.declared.orders.Order.{Order}
use Rattle.tg_munch.specs.declared.orders.Short.{Short}
use Rattle.tg_munch.specs.declared.orders.Short.TheVariants.{Zero, Field}
use Rattle.tg_munch.specs.mirror.Choosing.{Choice, ◌>>=◌, ◌>>◌, give, put, fresh}
use Rattle.tg_munch.specs.mirror.Tiles.{nothing, is_small, field, if_equal, unless_equal}

-- a branch where the test for less came to 1, or to 0
abbrev pub on_flag : (holds : Bool) → (flag : Opnd) → (mark : ℕ) → Instr
on_flag holds x m = if holds then unless_equal x nothing m else if_equal x nothing m

-- 1 where one word is less than another, with or without sign, else 0
abbrev pub flag : (signed : Bool) → (to left right : Opnd) → Instr
flag signed t x y = if signed then Slt t x y else Sltu t x y

abbrev pub field_flag : (signed : Bool) → (to left : Opnd) → (field : ℕ) → Instr
field_flag signed t x n = if signed then Slti t x n else Sltiu t x n

abbrev pub on_less : Order → (left right : Opnd) → (mark : ℕ) → Choice (Unit {0})
on_less o x y m = fresh >>= (λ t. put (flag o.signed t x y) >> put (on_flag o.holds t m))

abbrev pub on_less_field : Order → (field : ℕ) → (left : Opnd) → (mark : ℕ) → Choice (Unit {0})
on_less_field o n x m =
    fresh >>= (λ t. put (field_flag o.signed t x n) >> put (on_flag o.holds t m))

abbrev pub order : (signed holds : Bool) → Order
order signed holds = record { signed = signed; holds = holds }

-- two operands
abbrev pub branch_on : Rel → (left right : Opnd) → (mark : ℕ) → Choice (Unit {0})
branch_on Equal x y m = put (if_equal x y m)
branch_on NotEqual x y m = put (unless_equal x y m)
branch_on Less x y m = on_less (order true true) x y m
branch_on GreaterEqual x y m = on_less (order true false) x y m
branch_on Greater x y m = on_less (order true true) y x m
branch_on LessEqual x y m = on_less (order true false) y x m
branch_on Below x y m = on_less (order false true) x y m
branch_on NotBelow x y m = on_less (order false false) x y m

-- a branch where an operand is in some order with 0
abbrev pub if_less : Opnd → (mark : ℕ) → Instr
if_less x m = Branch (record { rel = Less; left = x; right = nothing; is_one_row = refl }) m

abbrev pub if_at_most : Opnd → (mark : ℕ) → Instr
if_at_most x m = Branch (record { rel = LessEqual; left = x; right = nothing; is_one_row = refl }) m

abbrev pub if_greater : Opnd → (mark : ℕ) → Instr
if_greater x m = Branch (record { rel = Greater; left = x; right = nothing; is_one_row = refl }) m

abbrev pub if_at_least : Opnd → (mark : ℕ) → Instr
if_at_least x m =
    Branch (record { rel = GreaterEqual; left = x; right = nothing; is_one_row = refl }) m

-- an operand and 0: no word is below it
abbrev pub against_zero : Rel → (left : Opnd) → (mark : ℕ) → Choice (Unit {0})
against_zero Equal x m = put (if_equal x nothing m)
against_zero NotEqual x m = put (unless_equal x nothing m)
against_zero Less x m = put (if_less x m)
against_zero LessEqual x m = put (if_at_most x m)
against_zero Greater x m = put (if_greater x m)
against_zero GreaterEqual x m = put (if_at_least x m)
against_zero Below x m = give tt
against_zero NotBelow x m = put (Jump m)

-- a constant on the right that a field holds; at most n is less than the next word
abbrev pub if_small : Order → (n : ℕ) → Option Short
if_small o n = if is_small n then Some (Field o (field n)) else None

abbrev pub if_next_small : Order → (n : ℕ) → Option Short
if_next_small o n =
    if is_small n && not (n == 32767) then Some (Field o (field ((n + 1) % 4294967296))) else None

abbrev pub short_field : Rel → (n : ℕ) → Option Short
short_field Less n = if_small (order true true) n
short_field GreaterEqual n = if_small (order true false) n
short_field LessEqual n = if_next_small (order true true) n
short_field Greater n = if_next_small (order true false) n
short_field Below n = if_small (order false true) n
short_field NotBelow n = if_small (order false false) n
short_field _ n = None

abbrev pub short : Rel → (n : ℕ) → Option Short
short rel n = if n == 0 then Some Zero else short_field rel n

-- how a comparison is made without an operand for its right side, where that is a constant that
-- allows it
abbrev pub short_side : Rel → (right : Tx) → Option Short
short_side rel (Const n) = short rel n
short_side rel _ = None

abbrev pub branch_short : Rel → Short → (left : Opnd) → (mark : ℕ) → Choice (Unit {0})
branch_short rel Zero x m = against_zero rel x m
branch_short rel (Field o n) x m = on_less_field o n x m

abbrev pub against :
    Rel → Option Short → (left : Opnd) → (right : Choice Opnd) → (mark : ℕ) → Choice (Unit {0})
against rel (Some one) x right m = branch_short rel one x m
against rel None x right m = right >>= (λ y. branch_on rel x y m)

-- a comparison whose left side alone is a constant is turned round
abbrev pub turned : Rel → Rel
turned Less = Greater
turned LessEqual = GreaterEqual
turned Greater = Less
turned GreaterEqual = LessEqual
turned rel = rel

abbrev pub can_turn : Rel → Bool
can_turn Below = false
can_turn NotBelow = false
can_turn _ = true

abbrev pub is_constant : Tx → Bool
is_constant (Const n) = true
is_constant _ = false

abbrev pub is_turned : Rel → (left right : Tx) → Bool
is_turned rel x y = is_constant x && (not (is_constant y) && can_turn rel)
