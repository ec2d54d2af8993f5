-- What is known at a place of a code, and what is forgotten.
use Rattle.std.specs.Prelude.{ℕ, ◌==◌, ◌&&◌, ◌||◌, not, Bool, true, false, List, [], ◌∷◌}
use Rattle.std.specs.Prelude.{take, if◌then◌else◌, Option, Some, None}
use Rattle.std.specs.List.{list_any, filter}
use Rattle.tg_tree.specs.declared.operators.Rel.{Rel}
use Rattle.tg_tree.specs.declared.operators.Rel.TheVariants.{Equal, NotEqual, Less, LessEqual}
use Rattle.tg_tree.specs.declared.operators.Rel.TheVariants.{Greater, GreaterEqual, Below, NotBelow}
use Rattle.tg_instr.specs.declared.operands.Opnd.{Opnd}
use Rattle.tg_instr.specs.Operands.{is_same}
use Rattle.tg_redundancy.specs.declared.readings.Reading.{Reading}
use Rattle.tg_redundancy.specs.declared.readings.Reading.TheVariants.{Moved}
use Rattle.tg_redundancy.specs.declared.facts.Fact.{Fact}
use Rattle.tg_redundancy.specs.declared.facts.Fact.TheVariants.{Has, Untrue}
use Rattle.tg_redundancy.specs.mirror.Readings.{temp, read_by, reads_memory, same_reading}

-- the last one first
abbrev pub Facts : Type 0
Facts = List Fact

-- What is known of operands.

-- the operand that was known to have what this one has, or itself
abbrev pub stands : Facts → Opnd → Opnd
stands [] operand = operand
stands (Has holder (Moved from) ∷ facts) operand =
    if is_same (temp holder) operand then from else stands facts operand
stands (_ ∷ facts) operand = stands facts operand

-- a temporary other than this one that has what is read so
abbrev pub found : (temp : ℕ) → Reading → Facts → Option ℕ
found to reading [] = None
found to reading (Has holder had ∷ facts) =
    if same_reading had reading && not (holder == to) then Some holder else
    found to reading facts
found to reading (Untrue rel left right ∷ facts) = found to reading facts

abbrev pub same_rel : Rel → Rel → Bool
same_rel Equal Equal = true
same_rel NotEqual NotEqual = true
same_rel Less Less = true
same_rel LessEqual LessEqual = true
same_rel Greater Greater = true
same_rel GreaterEqual GreaterEqual = true
same_rel Below Below = true
same_rel NotBelow NotBelow = true
same_rel _ _ = false

-- the comparison is known not to hold
abbrev pub is_untrue : Rel → (left right : Opnd) → Facts → Bool
is_untrue rel left right [] = false
is_untrue rel left right (Has holder had ∷ facts) = is_untrue rel left right facts
is_untrue rel left right (Untrue other x y ∷ facts) =
    (same_rel rel other && (is_same left x && is_same right y)) || is_untrue rel left right facts

-- Facts come and go.

abbrev pub names_one : Opnd → List Opnd → Bool
names_one operand list = list_any (λ one. is_same one operand) list

abbrev pub is_of : Opnd → Fact → Bool
is_of operand (Has holder reading) = names_one operand (temp holder ∷ read_by reading)
is_of operand (Untrue rel left right) = names_one operand (left ∷ right ∷ [])

abbrev pub is_of_memory : Fact → Bool
is_of_memory (Has holder reading) = reads_memory reading
is_of_memory (Untrue rel left right) = false

-- where an operand is defined, and where memory changes
abbrev pub forget : Opnd → Facts → Facts
forget operand facts = filter (λ fact. not (is_of operand fact)) facts

abbrev pub forget_each : List Opnd → Facts → Facts
forget_each [] facts = facts
forget_each (operand ∷ operands) facts = forget_each operands (forget operand facts)

abbrev pub forget_memory : Facts → Facts
forget_memory facts = filter (λ fact. not (is_of_memory fact)) facts

-- so many are kept at most
abbrev pub noted : (most : ℕ) → Fact → Facts → Facts
noted most fact facts = take most (fact ∷ facts)
