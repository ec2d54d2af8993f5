-- Operators on ints and strings (Appel, appendix A.3), the parts of objects, and the heap that
-- creations take.
use Rattle.std.specs.Prelude.{ℕ, ◌+◌, ◌*◌, ◌/◌, ◌==◌, max, List, [], ◌∷◌, Option, Some, None, Bool}
use Rattle.std.specs.Prelude.{true, false, not, ◌&&◌, ◌||◌, nat_lt, int_div, if◌then◌else◌}
use Rattle.std.specs.Prelude.{slice_get, slice_set}
use Rattle.tg_syntax.specs.declared.trees.Op.{Op}
use Rattle.tg_syntax.specs.declared.trees.Op.TheVariants.{Equal, NotEqual, Less, LessEqual, Greater}
use Rattle.tg_syntax.specs.declared.trees.Op.TheVariants.{GreaterEqual}
use Rattle.tg_base.specs.Words.{signed, is_negative, within}
use Rattle.tg_semantics.specs.Values.{Value, int, Object, fields, elements}

-- the quotient toward zero, as MIPS divides, where it has a word
abbrev pub exact_quotient : ℕ → ℕ → Option ℕ
exact_quotient a b = within (int_div (signed a) (signed b))

-- whether an int is 0 or more, and below a number
abbrev pub is_below : ℕ → ℕ → Bool
is_below i n = not (is_negative i) && nat_lt i n

-- the order of strings (appendix A.3, "string comparison"): byte by byte, without sign, and a
-- proper prefix is less
abbrev pub string_less : List ℕ → List ℕ → Bool
string_less a [] = false
string_less [] (y ∷ b) = true
string_less (x ∷ a) (y ∷ b) = nat_lt x y || (x == y && string_less a b)

-- whether a comparison holds, by whether its sides are the same, the left one is less, and the
-- right one is less
abbrev pub comparison : Op → (same less greater : Bool) → Option Bool
comparison Equal same less greater = Some same
comparison NotEqual same less greater = Some (not same)
comparison Less same less greater = Some less
comparison LessEqual same less greater = Some (not greater)
comparison Greater same less greater = Some greater
comparison GreaterEqual same less greater = Some (not less)
comparison _ same less greater = None

-- whether a comparison of records or arrays holds, which is by identity (appendix A.3)
abbrev pub identity : Op → (same : Bool) → Option Bool
identity Equal same = Some same
identity NotEqual same = Some (not same)
identity _ same = None

-- the int that a comparison gives (appendix A.3)
abbrev pub truth : Bool → Value
truth b = int (if b then 1 else 0)

-- The parts of an object.

abbrev pub get_field : ℕ → List (ℕ × Value) → Option Value
get_field f [] = None
get_field f (part ∷ rest) = if part.0 == f then Some part.1 else get_field f rest

abbrev pub set_field : ℕ → Value → List (ℕ × Value) → List (ℕ × Value)
set_field f v [] = []
set_field f v (part ∷ rest) = if part.0 == f then (f, v) ∷ rest else part ∷ set_field f v rest

abbrev pub field_in : ℕ → Object → Option Value
field_in f (fields parts) = get_field f parts
field_in f (elements values) = None

abbrev pub element_in : ℕ → Object → Option Value
element_in i (fields parts) = None
element_in i (elements values) = slice_get values i

abbrev pub with_field : ℕ → Value → Object → Object
with_field f v (fields parts) = fields (set_field f v parts)
with_field f v (elements values) = elements values

abbrev pub with_element : ℕ → Value → Object → Object
with_element i v (fields parts) = fields parts
with_element i v (elements values) = elements (slice_set values i v)

-- The bytes of heap that a creation takes, by how this compiler lays it out (chapter 7): a record
-- has a word for each field, and one at least, so that two are never in one place; an array has its
-- length in front, and so has a string.

abbrev pub record_bytes : (count : ℕ) → ℕ
record_bytes count = max 4 (4 * count)

abbrev pub array_bytes : (count : ℕ) → ℕ
array_bytes count = 4 + 4 * count

abbrev pub string_bytes : (length : ℕ) → ℕ
string_bytes length = 4 + 4 * ((length + 3) / 4)
