-- Types: int, string, nil, none, and one new type for each record or array form that is declared,
-- named by the byte of its declaration. Two types are equal only where they are the same one.
use Rattle.std.specs.Prelude.{ℕ, ◌==◌, ◌||◌, List, Bool, true, false}

pub data Ty : Type 0 where
  int_type string_type nil_type none_type : Ty
  record_type : (at : ℕ) → Ty
  array_type : (at : ℕ) → Ty

-- what is declared at a byte: fields with their names, in order, or the type of elements
pub data Shape : Type 0 where
  record_shape : List (ℕ × Ty) → Shape
  array_shape : Ty → Shape

abbrev pub same : Ty → Ty → Bool
same int_type int_type = true
same string_type string_type = true
same nil_type nil_type = true
same none_type none_type = true
same (record_type a) (record_type b) = a == b
same (array_type a) (array_type b) = a == b
same _ _ = false

abbrev pub is_nil_for : Ty → Ty → Bool
is_nil_for nil_type (record_type _) = true
is_nil_for _ _ = false

-- a type fits another where it is that, or where it is nil and the other a record
abbrev pub fits : Ty → Ty → Bool
fits a t = same a t || is_nil_for a t

-- both are equal, or one is nil and the other a record
abbrev pub alike : Ty → Ty → Bool
alike a b = same a b || (is_nil_for a b || is_nil_for b a)

-- of two that are alike: the record where one is nil
abbrev pub joined_type : Ty → Ty → Ty
joined_type nil_type (record_type at) = record_type at
joined_type a b = a

abbrev pub are_nil : Ty → Ty → Bool
are_nil nil_type nil_type = true
are_nil _ _ = false

-- ints and strings have an order
abbrev pub has_order : Ty → Bool
has_order int_type = true
has_order string_type = true
has_order _ = false
