-- The code's types as those of the definition.
use Rattle.std.specs.Prelude.{◌≡◌, ℕ, Option, Some, None}
use Rattle.std.proofs.Common.{refl, ap}
use Rattle.tg_typecheck.specs.declared.kinds.Kind.{Kind}
use Rattle.tg_typecheck.specs.declared.kinds.Kind.TheVariants.{Int, Text, Nil, Nothing, Record}
use Rattle.tg_typecheck.specs.declared.kinds.Kind.TheVariants.{Array}
use Rattle.tg_typecheck.specs.declared.kinds.Ty.TheInside.{Inside}
use Rattle.tg_typecheck.specs.Types.{Ty, int_type, string_type, nil_type, none_type, record_type}
use Rattle.tg_typecheck.specs.Types.{array_type}

abbrev pub type_of : Kind → Ty
type_of Int = int_type
type_of Text = string_type
type_of Nil = nil_type
type_of Nothing = none_type
type_of (Record at) = record_type at
type_of (Array at) = array_type at

abbrev pub kind_of : Ty → Kind
kind_of int_type = Int
kind_of string_type = Text
kind_of nil_type = Nil
kind_of none_type = Nothing
kind_of (record_type at) = Record at
kind_of (array_type at) = Array at

kind_of_its_type : (k : Kind) → kind_of (type_of k) ≡ k
kind_of_its_type Int = refl
kind_of_its_type Text = refl
kind_of_its_type Nil = refl
kind_of_its_type Nothing = refl
kind_of_its_type (Record at) = refl
kind_of_its_type (Array at) = refl

pub kind_of_type : (a : Inside) → record { kind = kind_of (type_of a.kind) } ≡ a
kind_of_type a = ap (λ k. record { kind = k }) (kind_of_its_type a.kind)

-- the byte of a record type's declaration
abbrev pub record_byte : Ty → Option ℕ
record_byte (record_type at) = Some at
record_byte _ = None

abbrev pub array_byte : Ty → Option ℕ
array_byte (array_type at) = Some at
array_byte _ = None
