-- The code's shapes of types as those of the definition.
use Rattle.std.specs.Prelude.{ℕ, List, Option, Some, None}
use Rattle.tg_typecheck.specs.declared.shapes.Form.{Form}
use Rattle.tg_typecheck.specs.declared.shapes.Form.TheVariants.{Fields, Elements}
use Rattle.tg_typecheck.specs.Types.{Ty, Shape, record_shape, array_shape}

abbrev pub shape_of : Form → Shape
shape_of (Fields fields) = record_shape fields
shape_of (Elements t) = array_shape t

abbrev pub fields_in_shape : Shape → Option (List (ℕ × Ty))
fields_in_shape (record_shape fields) = Some fields
fields_in_shape (array_shape t) = None

abbrev pub element_in_shape : Shape → Option Ty
element_in_shape (record_shape fields) = None
element_in_shape (array_shape t) = Some t
