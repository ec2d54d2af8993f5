-- Types as explanations tell them, and when they go together (Appel, appendix A.1).
use Rattle.std.specs.Prelude.{◌==◌, ◌||◌, Bool, true, false}
use Rattle.tg_explain_typing.specs.declared.types.Ty.{Ty}
use Rattle.tg_explain_typing.specs.declared.types.Ty.TheVariants.{Int, Text, Nil, Nothing}
use Rattle.tg_explain_typing.specs.declared.types.Ty.TheVariants.{Record, Array}

abbrev pub same : (one other : Ty) → Bool
same Int Int = true
same Text Text = true
same Nil Nil = true
same Nothing Nothing = true
same (Record a) (Record b) = a == b
same (Array a) (Array b) = a == b
same _ _ = false

abbrev pub is_nil_for : (one other : Ty) → Bool
is_nil_for Nil (Record _) = true
is_nil_for _ _ = false

-- a type fits another where it is that, or where it is nil and the other a record
abbrev pub fits : (got wanted : Ty) → Bool
fits got wanted = same got wanted || is_nil_for got wanted

-- both are equal, or one is nil and the other a record
abbrev pub alike : (one other : Ty) → Bool
alike one other = same one other || is_nil_for one other || is_nil_for other one

-- of two that are alike: the record where one is nil
abbrev pub joined : (one other : Ty) → Ty
joined Nil (Record at) = Record at
joined one other = one

-- ints and strings have an order
abbrev pub has_order : Ty → Bool
has_order Int = true
has_order Text = true
has_order _ = false
