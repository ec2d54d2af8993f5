-- The opposite of a comparison holds where it doesn't.
use Rattle.std.proofs.Common.{◌≡◌, ℕ, Bool, true, false, refl}
use Rattle.std.specs.Prelude.{not}
use Rattle.tg_tree.specs.declared.operators.Rel.{Rel}
use Rattle.tg_tree.specs.declared.operators.Rel.TheVariants.{Equal, NotEqual, Less, LessEqual, Greater, GreaterEqual, Below, NotBelow}
use Rattle.tg_tree.specs.Operators.{holds, opposite}

not_not : (b : Bool) → b ≡ not (not b)
not_not true = refl
not_not false = refl

pub opposite_holds : (rel : Rel) (u v : ℕ) → holds (opposite rel) u v ≡ not (holds rel u v)
opposite_holds Equal u v = refl
opposite_holds NotEqual u v = not_not (holds Equal u v)
opposite_holds Less u v = refl
opposite_holds LessEqual u v = not_not (holds Greater u v)
opposite_holds Greater u v = refl
opposite_holds GreaterEqual u v = not_not (holds Less u v)
opposite_holds Below u v = refl
opposite_holds NotBelow u v = not_not (holds Below u v)
