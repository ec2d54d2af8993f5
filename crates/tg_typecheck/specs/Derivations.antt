-- What is known of a program that was accepted, by the relation of typed parts.
use Rattle.std.specs.Prelude.{◌≡◌, ℕ, List, None}
use Rattle.tg_syntax.specs.Tree.{Exp}
use Rattle.tg_typecheck.specs.declared.notes.Note.{Note}
use Rattle.tg_typecheck.specs.Types.{Ty, Shape}
use Rattle.tg_typecheck.specs.Scopes.{outermost_scope}
use Rattle.tg_typecheck.specs.Limits.{limit_fault}
use Rattle.tg_typecheck.specs.Has.{AreApart, ShapesHaveValues, Has}

-- the body has a type in the outermost scope, where these are all shapes of the program, whose
-- fields and elements have values, and its notes, and no limit is exceeded
pub record Derivation (names : List (List ℕ)) (body : Exp) (notes : List Note) : Type 0 where
  pub shapes : List (ℕ × Shape)
  pub apart : AreApart shapes
  pub formed : ShapesHaveValues shapes
  pub type : Ty
  pub has : Has shapes notes body (outermost_scope names) type
  pub limits : limit_fault body ≡ None
