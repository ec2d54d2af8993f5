-- A variable and a parameter of no type have no derivation: `let var x := () in end`, and a function whose one parameter is so;
-- nor has a function that names no result, but whose result is an int.
use Rattle.std.proofs.Common.{◌≡◌, ℕ, List, [], ◌∷◌, Option, None, refl}
use Rattle.tg_base.specs.declared.ids.Span.{Span}
use Rattle.tg_syntax.specs.declared.tokens.Ident.{Ident}
use Rattle.tg_syntax.specs.declared.trees.Param.{Param}
use Rattle.tg_syntax.specs.Tree.{Exp, Seq, no_exps, variable, no_decs, no_functions, function}
use Rattle.tg_typecheck.specs.declared.notes.Note.{Note}
use Rattle.tg_typecheck.specs.Types.{Ty, Shape, int_type, none_type}
use Rattle.tg_typecheck.specs.Scopes.{Signature, Scope}
use Rattle.tg_typecheck.specs.Has.{HasDecs, HasBodies, variables, seq, end_lasts, end_decs, the_same, a_body, end_bodies}

module _ (shapes : List (ℕ × Shape)) (notes : List Note) where
  no_variable : {x : Ident} {s : Span} {scope inner : Scope} → HasDecs shapes notes (variable x None (Seq s no_exps) no_decs) scope inner → ⊥
  no_variable (variables t u v (seq end_lasts) the_same end_decs) = v refl

  no_parameter : {f : Ident} {p : Param} {body : Exp} {result : Ty} {scope : Scope} →
      HasBodies shapes notes (function f (p ∷ []) None body no_functions) (record { params = none_type ∷ []; result = result } ∷ []) scope → ⊥
  no_parameter (a_body u n v b h fit end_bodies) = v.0 refl

  no_result_without_a_type : {f : Ident} {body : Exp} {scope : Scope} →
      HasBodies shapes notes (function f [] None body no_functions) (record { params = []; result = int_type } ∷ []) scope → ⊥
  no_result_without_a_type (a_body u n v b h fit end_bodies) = let same : int_type ≡ none_type = b in absurd (cc)
