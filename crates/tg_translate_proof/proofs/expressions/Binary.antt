-- Every binary operator, from what is shown of its sides.
use Rattle.std.proofs.Common.{◌≡◌, ℕ, List, true, refl}
use Rattle.tg_base.specs.declared.ids.Span.{Span}
use Rattle.tg_syntax.specs.declared.trees.Op.{Op}
use Rattle.tg_syntax.specs.declared.trees.Op.TheVariants as op
use Rattle.tg_syntax.specs.Tree.{Exp, Binary}
use Rattle.tg_typecheck.specs.declared.notes.Note.{Note}
use Rattle.tg_typecheck.specs.declared.notes.Means.{Means}
use Rattle.tg_typecheck.specs.declared.notes.Means.TheVariants as means
use Rattle.tg_typecheck.specs.Types.{Ty, int_type, string_type}
use Rattle.tg_typecheck.specs.Scopes.{Scope}
use Rattle.tg_typecheck.specs.Has as has
use Rattle.tg_typecheck.specs.Has.{Has, Says, SaysOf, Compares, Identifies, Alike}
use Rattle.tg_translate_proof.specs.glue.Situations.{Program, Setting}
use Rattle.tg_translate_proof.specs.glue.Shown.{Shown, Situation, IsShown}
use Rattle.tg_translate_proof.proofs.invariant.Parts.{StatesGrow, Piece}
use Rattle.tg_translate_proof.proofs.expressions.BinarySides.{may_left, may_right}
use Rattle.tg_translate_proof.proofs.expressions.BinaryPlusMinus.{plus_shown, minus_shown}
use Rattle.tg_translate_proof.proofs.expressions.BinaryTimes.{times_shown}
use Rattle.tg_translate_proof.proofs.expressions.BinaryDivide.{divide_shown}
use Rattle.tg_translate_proof.proofs.expressions.BinaryIntComparisons.{equal_shown, not_equal_shown, less_shown, less_equal_shown, greater_shown}
use Rattle.tg_translate_proof.proofs.expressions.BinaryIntComparisons.{greater_equal_shown}
use Rattle.tg_translate_proof.proofs.expressions.BinaryAndOr.{and_shown, or_shown}
use Rattle.tg_translate_proof.proofs.expressions.BinaryIdentities.{same_shown}
use Rattle.tg_translate_proof.proofs.expressions.BinaryStringComparisons.{strings_shown}
use Rattle.tg_translate_proof.proofs.expressions.StandardFunctions.{Owns}

-- what is noted at an operator that compares
compares_says : (notes : List Note) (at : ℕ) (m : Means) (o : Op) → Compares o → SaysOf notes o at m → Says notes at m
compares_says notes at m op.Plus comp says = let e = (comp true true true).1 in cc
compares_says notes at m op.Minus comp says = let e = (comp true true true).1 in cc
compares_says notes at m op.Times comp says = let e = (comp true true true).1 in cc
compares_says notes at m op.Divide comp says = let e = (comp true true true).1 in cc
compares_says notes at m op.Equal comp says = says
compares_says notes at m op.NotEqual comp says = says
compares_says notes at m op.Less comp says = says
compares_says notes at m op.LessEqual comp says = says
compares_says notes at m op.Greater comp says = says
compares_says notes at m op.GreaterEqual comp says = says
compares_says notes at m op.And comp says = let e = (comp true true true).1 in cc
compares_says notes at m op.Or comp says = let e = (comp true true true).1 in cc

identifies_says : (notes : List Note) (at : ℕ) (m : Means) (o : Op) → Identifies o → SaysOf notes o at m → Says notes at m
identifies_says notes at m op.Plus same says = let e = (same true).1 in cc
identifies_says notes at m op.Minus same says = let e = (same true).1 in cc
identifies_says notes at m op.Times same says = let e = (same true).1 in cc
identifies_says notes at m op.Divide same says = let e = (same true).1 in cc
identifies_says notes at m op.Equal same says = says
identifies_says notes at m op.NotEqual same says = says
identifies_says notes at m op.Less same says = says
identifies_says notes at m op.LessEqual same says = says
identifies_says notes at m op.Greater same says = says
identifies_says notes at m op.GreaterEqual same says = says
identifies_says notes at m op.And same says = let e = (same true).1 in cc
identifies_says notes at m op.Or same says = let e = (same true).1 in cc

module _ (P : Program) where
  -- what the types of both sides may be
  data BinaryTyped (o : Op) (at : ℕ) (a b : Exp) (scope : Scope) (ty : Ty) : Type 0 where
    of_ints :
        SaysOf P.notes o at means.Number → Has P.shapes P.notes a scope int_type → Has P.shapes P.notes b scope int_type → ty ≡ int_type →
        BinaryTyped o at a b scope ty
    of_strings :
        Compares o → SaysOf P.notes o at means.Content → Has P.shapes P.notes a scope string_type → Has P.shapes P.notes b scope string_type →
        ty ≡ int_type → BinaryTyped o at a b scope ty
    of_same :
        (t u : Ty) → Identifies o → Alike t u → SaysOf P.notes o at means.Number → Has P.shapes P.notes a scope t →
        Has P.shapes P.notes b scope u → ty ≡ int_type → BinaryTyped o at a b scope ty

  binary_typed : (sp : Span) (o : Op) (at : ℕ) (a b : Exp) (scope : Scope) (ty : Ty) → Has P.shapes P.notes (Binary sp o at a b) scope ty →
      BinaryTyped o at a b scope ty
  binary_typed sp o at a b scope _ (has.ints says ta tb) = of_ints says ta tb refl
  binary_typed sp o at a b scope _ (has.strings comp says ta tb) = of_strings comp says ta tb refl
  binary_typed sp o at a b scope _ (has.same {t = t} {u = u} ident alike says ta tb) = of_same t u ident alike says ta tb refl

module _ (P : Program) (set : Setting P) (grow : StatesGrow P) (owns : Owns P) (n : ℕ) (sp : Span) (at : ℕ) (a b : Exp) (show_a : Shown P n a) (show_b : Shown P n b) where
  -- of ints
  ints_shown : (o : Op) (x : Situation P n (Binary sp o at a b)) → SaysOf P.notes o at means.Number → x.ty ≡ int_type → Has P.shapes P.notes a x.p.scope int_type →
      Has P.shapes P.notes b x.p.scope int_type → IsShown P n (Binary sp o at a b) x
  ints_shown op.Plus x says is ta tb = plus_shown P set grow n sp at a b show_a show_b x is ta tb
  ints_shown op.Minus x says is ta tb = minus_shown P set grow n sp at a b show_a show_b x is ta tb
  ints_shown op.Times x says is ta tb = times_shown P set grow n sp at a b show_a show_b x is ta tb
  ints_shown op.Divide x says is ta tb = divide_shown P set grow n sp at a b show_a show_b x is ta tb
  ints_shown op.Equal x says is ta tb = equal_shown P set grow n sp at a b show_a show_b says x is ta tb
  ints_shown op.NotEqual x says is ta tb = not_equal_shown P set grow n sp at a b show_a show_b says x is ta tb
  ints_shown op.Less x says is ta tb = less_shown P set grow n sp at a b show_a show_b says x is ta tb
  ints_shown op.LessEqual x says is ta tb = less_equal_shown P set grow n sp at a b show_a show_b says x is ta tb
  ints_shown op.Greater x says is ta tb = greater_shown P set grow n sp at a b show_a show_b says x is ta tb
  ints_shown op.GreaterEqual x says is ta tb = greater_equal_shown P set grow n sp at a b show_a show_b says x is ta tb
  ints_shown op.And x says is ta tb = and_shown P set grow n sp at a b show_a show_b x is ta tb
  ints_shown op.Or x says is ta tb = or_shown P set grow n sp at a b show_a show_b x is ta tb

  left_piece : (o : Op) (x : Situation P n (Binary sp o at a b)) (t : Ty) → Has P.shapes P.notes a x.p.scope t → Piece P set grow n (Binary sp o at a b) x a t
  left_piece o x t typed =
      record { shown = show_a; typed = typed; words = x.words.0; covers = x.covers.0; may_assign = may_left P x.p sp o at a b x.may_assign }

  right_piece : (o : Op) (x : Situation P n (Binary sp o at a b)) (t : Ty) → Has P.shapes P.notes b x.p.scope t → Piece P set grow n (Binary sp o at a b) x b t
  right_piece o x t typed =
      record { shown = show_b; typed = typed; words = x.words.1; covers = x.covers.1; may_assign = may_right P x.p sp o at a b x.may_assign }

  by_types : (o : Op) (x : Situation P n (Binary sp o at a b)) → BinaryTyped P o at a b x.p.scope x.ty → IsShown P n (Binary sp o at a b) x
  by_types o x (of_ints says ta tb is) = ints_shown o x says is ta tb
  by_types o x (of_strings comp says ta tb is) =
      strings_shown P set grow owns n sp o comp at a b (compares_says P.notes at means.Content o comp says) x is (left_piece o x string_type ta) (right_piece o x string_type tb)
  by_types o x (of_same t u ident alike says ta tb is) =
      same_shown P set grow n sp o ident at a b (identifies_says P.notes at means.Number o ident says) x is t u alike (left_piece o x t ta) (right_piece o x u tb)

  pub binary_shown : (o : Op) → Shown P n (Binary sp o at a b)
  binary_shown o x = by_types o x (binary_typed P sp o at a b x.p.scope x.ty x.typed)
