-- The types that explanations tell are those of typing, and so are the tests on them.
use Rattle.std.specs.Prelude.{◌≡◌, ℕ, zero, suc, List, [], ◌∷◌, length, map}
use Rattle.tg_semantics.specs.declared.standards.Standard.{Standard}
use Rattle.tg_semantics.specs.Environments.{standard_text}
use Rattle.tg_typecheck.specs.Types as typing
use Rattle.tg_typecheck.specs.Scopes.{signature}
use Rattle.tg_explain_typing.specs.declared.types.Ty.{Ty}
use Rattle.tg_explain_typing.specs.declared.types.Ty.TheVariants as type
use Rattle.tg_explain_typing.specs.Types.{fits, alike, joined, has_order}
use Rattle.tg_explain_typing.specs.Standards.{standard_result, standard_param}

abbrev pub told_type : typing.Ty → Ty
told_type typing.int_type = type.Int
told_type typing.string_type = type.Text
told_type typing.nil_type = type.Nil
told_type typing.none_type = type.Nothing
told_type (typing.record_type at) = type.Record at
told_type (typing.array_type at) = type.Array at

pub record TestsAgree (one other : typing.Ty) : Type 0 where
  pub fits : fits (told_type one) (told_type other) ≡ typing.fits one other
  pub alike : alike (told_type one) (told_type other) ≡ typing.alike one other
  pub joined : joined (told_type one) (told_type other) ≡ told_type (typing.joined_type one other)
  pub order : has_order (told_type one) ≡ typing.has_order one

-- the types of so many parameters from one on
abbrev pub params_from : (word : List ℕ) → (index count : ℕ) → List Ty
params_from word index zero = []
params_from word index (suc count) =
    standard_param word index ∷ params_from word (suc index) count

pub record StandardAgrees (f : Standard) : Type 0 where
  pub result : standard_result (standard_text f) ≡ told_type (signature f).result
  pub params :
      params_from (standard_text f) 0 (length (signature f).params)
      ≡ map told_type (signature f).params

abbrev pub TypesAreTold : Type 0
TypesAreTold =
    ((one other : typing.Ty) → TestsAgree one other) × ((f : Standard) → StandardAgrees f)
