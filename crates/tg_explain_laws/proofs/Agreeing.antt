-- What a name means to typing it means among the facts: for names that stand in a region of the
-- text, where no later fact is seen.
use Rattle.std.specs.Prelude.{ℕ, zero, suc, ◌≡◌, ◌<◌, ◌≤◌, List, [], ◌∷◌, length, Option, Some}
use Rattle.std.specs.Prelude.{None, Bool, false, ◌⊎◌}
use Rattle.std.specs.List.{slice_get}
use Rattle.tg_syntax.specs.declared.tokens.Ident.{Ident}
use Rattle.tg_symbols.specs.Tables.{looked_up}
use Rattle.tg_semantics.specs.declared.standards.Standard.{Standard}
use Rattle.tg_semantics.specs.Environments.{name_of}
use Rattle.tg_typecheck.specs.Types as typing
use Rattle.tg_typecheck.specs.Checks.{Noted}
use Rattle.tg_typecheck.specs.Scopes.{Signature, variable_at, function_at, standard_one, Scope}
use Rattle.tg_typecheck.specs.Scopes.{bound, signature}
use Rattle.tg_explain_typing.specs.declared.types.Ty.{Ty}
use Rattle.tg_explain_typing.specs.declared.types.Ty.TheVariants as type
use Rattle.tg_explain_typing.specs.declared.facts.Meaning.{Meaning}
use Rattle.tg_explain_typing.specs.declared.facts.Meaning.TheVariants as meaning
use Rattle.tg_explain_typing.specs.declared.facts.Fact.{Fact}
use Rattle.tg_explain_typing.specs.declared.facts.Fact.TheVariants as fact
use Rattle.tg_explain_typing.specs.Standards.{outermost_type}
use Rattle.tg_explain_typing.specs.Lookups.{spelled, covers, variable_type, result_type, param_type}
use Rattle.tg_explain_typing.specs.Lookups.{meaning_of, field_kind, element_kind}
use Rattle.tg_explain_types.specs.laws.Types.{told_type}

-- ---- where facts are seen

-- each declaration among facts is seen from a byte on, and not before it
abbrev pub SeenFrom : (from : ℕ) → List Fact → Type 0
SeenFrom from [] = Unit {0}
SeenFrom from (fact.Variable _ _ seen ∷ facts) = (from ≤ seen.from) × SeenFrom from facts
SeenFrom from (fact.Function _ _ seen ∷ facts) = (from ≤ seen.from) × SeenFrom from facts
SeenFrom from (fact.Param _ _ _ seen ∷ facts) = (from ≤ seen.from) × SeenFrom from facts
SeenFrom from (fact.TypeName _ _ seen ∷ facts) = (from ≤ seen.from) × SeenFrom from facts
SeenFrom from (_ ∷ facts) = SeenFrom from facts

-- none is seen at a byte
abbrev pub Misses : (at : ℕ) → List Fact → Type 0
Misses at [] = Unit {0}
Misses at (fact.Variable _ _ seen ∷ facts) = (covers seen at ≡ false) × Misses at facts
Misses at (fact.Function _ _ seen ∷ facts) = (covers seen at ≡ false) × Misses at facts
Misses at (fact.Param _ _ _ seen ∷ facts) = (covers seen at ≡ false) × Misses at facts
Misses at (fact.TypeName _ _ seen ∷ facts) = (covers seen at ≡ false) × Misses at facts
Misses at (_ ∷ facts) = Misses at facts

-- none is seen in a region
abbrev pub MissesAll : (from to : ℕ) → List Fact → Type 0
MissesAll from to facts = (at : ℕ) → from ≤ at → at < to → Misses at facts

-- the records and arrays whose fields and elements are told are declared before a byte
abbrev pub OwnersBefore : (at : ℕ) → List Fact → Type 0
OwnersBefore at [] = Unit {0}
OwnersBefore at (fact.Field owner _ ∷ facts) = (owner < at) × OwnersBefore at facts
OwnersBefore at (fact.Element owner _ ∷ facts) = (owner < at) × OwnersBefore at facts
OwnersBefore at (_ ∷ facts) = OwnersBefore at facts

-- ---- names

-- the text has a name's own bytes where it stands
abbrev pub Spelled : (names : List (List ℕ)) → (text : List ℕ) → Ident → Type 0
Spelled names text x = slice_get names (name_of x) ≡ Some (spelled text x.span)

-- a name that stands in a region
pub record Stands (names : List (List ℕ)) (text : List ℕ) (from to : ℕ) (x : Ident) : Type 0 where
  pub is_spelled : Spelled names text x
  pub after : from ≤ x.span.from
  pub before : x.span.from < to

-- what a type's name means where it stands
abbrev pub meaning_at : (text : List ℕ) → List Fact → Ident → Meaning
meaning_at text facts x = meaning_of x facts (meaning.Known (outermost_type (spelled text x.span)))

-- a type's name leads to a type over so many others at most, each of which stands before a byte
abbrev pub Leads :
    (text : List ℕ) → List Fact → (before : ℕ) → (most : ℕ) → Ident → Ty → Type 0
Leads text facts before zero x t =
    (meaning_at text facts x ≡ meaning.Known t) × (outermost_type (spelled text x.span) ≡ t)
Leads text facts before (suc most) x t =
    (meaning_at text facts x ≡ meaning.Known t)
    ⊎ ((y : Ident) × (meaning_at text facts x ≡ meaning.Alias y) × (y.span.from < before)
    × Leads text facts before most y t)

-- ---- what names mean

-- the types of parameters from one on
abbrev pub ParamsAgree :
    (text : List ℕ) → List Fact → Ident → (index : ℕ) → List typing.Ty → Type 0
ParamsAgree text facts f index [] = Unit {0}
ParamsAgree text facts f index (t ∷ ts) =
    (param_type text facts f index ≡ told_type t) × ParamsAgree text facts f (suc index) ts

pub record CallsAgree (text : List ℕ) (facts : List Fact) (f : Ident) (s : Signature) : Type 0
  where
    pub result : result_type text facts f ≡ told_type s.result
    pub params : ParamsAgree text facts f 0 s.params

-- the name of a type that is told stands before a byte
abbrev pub KindAgrees :
    (text : List ℕ) → List Fact → (before : ℕ) → Option Ident → typing.Ty → Type 0
KindAgrees text facts before None t = ⊥
KindAgrees text facts before (Some x) t =
    (x.span.from < before) × Leads text facts before (length facts) x (told_type t)

abbrev pub FieldsAgree :
    (text : List ℕ) → List Fact → (before owner : ℕ) → List (ℕ × typing.Ty) → Type 0
FieldsAgree text facts before owner [] = Unit {0}
FieldsAgree text facts before owner (field ∷ fields) =
    ((f : Ident) → name_of f ≡ field.0 →
    KindAgrees text facts before (field_kind owner f facts) field.1)
    × FieldsAgree text facts before owner fields

-- names that stand in a region
pub record NamesAgree
    (names : List (List ℕ)) (text : List ℕ) (from to : ℕ) (facts : List Fact) (scope : Scope) :
    Type 0 where
  pub variables :
      (x : Ident) → Stands names text from to x → (at : ℕ) (t : typing.Ty) (loop : Bool) →
      bound x scope ≡ Some (variable_at at t loop) →
      variable_type x facts type.Nothing ≡ told_type t
  pub functions :
      (f : Ident) → Stands names text from to f → (at : ℕ) (s : Signature) →
      bound f scope ≡ Some (function_at at s) → CallsAgree text facts f s
  pub standards :
      (f : Ident) → Stands names text from to f → (g : Standard) →
      bound f scope ≡ Some (standard_one g) → CallsAgree text facts f (signature g)
  pub types :
      (x : Ident) → Stands names text from to x → (t : typing.Ty) →
      looked_up (name_of x) scope.types ≡ Some t →
      Leads text facts from (length facts) x (told_type t)

-- records and arrays that are declared before a byte
pub record ShapesAgree (text : List ℕ) (before : ℕ) (facts : List Fact) (noted : Noted) : Type 0
  where
    pub records :
        (at : ℕ) (fields : List (ℕ × typing.Ty)) →
        looked_up at noted.shapes ≡ Some (typing.record_shape fields) →
        FieldsAgree text facts before at fields
    pub arrays :
        (at : ℕ) (t : typing.Ty) → looked_up at noted.shapes ≡ Some (typing.array_shape t) →
        KindAgrees text facts before (element_kind at facts) t
    pub owners : OwnersBefore before facts

pub record Agrees
    (names : List (List ℕ)) (text : List ℕ) (from to : ℕ) (facts : List Fact) (scope : Scope)
    (noted : Noted) : Type 0 where
  pub named : NamesAgree names text from to facts scope
  pub shaped : ShapesAgree text from facts noted
