-- What names mean among facts: of those that are seen at a name's place, the last one is the
-- innermost.
use Rattle.std.specs.Prelude.{ℕ, zero, suc, ◌-◌, ◌==◌, ◌&&◌, List, [], ◌∷◌, length, take, drop}
use Rattle.std.specs.Prelude.{Option, Some, None, Bool, nat_le, nat_lt, if◌then◌else◌}
use Rattle.tg_base.specs.declared.ids.Span.{Span}
use Rattle.tg_syntax.specs.declared.tokens.Ident.{Ident}
use Rattle.tg_explain_typing.specs.declared.types.Ty.{Ty}
use Rattle.tg_explain_typing.specs.declared.types.Ty.TheVariants.{Nothing, Record, Array}
use Rattle.tg_explain_typing.specs.declared.facts.Meaning.{Meaning}
use Rattle.tg_explain_typing.specs.declared.facts.Meaning.TheVariants as meaning
use Rattle.tg_explain_typing.specs.declared.facts.Fact.{Fact}
use Rattle.tg_explain_typing.specs.declared.facts.Fact.TheVariants as fact
use Rattle.tg_explain_typing.specs.Standards.{outermost_type, standard_result, standard_param}

-- the bytes of a text in a span
abbrev pub spelled : (text : List ℕ) → Span → List ℕ
spelled text s = take (s.to - s.from) (drop s.from text)

abbrev pub covers : Span → (at : ℕ) → Bool
covers s at = nat_le s.from at && nat_lt at s.to

-- a name stands where a declaration of it is seen
abbrev pub sees : (declared : Ident) → (seen : Span) → (used : Ident) → Bool
sees declared seen used = declared.name.0 == used.name.0 && covers seen used.span.from

abbrev pub variable_type : Ident → List Fact → (outer : Ty) → Ty
variable_type x [] outer = outer
variable_type x (fact.Variable y t seen ∷ facts) outer =
    variable_type x facts (if sees y seen x then t else outer)
variable_type x (_ ∷ facts) outer = variable_type x facts outer

abbrev pub function_type : Ident → List Fact → (outer : Ty) → Ty
function_type f [] outer = outer
function_type f (fact.Function g t seen ∷ facts) outer =
    function_type f facts (if sees g seen f then t else outer)
function_type f (_ ∷ facts) outer = function_type f facts outer

-- the type of what a call gives
abbrev pub result_type : (text : List ℕ) → List Fact → Ident → Ty
result_type text facts f = function_type f facts (standard_result (spelled text f.span))

abbrev pub declared_param : Ident → (index : ℕ) → List Fact → (outer : Ty) → Ty
declared_param f index [] outer = outer
declared_param f index (fact.Param g i t seen ∷ facts) outer =
    declared_param f index facts (if i == index && sees g seen f then t else outer)
declared_param f index (_ ∷ facts) outer = declared_param f index facts outer

-- the type of a function's parameter, by its place
abbrev pub param_type : (text : List ℕ) → List Fact → Ident → (index : ℕ) → Ty
param_type text facts f index =
    declared_param f index facts (standard_param (spelled text f.span) index)

abbrev pub meaning_of : Ident → List Fact → (outer : Meaning) → Meaning
meaning_of x [] outer = outer
meaning_of x (fact.TypeName y m seen ∷ facts) outer =
    meaning_of x facts (if sees y seen x then m else outer)
meaning_of x (_ ∷ facts) outer = meaning_of x facts outer

-- from one name to the next, so many at most
abbrev pub followed : (text : List ℕ) → List Fact → (most : ℕ) → Ident → Ty
followed text facts zero x = outermost_type (spelled text x.span)
followed text facts (suc most) x =
    elim (meaning_of x facts (meaning.Known (outermost_type (spelled text x.span)))) [
      | meaning.Alias y ↦ followed text facts most y
      | meaning.Known t ↦ t
    ]

-- the type that a name means: as many names may lead to it as there are facts
abbrev pub named_type : (text : List ℕ) → List Fact → Ident → Ty
named_type text facts x = followed text facts (length facts) x

abbrev pub kind_type : (text : List ℕ) → List Fact → Option Ident → Ty
kind_type text facts None = Nothing
kind_type text facts (Some x) = named_type text facts x

abbrev pub field_kind : (owner : ℕ) → Ident → List Fact → Option Ident
field_kind owner f [] = None
field_kind owner f (fact.Field at p ∷ facts) =
    if at == owner && p.name.name.0 == f.name.0 then Some p.kind else field_kind owner f facts
field_kind owner f (_ ∷ facts) = field_kind owner f facts

abbrev pub field_type : (text : List ℕ) → List Fact → Ty → Ident → Ty
field_type text facts (Record at) f = kind_type text facts (field_kind at f facts)
field_type text facts _ f = Nothing

abbrev pub element_kind : (owner : ℕ) → List Fact → Option Ident
element_kind owner [] = None
element_kind owner (fact.Element at kind ∷ facts) =
    if at == owner then Some kind else element_kind owner facts
element_kind owner (_ ∷ facts) = element_kind owner facts

abbrev pub element_type : (text : List ℕ) → List Fact → Ty → Ty
element_type text facts (Array at) = kind_type text facts (element_kind at facts)
element_type text facts _ = Nothing
