-- What a fault is about, among the facts of its program.
use Rattle.std.specs.Prelude.{ℕ, ◌==◌, ◌&&◌, not, List, [], ◌∷◌, ◌++◌, Option, Some, None, Bool}
use Rattle.std.specs.Prelude.{true, false, if◌then◌else◌}
use Rattle.tg_syntax.specs.declared.tokens.Ident.{Ident}
use Rattle.tg_explain_typing.specs.declared.types.Ty.{Ty}
use Rattle.tg_explain_typing.specs.declared.types.Ty.TheVariants as type
use Rattle.tg_explain_typing.specs.declared.facts.Demand.{Demand}
use Rattle.tg_explain_typing.specs.declared.facts.Demand.TheVariants.{Fits, Valueless, Ordered}
use Rattle.tg_explain_typing.specs.declared.facts.Demand.TheVariants.{Valued, Like, Joins, Own}
use Rattle.tg_explain_typing.specs.declared.facts.Demand.TheVariants.{BesideNil, Fielded, Made}
use Rattle.tg_explain_typing.specs.declared.facts.Demand.TheVariants.{Indexed, Has}
use Rattle.tg_explain_typing.specs.declared.facts.Fact.{Fact}
use Rattle.tg_explain_typing.specs.declared.facts.Fact.TheVariants as fact
use Rattle.tg_explain_typing.specs.declared.finding.Breach.{Breach}
use Rattle.tg_explain_typing.specs.declared.finding.Breach.TheVariants.{Mismatch, NoRecord, NoArray}
use Rattle.tg_explain_typing.specs.declared.finding.Breach.TheVariants.{NoValue, BareNil}
use Rattle.tg_explain_typing.specs.declared.finding.Judgement.{Judgement}
use Rattle.tg_explain_typing.specs.declared.finding.Declared.{Declared}
use Rattle.tg_explain_typing.specs.declared.finding.Difference.{Difference}
use Rattle.tg_explain_typing.specs.Types.{same, fits, alike, has_order}
use Rattle.tg_explain_typing.specs.Lookups.{covers}

abbrev pub is_record : Ty → Bool
is_record (type.Record _) = true
is_record _ = false

abbrev pub is_array : Ty → Bool
is_array (type.Array _) = true
is_array _ = false

-- a type breaks so what is asked of it
abbrev pub breaks : Breach → Demand → (got : Ty) → Bool
breaks Mismatch (Fits wanted) got = not (fits got wanted)
breaks Mismatch Valueless got = not (same got type.Nothing)
breaks Mismatch Ordered got = not (has_order got)
breaks Mismatch (Like other) got = not (alike other got)
breaks Mismatch (Joins other) got = not (alike other got)
breaks NoRecord Fielded got = not (is_record got)
breaks NoRecord Made got = not (is_record got)
breaks NoArray Indexed got = not (is_array got)
breaks NoValue (Fits _) got = same got type.Nothing
breaks NoValue Ordered got = same got type.Nothing
breaks NoValue Valued got = same got type.Nothing
breaks NoValue (Like _) got = same got type.Nothing
breaks NoValue (Own _) got = same got type.Nothing
breaks BareNil (Own _) got = same got type.Nil
breaks BareNil (BesideNil other) got = same other type.Nil && same got type.Nil
breaks _ _ got = false

abbrev pub first_broken : Breach → List Fact → Option Judgement
first_broken breach [] = None
first_broken breach (fact.Judged demand got ∷ facts) =
    if breaks breach demand got then Some (record { demand = demand; got = got })
    else first_broken breach facts
first_broken breach (_ ∷ facts) = first_broken breach facts

abbrev pub asks_for_fields : Demand → Bool
asks_for_fields Made = true
asks_for_fields (Has _) = true
asks_for_fields _ = false

-- the type of the record that is made, or of which a field is read
abbrev pub judged_record : List Fact → Option Ty
judged_record [] = None
judged_record (fact.Judged demand got ∷ facts) =
    if asks_for_fields demand then Some got else judged_record facts
judged_record (_ ∷ facts) = judged_record facts

-- the fields of the record that is declared at a byte, behind those before
abbrev pub field_names : (owner : ℕ) → List Fact → (before : List Ident) → List Ident
field_names owner [] before = before
field_names owner (fact.Field at p ∷ facts) before =
    field_names owner facts (if at == owner then before ++ p.name ∷ [] else before)
field_names owner (_ ∷ facts) before = field_names owner facts before

-- the fields that are given where a record is made at a byte, behind those before
abbrev pub given_names : (at : ℕ) → List Fact → (before : List Ident) → List Ident
given_names at [] before = before
given_names at (fact.Given start f ∷ facts) before =
    given_names at facts (if start == at then before ++ f ∷ [] else before)
given_names at (_ ∷ facts) before = given_names at facts before

-- the first place where two lists of names differ
abbrev pub first_difference : (wanted given : List Ident) → Difference
first_difference [] [] = record { wanted = None; given = None }
first_difference [] (more ∷ _) = record { wanted = None; given = Some more }
first_difference (missing ∷ _) [] = record { wanted = Some missing; given = None }
first_difference (one ∷ wanted) (other ∷ given) =
    if one.name.0 == other.name.0 then first_difference wanted given
    else record { wanted = Some one; given = Some other }

-- the innermost function whose body covers a byte
abbrev pub function_around : (at : ℕ) → List Fact → (outer : Option Ident) → Option Ident
function_around at [] outer = outer
function_around at (fact.Body f body ∷ facts) outer =
    function_around at facts (if covers body at then Some f else outer)
function_around at (_ ∷ facts) outer = function_around at facts outer

-- where the innermost loop begins whose body covers a byte
abbrev pub loop_around : (at : ℕ) → List Fact → (outer : Option ℕ) → Option ℕ
loop_around at [] outer = outer
loop_around at (fact.Loop from body ∷ facts) outer =
    loop_around at facts (if covers body at then Some from else outer)
loop_around at (_ ∷ facts) outer = loop_around at facts outer

-- the name that a fact declares, and where it is seen: a field only in its record
abbrev pub declared_by : Fact → Option Declared
declared_by (fact.Variable x _ seen) = Some (record { ident = x; seen = seen })
declared_by (fact.Function f _ seen) = Some (record { ident = f; seen = seen })
declared_by (fact.TypeName x _ seen) = Some (record { ident = x; seen = seen })
declared_by (fact.Field owner p) =
    Some (record { ident = p.name; seen = record { from = owner; to = owner } })
declared_by _ = None

-- the first that a test holds for
abbrev pub first_of : {A B : Type 0} → (A → Option B) → List A → Option B
first_of test [] = None
first_of test (a ∷ rest) = elim (test a) [ None ↦ first_of test rest | Some b ↦ Some b ]

abbrev pub placed_at : (at : ℕ) → Option Declared → Option Declared
placed_at at None = None
placed_at at (Some d) = if d.ident.span.from == at then Some d else None

abbrev pub declared_at : (at : ℕ) → List Fact → Option Declared
declared_at at facts = first_of (λ f. placed_at at (declared_by f)) facts

-- one name in one group or list
abbrev pub together : (one other : Declared) → Bool
together one other =
    one.ident.name.0 == other.ident.name.0 && one.seen.from == other.seen.from
    && one.seen.to == other.seen.to

abbrev pub placed_with : Declared → Option Declared → Option Ident
placed_with other None = None
placed_with other (Some d) = if together d other then Some d.ident else None

abbrev pub first_together : Declared → List Fact → Option Ident
first_together other facts = first_of (λ f. placed_with other (declared_by f)) facts

-- the first declaration of the name that is declared at a byte, in the same group or list
abbrev pub first_declared : (at : ℕ) → List Fact → Option Ident
first_declared at facts = named (declared_at at facts)
  where
    named : Option Declared → Option Ident
    named None = None
    named (Some d) = first_together d facts
