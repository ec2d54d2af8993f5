-- How types, fields and what stands around a place are told.
use Rattle.std.specs.Prelude.{ℕ, List, [], ◌∷◌, ◌++◌, Option, Some, None, codes}
use Rattle.tg_base.specs.Lines.{place_of}
use Rattle.tg_syntax.specs.declared.tokens.Ident.{Ident}
use Rattle.tg_explain.specs.Words.{quoted}
use Rattle.tg_explain.specs.Lines.{place_text}
use Rattle.tg_explain_typing.specs.declared.types.Ty.{Ty}
use Rattle.tg_explain_typing.specs.declared.types.Ty.TheVariants as type
use Rattle.tg_explain_typing.specs.declared.facts.Demand.{Demand}
use Rattle.tg_explain_typing.specs.declared.facts.Demand.TheVariants.{Fits, Valueless, Ordered}
use Rattle.tg_explain_typing.specs.declared.facts.Demand.TheVariants.{Valued, Like, Joins, Own}
use Rattle.tg_explain_typing.specs.declared.facts.Demand.TheVariants.{BesideNil, Fielded, Made}
use Rattle.tg_explain_typing.specs.declared.facts.Demand.TheVariants.{Indexed, Has}
use Rattle.tg_explain_typing.specs.declared.finding.Judgement.{Judgement}
use Rattle.tg_explain_typing.specs.declared.finding.Difference.{Difference}
use Rattle.tg_explain_types.specs.declared.names.Near.TheVariants.{Declared}
use Rattle.tg_explain_types.specs.declared.details.Limit.{Limit}
use Rattle.tg_explain_types.specs.declared.details.Limit.TheVariants.{Levels, FunctionNodes}
use Rattle.tg_explain_types.specs.declared.details.Limit.TheVariants.{ProgramNodes}
use Rattle.tg_explain_types.specs.Names.{spelled, name_at}
use Rattle.tg_explain_types.specs.NameTexts.{name_text}

-- the name that a type is declared by, with its place
abbrev pub declared_text : (text : List ℕ) → (at : ℕ) → List ℕ
declared_text text at =
    spelled text (name_at text at) ++ codes " of " ++ place_text (place_of text at)

abbrev pub ty_text : (text : List ℕ) → Ty → List ℕ
ty_text text type.Int = codes "int"
ty_text text type.Text = codes "string"
ty_text text type.Nil = codes "nil"
ty_text text type.Nothing = codes "no value"
ty_text text (type.Record at) = declared_text text at
ty_text text (type.Array at) = declared_text text at

abbrev pub demand_text : (text : List ℕ) → Demand → List ℕ
demand_text text (Fits t) = ty_text text t
demand_text text Valueless = codes "no value"
demand_text text Ordered = codes "int or string"
demand_text text Valued = codes "a value"
demand_text text (Like t) = ty_text text t
demand_text text (Joins t) = ty_text text t
demand_text text (BesideNil _) = codes "a record"
demand_text text (Own x) = codes "a type for " ++ name_text text (Declared x)
demand_text text Fielded = codes "a record"
demand_text text Made = codes "a record"
demand_text text Indexed = codes "an array"
demand_text text (Has f) = codes "a field " ++ quoted (spelled text f.span)

abbrev pub judged_text : (text : List ℕ) → Judgement → List ℕ
judged_text text j =
    codes "expected " ++ demand_text text j.demand ++ codes ", found " ++ ty_text text j.got

-- each behind a comma
abbrev pub more_fields : (text : List ℕ) → List Ident → List ℕ
more_fields text [] = []
more_fields text (f ∷ rest) = codes ", " ++ quoted (spelled text f.span) ++ more_fields text rest

abbrev pub field_list : (text : List ℕ) → List Ident → List ℕ
field_list text [] = codes " none"
field_list text (f ∷ rest) = codes " " ++ quoted (spelled text f.span) ++ more_fields text rest

abbrev pub fields_text : (text : List ℕ) → (owner : ℕ) → List Ident → List ℕ
fields_text text owner fields =
    codes "fields of " ++ declared_text text owner ++ codes ":" ++ field_list text fields

abbrev pub field_text : (text : List ℕ) → Option Ident → List ℕ
field_text text None = codes "no field"
field_text text (Some f) = codes "field " ++ quoted (spelled text f.span)

abbrev pub difference_text : (text : List ℕ) → Difference → List ℕ
difference_text text d =
    codes "expected " ++ field_text text d.wanted ++ codes ", found " ++ field_text text d.given

abbrev pub before_text : (text : List ℕ) → Ident → List ℕ
before_text text x = name_text text (Declared x) ++ codes " is declared before"

abbrev pub outer_loop_text : (text : List ℕ) → (at : ℕ) → List ℕ
outer_loop_text text at =
    codes "the loop of " ++ place_text (place_of text at) ++ codes " is not open"

abbrev pub loop_text : (text : List ℕ) → Option ℕ → List ℕ
loop_text text None = codes "no loop is open"
loop_text text (Some at) = outer_loop_text text at

abbrev pub function_text : (text : List ℕ) → Option Ident → List ℕ
function_text text None = []
function_text text (Some f) = codes " in " ++ name_text text (Declared f)

abbrev pub outside_text : (text : List ℕ) → Option Ident → Option ℕ → List ℕ
outside_text text f loop = loop_text text loop ++ function_text text f

abbrev pub limit_text : Limit → List ℕ
limit_text Levels = codes "functions are nested 32 levels deep at most"
limit_text FunctionNodes = codes "a function has 4096 nodes at most"
limit_text ProgramNodes = codes "a program has 32768 nodes at most"
