-- The lines that explain a fault of types.
use Rattle.std.specs.Prelude.{ℕ, ◌==◌, List, [], ◌∷◌, ◌++◌, codes, if◌then◌else◌}
use Rattle.std.specs.Fmt.{decimal}
use Rattle.tg_explain.specs.Words.{quoted}
use Rattle.tg_explain.specs.Lines.{line_of}
use Rattle.tg_explain_types.specs.declared.declarations.Sort.{Sort}
use Rattle.tg_explain_types.specs.declared.declarations.Sort.TheVariants as sort
use Rattle.tg_explain_types.specs.declared.declarations.Declaration.{Declaration}
use Rattle.tg_explain_types.specs.declared.names.Wanted.{Wanted}
use Rattle.tg_explain_types.specs.declared.names.Wanted.TheVariants.{Variable, Function, TypeName}
use Rattle.tg_explain_types.specs.declared.names.Near.{Near}
use Rattle.tg_explain_types.specs.declared.names.Near.TheVariants.{Declared}
use Rattle.tg_explain_types.specs.declared.details.TypeDetail.{TypeDetail}
use Rattle.tg_explain_types.specs.declared.details.TypeDetail.TheVariants.{Unknown, Otherwise}
use Rattle.tg_explain_types.specs.declared.details.TypeDetail.TheVariants.{Counts, Judged, Fields}
use Rattle.tg_explain_types.specs.declared.details.TypeDetail.TheVariants.{Differs, Before, Outside}
use Rattle.tg_explain_types.specs.declared.details.TypeDetail.TheVariants.{Limit, Nothing}
use Rattle.tg_explain_types.specs.Names.{spelled, name_at}
use Rattle.tg_explain_types.specs.NameTexts.{name_text}
use Rattle.tg_explain_types.specs.TypeTexts.{judged_text, fields_text, difference_text, before_text}
use Rattle.tg_explain_types.specs.TypeTexts.{outside_text, limit_text}

abbrev pub wanted_text : Wanted → List ℕ
wanted_text Variable = codes "variable"
wanted_text Function = codes "function"
wanted_text TypeName = codes "type"

abbrev pub sort_text : Sort → List ℕ
sort_text sort.Variable = codes "a variable"
sort_text sort.LoopVariable = codes "a loop variable"
sort_text (sort.Function _) = codes "a function"
sort_text sort.TypeName = codes "a type"

-- each behind a comma
abbrev pub more_names : (text : List ℕ) → List Near → List ℕ
more_names text [] = []
more_names text (near ∷ rest) = codes ", " ++ name_text text near ++ more_names text rest

abbrev pub near_names : (text : List ℕ) → List Near → List ℕ
near_names text [] = []
near_names text (near ∷ rest) = codes "; near: " ++ name_text text near ++ more_names text rest

abbrev pub unknown_text : (text word : List ℕ) → Wanted → List Near → List ℕ
unknown_text text word wanted near =
    codes "no " ++ wanted_text wanted ++ codes " " ++ quoted word ++ near_names text near

abbrev pub otherwise_text : (text : List ℕ) → Declaration → List ℕ
otherwise_text text d =
    name_text text (Declared d.ident) ++ codes " is " ++ sort_text d.sort

abbrev pub plural : ℕ → List ℕ
plural count = if count == 1 then [] else codes "s"

-- so many of a thing
abbrev pub counted : ℕ → (thing : List ℕ) → List ℕ
counted count thing = decimal count ++ codes " " ++ thing ++ plural count

abbrev pub counts_text : (text : List ℕ) → (given wanted : ℕ) → Near → List ℕ
counts_text text given wanted near =
    counted given (codes "argument") ++ codes " for "
    ++ counted wanted (codes "parameter") ++ codes " of " ++ name_text text near

-- the lines of a fault of types at a byte of a text
abbrev pub type_lines : (text : List ℕ) → (at : ℕ) → TypeDetail → List ℕ
type_lines text at (Unknown wanted near) =
    line_of (unknown_text text (spelled text (name_at text at)) wanted near)
type_lines text at (Otherwise d) = line_of (otherwise_text text d)
type_lines text at (Counts given wanted near) = line_of (counts_text text given wanted near)
type_lines text at (Judged j) = line_of (judged_text text j)
type_lines text at (Fields owner fields) = line_of (fields_text text owner fields)
type_lines text at (Differs d) = line_of (difference_text text d)
type_lines text at (Before x) = line_of (before_text text x)
type_lines text at (Outside f loop) = line_of (outside_text text f loop)
type_lines text at (Limit l) = line_of (limit_text l)
type_lines text at Nothing = []
