-- The lines of a function's variables and their homes (Appel, chapter 6).
use Rattle.std.specs.Prelude.{ℕ, List, [], ◌∷◌, ◌++◌, codes, Option, Some, None}
use Rattle.std.specs.Fmt.{decimal}
use Rattle.tg_base.specs.declared.places.Place.{Place}
use Rattle.tg_frame.specs.declared.accesses.Access.{Access}
use Rattle.tg_frame.specs.declared.accesses.Access.TheVariants.{InTemp, InFrame}
use Rattle.tg_show.specs.declared.variables.Variable.{Variable}
use Rattle.tg_show.specs.declared.variables.FunctionVariables.{FunctionVariables}

abbrev pub place_text : Place → List ℕ
place_text p = codes " " ++ (decimal p.line ++ (codes ":" ++ decimal p.column))

abbrev pub home_text : Access → List ℕ
home_text (InTemp t) = codes " t" ++ decimal t.0
home_text (InFrame k) = codes " slot " ++ decimal k

abbrev pub word_text : (word : List ℕ) → List ℕ
word_text word = codes " " ++ word

abbrev pub words_text : List (List ℕ) → List ℕ
words_text [] = []
words_text (word ∷ rest) = word_text word ++ words_text rest

-- its type as the source writes it, or a dash where the source writes none
abbrev pub type_text : Option (List ℕ) → List ℕ
type_text None = codes " -"
type_text (Some name) = word_text name

-- a variable escapes to the functions that use it and are nested in the one that declares it
abbrev pub users_text : List (List ℕ) → List ℕ
users_text [] = []
users_text (user ∷ rest) = codes " escapes to" ++ words_text (user ∷ rest)

-- its name, its type, its home, and to whom it escapes
abbrev pub variable_text : Variable → List ℕ
variable_text v =
    word_text v.name ++ (type_text v.of_type ++ (home_text v.home ++ users_text v.users))

abbrev pub variable_line : (word : List ℕ) → Variable → List ℕ
variable_line word v =
    codes "  " ++ (word ++ (place_text v.place ++ (variable_text v ++ 10 ∷ [])))

abbrev pub variable_lines : (word : List ℕ) → List Variable → List ℕ
variable_lines word [] = []
variable_lines word (v ∷ rest) = variable_line word v ++ variable_lines word rest

-- where the static link is kept; the program's body has none
abbrev pub link_line : Option Access → List ℕ
link_line None = []
link_line (Some home) = codes "  link" ++ (home_text home ++ 10 ∷ [])

abbrev pub level_line : (level : ℕ) → List ℕ
level_line n = codes "  level " ++ (decimal n ++ 10 ∷ [])

abbrev pub variables_lines : FunctionVariables → List ℕ
variables_lines all =
    level_line all.level ++ (link_line all.link ++
    (variable_lines (codes "parameter") all.parameters ++
    variable_lines (codes "variable") all.locals))
