-- What a fault of types is about.
use Rattle.std.specs.Prelude.{ℕ, ◌==◌, ◌&&◌, List, [], ◌∷◌, Option, Some, None, if◌then◌else◌, find}
use Rattle.std.specs.Str.{bytes_eq}
use Rattle.tg_semantics.specs.declared.standards.Standard.{Standard}
use Rattle.tg_semantics.specs.declared.standards.Standard.TheVariants.{Flush, Getchar}
use Rattle.tg_semantics.specs.declared.standards.Standard.TheVariants.{Substring, Concat}
use Rattle.tg_syntax.specs.Tree.{Exp}
use Rattle.tg_typecheck.specs.declared.faults.TypeRule.{TypeRule}
use Rattle.tg_typecheck.specs.declared.faults.TypeRule.TheVariants.{T1, T2, T3, T4, T5, T10, T15}
use Rattle.tg_typecheck.specs.declared.faults.TypeRule.TheVariants.{T20, T21, T22}
use Rattle.tg_explain_typing.specs.Facts.{exp_facts}
use Rattle.tg_explain_types.specs.declared.declarations.Sort.{Sort}
use Rattle.tg_explain_types.specs.declared.declarations.Sort.TheVariants as sort
use Rattle.tg_explain_types.specs.declared.declarations.Declaration.{Declaration}
use Rattle.tg_explain_types.specs.declared.declarations.Part.{Part}
use Rattle.tg_explain_types.specs.declared.declarations.Part.TheVariants as part
use Rattle.tg_explain_types.specs.declared.names.Wanted.{Wanted}
use Rattle.tg_explain_types.specs.declared.names.Wanted.TheVariants.{Variable, Function, TypeName}
use Rattle.tg_explain_types.specs.declared.names.Near.{Near}
use Rattle.tg_explain_types.specs.declared.names.Near.TheVariants.{Declared, Standard as Given}
use Rattle.tg_explain_types.specs.declared.details.TypeDetail.{TypeDetail}
use Rattle.tg_explain_types.specs.declared.details.TypeDetail.TheVariants.{Unknown, Otherwise}
use Rattle.tg_explain_types.specs.declared.details.TypeDetail.TheVariants.{Counts, Limit, Nothing}
use Rattle.tg_explain_types.specs.declared.details.Limit.TheVariants.{Levels, FunctionNodes}
use Rattle.tg_explain_types.specs.declared.details.Limit.TheVariants.{ProgramNodes}
use Rattle.tg_explain_types.specs.Parts.{exp_parts}
use Rattle.tg_explain_types.specs.Scopes.{seen_at}
use Rattle.tg_explain_types.specs.Names.{spelled, name_at, is_in_space, candidates, nearest}
use Rattle.tg_explain_types.specs.Names.{near_text, outermost}
use Rattle.tg_explain_types.specs.Telling.{told}

-- the innermost declaration of a word
abbrev pub declaration_of :
    (text word : List ℕ) → Wanted → (seen : List Declaration) → Option Declaration
declaration_of text word wanted seen =
    find (λ d. is_in_space wanted d.sort && bytes_eq (spelled text d.ident.span) word) seen

abbrev pub otherwise : Option Declaration → TypeDetail
otherwise None = Nothing
otherwise (Some d) = Otherwise d

-- the arguments of the call by a name that begins at a byte
abbrev pub arguments_at : (at : ℕ) → List Part → ℕ
arguments_at at [] = 0
arguments_at at (part.Called f count ∷ parts) =
    if f.span.from == at then count else arguments_at at parts
arguments_at at (part.Declared d ∷ parts) = arguments_at at parts

-- the parameters of a standard function (Appel, appendix A.4)
abbrev pub standard_count : Standard → ℕ
standard_count Flush = 0
standard_count Getchar = 0
standard_count Substring = 3
standard_count Concat = 2
standard_count _ = 1

abbrev pub standard_counts : (given : ℕ) → Option Near → TypeDetail
standard_counts given (Some (Given f)) = Counts given (standard_count f) (Given f)
standard_counts given _ = Nothing

abbrev pub declared_counts : (text word : List ℕ) → (given : ℕ) → Option Declaration → TypeDetail
declared_counts text word given None =
    standard_counts given (find (λ f. bytes_eq (near_text text f) word) (outermost Function))
declared_counts text word given (Some d) = counts d.sort
  where
    counts : Sort → TypeDetail
    counts (sort.Function count) = Counts given count (Declared d.ident)
    counts _ = Nothing

abbrev pub unknown : (text word : List ℕ) → Wanted → (seen : List Declaration) → TypeDetail
unknown text word wanted seen =
    Unknown wanted (nearest text word (candidates text wanted seen))

-- by the declarations that are seen at the fault, and the word that stands there
abbrev pub explained_by :
    (text word : List ℕ) → (given : ℕ) → (seen : List Declaration) → TypeRule → TypeDetail
explained_by text word given seen T1 = unknown text word Variable seen
explained_by text word given seen T2 = unknown text word Function seen
explained_by text word given seen T3 = unknown text word TypeName seen
explained_by text word given seen T4 = otherwise (declaration_of text word Variable seen)
explained_by text word given seen T5 = otherwise (declaration_of text word Variable seen)
explained_by text word given seen T15 = otherwise (declaration_of text word Variable seen)
explained_by text word given seen T10 =
    declared_counts text word given (declaration_of text word Function seen)
explained_by text word given seen _ = Nothing

-- what the fault of a name at a byte of a program is about
abbrev pub named : (text : List ℕ) → (program : Exp) → TypeRule → (at : ℕ) → TypeDetail
named text program rule at =
    let parts = exp_parts program [] in
    let word = spelled text (name_at text at) in
    explained_by text word (arguments_at at parts) (seen_at at parts) rule

-- what the fault at a byte of a program is about
abbrev pub explained : (text : List ℕ) → (program : Exp) → TypeRule → (at : ℕ) → TypeDetail
explained text program T1 at = named text program T1 at
explained text program T2 at = named text program T2 at
explained text program T3 at = named text program T3 at
explained text program T4 at = named text program T4 at
explained text program T5 at = named text program T5 at
explained text program T10 at = named text program T10 at
explained text program T15 at = named text program T15 at
explained text program T20 at = Limit Levels
explained text program T21 at = Limit FunctionNodes
explained text program T22 at = Limit ProgramNodes
explained text program rule at = told (exp_facts text at program []) rule at
