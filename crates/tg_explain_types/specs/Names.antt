-- Names that are spelled nearly as a wrong one, and can be seen where it stands.
use Rattle.std.specs.Prelude.{ℕ, ◌+◌, ◌-◌, ◌&&◌, not, List, [], ◌∷◌, ◌++◌, take, drop, map}
use Rattle.std.specs.Prelude.{filter, Bool, true, false, codes}
use Rattle.std.specs.List.{prefix_len, list_any}
use Rattle.std.specs.Str.{bytes_eq}
use Rattle.tg_base.specs.declared.ids.Span.{Span}
use Rattle.tg_syntax.specs.Spellings.{is_name_byte}
use Rattle.tg_semantics.specs.declared.standards.Standard.TheVariants.{Print, Flush, Getchar, Ord}
use Rattle.tg_semantics.specs.declared.standards.Standard.TheVariants.{Chr, Size, Substring, Concat}
use Rattle.tg_semantics.specs.declared.standards.Standard.TheVariants.{Not, Exit}
use Rattle.tg_semantics.specs.Environments.{standard_text}
use Rattle.tg_explain_types.specs.declared.declarations.Sort.{Sort}
use Rattle.tg_explain_types.specs.declared.declarations.Sort.TheVariants as sort
use Rattle.tg_explain_types.specs.declared.declarations.Declaration.{Declaration}
use Rattle.tg_explain_types.specs.declared.names.Wanted.{Wanted}
use Rattle.tg_explain_types.specs.declared.names.Wanted.TheVariants.{Variable, Function, TypeName}
use Rattle.tg_explain_types.specs.declared.names.Near.{Near}
use Rattle.tg_explain_types.specs.declared.names.Near.TheVariants.{Declared, Standard, IntType}
use Rattle.tg_explain_types.specs.declared.names.Near.TheVariants.{StringType}
use Rattle.tg_explain_types.specs.Scopes.{is_type}
use Rattle.tg_explain_types.specs.Spelling.{is_one_edit, is_two_edits}

-- the bytes of a text in a span
abbrev pub spelled : (text : List ℕ) → Span → List ℕ
spelled text s = take (s.to - s.from) (drop s.from text)

-- the span of a name that begins at a byte of a text
abbrev pub name_at : (text : List ℕ) → (at : ℕ) → Span
name_at text at = record { from = at; to = at + prefix_len is_name_byte (drop at text) }

abbrev pub is_wanted : Wanted → Sort → Bool
is_wanted Variable sort.Variable = true
is_wanted Variable sort.LoopVariable = true
is_wanted Function (sort.Function _) = true
is_wanted TypeName sort.TypeName = true
is_wanted _ _ = false

-- the name space in which it is looked for
abbrev pub is_in_space : Wanted → Sort → Bool
is_in_space TypeName s = is_type s
is_in_space _ s = not (is_type s)

-- what the outermost scope has (Appel, appendices A.2 and A.4)
abbrev pub outermost : Wanted → List Near
outermost Variable = []
outermost Function =
    Standard Print ∷ Standard Flush ∷ Standard Getchar ∷ Standard Ord ∷ Standard Chr ∷
    Standard Size ∷ Standard Substring ∷ Standard Concat ∷ Standard Not ∷ Standard Exit ∷ []
outermost TypeName = IntType ∷ StringType ∷ []

abbrev pub near_text : (text : List ℕ) → Near → List ℕ
near_text text (Declared x) = spelled text x.span
near_text text (Standard f) = standard_text f
near_text text IntType = codes "int"
near_text text StringType = codes "string"

-- no declaration that is seen hides it
abbrev pub is_bare : (text : List ℕ) → Wanted → (seen : List Declaration) → Near → Bool
is_bare text wanted seen near =
    not (list_any
    (λ d. is_in_space wanted d.sort && bytes_eq (spelled text d.ident.span) (near_text text near))
    seen)

-- all names of the kind that is looked for, the innermost first
abbrev pub candidates : (text : List ℕ) → Wanted → (seen : List Declaration) → List Near
candidates text wanted seen =
    map (λ d. Declared d.ident) (filter (λ d. is_wanted wanted d.sort) seen)
    ++ filter (λ near. is_bare text wanted seen near) (outermost wanted)

abbrev pub at_one_edit : (text word : List ℕ) → Near → Bool
at_one_edit text word near = is_one_edit word (near_text text near)

abbrev pub at_two_edits : (text word : List ℕ) → Near → Bool
at_two_edits text word near =
    is_two_edits word (near_text text near) && not (at_one_edit text word near)

-- three at most of those within two edits, the nearest first
abbrev pub nearest : (text word : List ℕ) → List Near → List Near
nearest text word all =
    take 3 (filter (λ near. at_one_edit text word near) all
    ++ filter (λ near. at_two_edits text word near) all)
