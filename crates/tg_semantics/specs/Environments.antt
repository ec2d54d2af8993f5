-- What names stand for: environments as lists, innermost entry first (Appel, chapter 5).
use Rattle.std.specs.Prelude.{ℕ, suc, ◌-◌, ◌==◌, List, [], ◌∷◌, ◌++◌, Option, Some, None}
use Rattle.std.specs.Prelude.{if◌then◌else◌, codes}
use Rattle.std.specs.Str.{bytes_eq}
use Rattle.tg_syntax.specs.declared.tokens.Ident.{Ident}
use Rattle.tg_syntax.specs.declared.trees.Param.{Param}
use Rattle.tg_syntax.specs.Tree.{Exp, FunDecs, no_functions, function}
use Rattle.tg_semantics.specs.declared.standards.Standard.{Standard}
use Rattle.tg_semantics.specs.declared.standards.Standard.TheVariants.{Print, Flush, Getchar, Ord}
use Rattle.tg_semantics.specs.declared.standards.Standard.TheVariants.{Chr, Size, Substring, Concat}
use Rattle.tg_semantics.specs.declared.standards.Standard.TheVariants.{Not, Exit}
use Rattle.tg_semantics.specs.Values.{Entry, variable, group, standard}

-- the place of an identifier's text in the list of names
abbrev pub name_of : Ident → ℕ
name_of x = x.name.0

-- a declared function
pub record SourceFunction : Type 0 where
  pub params : List Param
  pub body : Exp

-- what a name is bound to; a declared function comes with the level of the function that declares
-- it, and with the entries that it sees
pub data Bound : Type 0 where
  to_variable : (level place : ℕ) → Bound
  to_function : (level : ℕ) → SourceFunction → List Entry → Bound
  to_standard : Standard → Bound

abbrev pub function_named : ℕ → FunDecs → Option SourceFunction
function_named x no_functions = None
function_named x (function f params _ body rest) =
    if name_of f == x then Some (record { params = params; body = body }) else function_named x rest

-- a function of the group in front, or what is found beyond it
abbrev pub or_beyond : Option SourceFunction → (level : ℕ) → List Entry → Option Bound →
    Option Bound
or_beyond (Some f) level seen beyond = Some (to_function level f seen)
or_beyond None level seen beyond = beyond

-- the innermost entry of a name; a function sees from its own group on, so those of a group may
-- call one another (appendix A.2)
abbrev pub find : ℕ → List Entry → Option Bound
find x [] = None
find x (variable y level place ∷ rest) =
    if y == x then Some (to_variable level place) else find x rest
find x (group level fs ∷ rest) =
    or_beyond (function_named x fs) level (group level fs ∷ rest) (find x rest)
find x (standard y f ∷ rest) = if y == x then Some (to_standard f) else find x rest

-- the levels from a function's text out to the one that declares what a name is bound to, which a
-- static link each leads over (chapter 6); a standard function is at hand at each
abbrev pub levels_out : (here : ℕ) → Bound → ℕ
levels_out here (to_variable level place) = here - level
levels_out here (to_function level f seen) = here - level
levels_out here (to_standard f) = 0

-- The outermost scope: those of the names that are a standard function's (appendix A.4), by their
-- places in the list of names.

abbrev pub standard_text : Standard → List ℕ
standard_text Print = codes "print"
standard_text Flush = codes "flush"
standard_text Getchar = codes "getchar"
standard_text Ord = codes "ord"
standard_text Chr = codes "chr"
standard_text Size = codes "size"
standard_text Substring = codes "substring"
standard_text Concat = codes "concat"
standard_text Not = codes "not"
standard_text Exit = codes "exit"

abbrev pub standards : List Standard
standards = Print ∷ Flush ∷ Getchar ∷ Ord ∷ Chr ∷ Size ∷ Substring ∷ Concat ∷ Not ∷ Exit ∷ []

abbrev pub standards_of : List ℕ → (name : ℕ) → List Standard → List Entry
standards_of text name [] = []
standards_of text name (f ∷ rest) =
    if bytes_eq text (standard_text f) then standard name f ∷ [] else standards_of text name rest

abbrev pub outermost_from : ℕ → List (List ℕ) → List Entry
outermost_from n [] = []
outermost_from n (text ∷ names) = standards_of text n standards ++ outermost_from (suc n) names

abbrev pub outermost_entries : List (List ℕ) → List Entry
outermost_entries names = outermost_from 0 names
