-- The variables are told by what the program is translated to.
use Rattle.std.proofs.Common.{◌≡◌, ℕ, List, ap, ◌∙◌}
use Rattle.std.specs.Prelude.{map}
use Rattle.std.specs.FinSet.{FinSet, from_list}
use Rattle.std.specs.Ordering.{nat_cmp}
use Rattle.tg_syntax.specs.Tree.{Exp}
use Rattle.tg_typecheck.specs.declared.notes.Note.{Note}
use Rattle.tg_escape.specs.Escaping.{escapes_of}
use Rattle.tg_escape.specs.Links.{links_of}
use Rattle.tg_tree.specs.Tree.{Ts, Code}
use Rattle.tg_tree.specs.declared.fragments.Fragment.{Fragment}
use Rattle.tg_tree.specs.declared.fragments.Fragments.{Fragments}
use Rattle.tg_tree.specs.glue.Plain.{plain_fragment, plain_fragments}
use Rattle.tg_translate.specs.declared.homes.Home.{Home}
use Rattle.tg_translate.specs.mirror.Scopes.{found}
use Rattle.tg_translate.specs.mirror.Translate.{translated, last_state}
use Rattle.tg_show.specs.declared.variables.FunctionVariables.{FunctionVariables}
use Rattle.tg_variables.specs.Functions.{program_texts}
use Rattle.tg_variables.specs.Variables.{variables_from, variables}

pub variables_are : (text : List ℕ) (notes : List Note) (body : Exp) (escaping : FinSet nat_cmp) (code : Fragments) (homes : List (ℕ × Home))
    (functions : List Fragment) (all : List FunctionVariables) → escaping ≡ from_list (escapes_of body) →
    plain_fragments code ≡ translated (found notes escaping (from_list (links_of body))) body →
    homes ≡ (last_state (found notes escaping (from_list (links_of body))) body).homes → functions ≡ code.functions.items →
    all ≡ variables_from text notes homes (program_texts body) (map plain_fragment functions) 0 (program_texts body) → all ≡ variables text notes body
variables_are text notes body escaping code homes functions all escapes trees kept these is =
    let texts = program_texts body in
    let links = from_list (links_of body) in
    is ∙ ap (λ (gs : List Fragment). variables_from text notes homes texts (map plain_fragment gs) 0 texts) these
    ∙ ap (λ (c : Code Ts). variables_from text notes homes texts c.functions 0 texts) trees
    ∙ ap (λ (hs : List (ℕ × Home)). variables_from text notes hs texts (translated (found notes escaping links) body).functions 0 texts) kept
    ∙ ap (λ (s : FinSet nat_cmp). variables_from text notes (last_state (found notes s links) body).homes texts (translated (found notes s links) body).functions 0 texts) escapes
