-- The text of `show` of a whole program.
use Rattle.std.specs.Prelude.{ℕ, suc, List, [], ◌∷◌, ◌++◌, Bool, slice_index_or}
use Rattle.std.specs.List.{slice_get}
use Rattle.tg_syntax.specs.Tree.{Exp}
use Rattle.tg_typecheck.specs.declared.notes.Note.{Note}
use Rattle.tg_tree.specs.Tree.{Ts, Function}
use Rattle.tg_irc_definition.specs.Policies.{Rule}
use Rattle.tg_regalloc.specs.declared.allocations.Allocation.{Allocation}
use Rattle.tg_regalloc.specs.Allocations.{codes_of}
use Rattle.tg_emit.specs.mirror.Lines.{is_long}
use Rattle.tg_compile.specs.declared.passes.Passes.{Passes}
use Rattle.tg_compile.specs.Compiling.{fragments_of, Compiles}
use Rattle.tg_show.specs.declared.variables.FunctionVariables.{FunctionVariables}
use Rattle.tg_variables.specs.Variables.{variables}
use Rattle.tg_stages.specs.declared.headings.Heading.{Heading}
use Rattle.tg_stages.specs.Headings.{headings, undeclared}
use Rattle.tg_stages.specs.Shown.{TellsFunction}

-- the heading at a place of the list of all
abbrev pub heading_at : List Heading → (at : ℕ) → Heading
heading_at all at = slice_index_or all at (undeclared [])

-- Functions from a place on, each with its allocation, are told one after another. Those of the
-- runtime stand behind those of the source, and have no variables.
module _ (passes : Passes) (long : Bool) (all : List Heading) (own : List FunctionVariables) where
  pub data TellFrom : (at : ℕ) → List (Function Ts) → List Allocation → (text : List ℕ) → Type 0 where
    nothing : {at : ℕ} → TellFrom at [] [] []
    one :
        {at : ℕ} {f : Function Ts} {fs : List (Function Ts)} {a : Allocation}
        {others : List Allocation} {text rest : List ℕ} →
        TellsFunction passes long (heading_at all at) (slice_get own at) f a text →
        TellFrom (suc at) fs others rest →
        TellFrom at (f ∷ fs) (a ∷ others) (text ++ rest)

-- The text of a program whose functions have these allocations, by its text, the names of its
-- identifiers and the notes of its typing.
abbrev pub IsShown :
    Passes → (text : List ℕ) → (names : List (List ℕ)) → List Note → Exp → List Allocation →
    (shown : List ℕ) → Type 0
IsShown passes text names notes body allocations shown =
    TellFrom passes (is_long (codes_of allocations)) (headings text names body)
    (variables text notes body) 0 (fragments_of notes body).functions allocations shown

-- what the program is compiled to by the rule of a policy, and the text of what each pass made
pub record ShowsCompiled (passes : Passes) (rule : Rule) (text : List ℕ) (names : List (List ℕ))
    (notes : List Note) (body : Exp) (shown : List ℕ) : Type 0 where
  pub allocations : List Allocation
  pub assembly : List ℕ
  pub compiles : Compiles passes rule notes body allocations assembly
  pub is_shown : IsShown passes text names notes body allocations shown
