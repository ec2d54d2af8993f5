-- The variables of a program's functions (Appel, chapter 6): where each is declared, its type where
-- the source writes one, its home, and the functions that it escapes to.
use Rattle.std.specs.Prelude.{ℕ, ◌+◌, List, [], ◌∷◌, ◌++◌, map, slice_range}
use Rattle.std.specs.Prelude.{Option, Some, None}
use Rattle.std.specs.List.{slice_get}
use Rattle.std.specs.FinSet.{from_list}
use Rattle.tg_base.specs.Lines.{place_of}
use Rattle.tg_symbols.specs.Tables.{looked_up}
use Rattle.tg_syntax.specs.Tree.{Exp}
use Rattle.tg_syntax.specs.declared.tokens.Ident.{Ident}
use Rattle.tg_syntax.specs.declared.trees.Param.{Param}
use Rattle.tg_typecheck.specs.declared.notes.Note.{Note}
use Rattle.tg_escape.specs.Escaping.{escapes_of}
use Rattle.tg_escape.specs.Links.{links_of}
use Rattle.tg_frame.specs.declared.accesses.Access.{Access}
use Rattle.tg_tree.specs.Tree.{Ts, Function}
use Rattle.tg_translate.specs.declared.homes.Home.{Home}
use Rattle.tg_translate.specs.mirror.Scopes.{Findings, found}
use Rattle.tg_translate.specs.mirror.Translate.{translated, last_state}
use Rattle.tg_show.specs.declared.variables.Variable.{Variable}
use Rattle.tg_show.specs.declared.variables.FunctionVariables.{FunctionVariables}
use Rattle.tg_variables.specs.declared.parts.Part.{Part}
use Rattle.tg_variables.specs.declared.parts.Part.TheVariants.{Declares, Uses}
use Rattle.tg_variables.specs.declared.functions.OwnText.{OwnText}
use Rattle.tg_variables.specs.Functions.{program_texts}
use Rattle.tg_variables.specs.Users.{users_from}

-- an identifier as the text writes it
abbrev pub written : (text : List ℕ) → Ident → List ℕ
written text x = slice_range text x.span.from x.span.to

abbrev pub written_type : (text : List ℕ) → Option Ident → Option (List ℕ)
written_type text None = None
written_type text (Some x) = Some (written text x)

-- a function keeps its static link in its first parameter, and the program's body has none
abbrev pub link_of : Option (Function Ts) → Option Access
link_of None = None
link_of (Some f) = slice_get f.params 0

-- the source, its notes, the homes of its variables, and the texts of its functions
module _ (text : List ℕ) (notes : List Note) (homes : List (ℕ × Home)) (all : List OwnText) where
  abbrev pub variable_of : Ident → (of_type : Option Ident) → Option Home → List Variable
  variable_of x t None = []
  variable_of x t (Some home) =
      record {
        place = place_of text x.span.from;
        name = written text x;
        of_type = written_type text t;
        home = home.access;
        users = map (written text) (users_from notes homes x.span.from all []);
      } ∷ []

  -- a variable that is declared by an identifier, where it has a home
  abbrev pub variable_at : Ident → (of_type : Option Ident) → List Variable
  variable_at x t = variable_of x t (looked_up x.span.from homes)

  abbrev pub parameters_of : List Param → List Variable
  parameters_of [] = []
  parameters_of (p ∷ rest) = variable_at p.name (Some p.kind) ++ parameters_of rest

  abbrev pub locals_of : List Part → List Variable
  locals_of [] = []
  locals_of (Uses _ ∷ rest) = locals_of rest
  locals_of (Declares x t ∷ rest) = variable_at x t ++ locals_of rest

  abbrev pub function_variables : OwnText → (link : Option Access) → FunctionVariables
  function_variables t link = record {
    level = t.level;
    link = link;
    parameters = parameters_of t.parameters;
    locals = locals_of t.parts;
  }

  -- of the texts from a place on, by what the functions are translated to
  abbrev pub variables_from :
      List (Function Ts) → (place : ℕ) → List OwnText → List FunctionVariables
  variables_from functions at [] = []
  variables_from functions at (t ∷ rest) =
      function_variables t (link_of (slice_get functions at)) ∷
      variables_from functions (at + 1) rest

-- what is found of a program before it is translated
abbrev pub findings_of : List Note → Exp → Findings
findings_of notes body = found notes (from_list (escapes_of body)) (from_list (links_of body))

abbrev pub homes_of : List Note → Exp → List (ℕ × Home)
homes_of notes body = (last_state (findings_of notes body) body).homes

-- The variables of a program's body, and then those of each function of its source, in their order;
-- by its text and the notes of its typing.
abbrev pub variables : (text : List ℕ) → List Note → Exp → List FunctionVariables
variables text notes body =
    variables_from text notes (homes_of notes body) (program_texts body)
    (translated (findings_of notes body) body).functions 0 (program_texts body)
