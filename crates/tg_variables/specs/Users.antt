-- The functions that use a variable of a function around them: to these it escapes (Appel, chapter
-- 6). A variable is named by the byte of its declaring identifier.
use Rattle.std.specs.Prelude.{ℕ, ◌==◌, ◌-◌, nat_lt, Bool, false, List, [], ◌∷◌, ◌++◌, length}
use Rattle.std.specs.Prelude.{Option, Some, None, if◌then◌else◌}
use Rattle.std.specs.List.{slice_get}
use Rattle.tg_symbols.specs.Tables.{looked_up}
use Rattle.tg_syntax.specs.declared.tokens.Ident.{Ident}
use Rattle.tg_typecheck.specs.declared.notes.Note.{Note}
use Rattle.tg_typecheck.specs.declared.notes.Means.{Means}
use Rattle.tg_typecheck.specs.declared.notes.Means.TheVariants as means
use Rattle.tg_typecheck.specs.Answered.{meaning_at}
use Rattle.tg_translate.specs.declared.homes.Home.{Home}
use Rattle.tg_variables.specs.declared.parts.Part.{Part}
use Rattle.tg_variables.specs.declared.parts.Part.TheVariants.{Declares, Uses}
use Rattle.tg_variables.specs.declared.functions.OwnText.{OwnText}

abbrev pub used_variable : Option Means → Option ℕ
used_variable (Some (means.Variable at)) = Some at
used_variable _ = None

-- a home in a function around one of this level
abbrev pub is_outer : (level : ℕ) → Option Home → Bool
is_outer level None = false
is_outer level (Some home) = nat_lt home.level level

abbrev pub is_same : Ident → Option Ident → Bool
is_same f None = false
is_same f (Some g) = g.span.from == f.span.from

-- a function behind others, but not behind itself
abbrev pub with_user : Ident → List Ident → List Ident
with_user f users =
    if is_same f (slice_get users (length users - 1)) then users else users ++ f ∷ []

-- the users of a variable after one use more, which is of a variable or of none
abbrev pub with_use : (at : ℕ) → Ident → Option ℕ → List Ident → List Ident
with_use at f None users = users
with_use at f (Some used) users = if used == at then with_user f users else users

-- what is used at a level, where its home is in a function around one of that level
abbrev pub outer : (homes : List (ℕ × Home)) → (level : ℕ) → Option ℕ → Option ℕ
outer homes level None = None
outer homes level (Some at) = if is_outer level (looked_up at homes) then Some at else None

-- by what is noted of names, and the homes of variables
module _ (notes : List Note) (homes : List (ℕ × Home)) where
  -- the variable of a function around one of this level that a part of its text uses
  abbrev pub outer_use : (level : ℕ) → Part → Option ℕ
  outer_use level (Declares _ _) = None
  outer_use level (Uses x) = outer homes level (used_variable (meaning_at x.span.from notes))

  -- the users of a variable after a function's text, which are given before
  module _ (at : ℕ) where
    abbrev pub users_in : (level : ℕ) → Ident → List Part → List Ident → List Ident
    users_in level f [] users = users
    users_in level f (part ∷ rest) users =
        users_in level f rest (with_use at f (outer_use level part) users)

    -- the program's body lies in no function
    abbrev pub users_by : (level : ℕ) → Option Ident → List Part → List Ident → List Ident
    users_by level None parts users = users
    users_by level (Some f) parts users = users_in level f parts users

    abbrev pub users_from : List OwnText → List Ident → List Ident
    users_from [] users = users
    users_from (t ∷ rest) users = users_from rest (users_by t.level t.function t.parts users)
