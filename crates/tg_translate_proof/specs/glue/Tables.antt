-- The homes of variables and the labels of functions that a finished translation has found, by the
-- bytes of their declaring identifiers; and a translation's states on the way there.
use Rattle.std.specs.Prelude.{ℕ, ◌≡◌, ◌≤◌, List, [], ◌∷◌, ◌++◌, Some}
use Rattle.std.specs.List.{Contains}
use Rattle.tg_simulation.specs.Bytes.{IsPrefix}
use Rattle.tg_symbols.specs.Tables.{looked_up}
use Rattle.tg_typecheck.specs.Scopes.{Binding, variable_at, function_at}
use Rattle.tg_tree.specs.Tree.{Ts, Function, Literal, Code}
use Rattle.tg_tree.specs.Running.{function_of}
use Rattle.tg_translate.specs.declared.homes.Home.{Home}
use Rattle.tg_translate.specs.declared.homes.Callee.{Callee}
use Rattle.tg_translate.specs.mirror.States.{TranslationState}

pub record Table : Type 0 where
  pub homes : List (ℕ × Home)
  pub callees : List (ℕ × Callee)

-- a list with more before it
pub record IsSuffix {A : Type 0} (whole rest : List A) : Type 0 where
  pub more : List A
  pub whole_is : whole ≡ more ++ rest

-- A state on the way to a finished code: what it has found is after what comes, and the literals
-- and functions that are done stand in the code.
pub record IsMoment (table : Table) (code : Code Ts) (s : TranslationState) : Type 0 where
  pub homes : IsSuffix table.homes s.homes
  pub callees : IsSuffix table.callees s.callees
  pub literals : IsPrefix s.literals code.literals
  pub functions :
      (f : Function Ts) → Contains s.functions f → function_of f.label code.functions ≡ Some f

-- a later state of the same function's translation
pub record Later (s t : TranslationState) : Type 0 where
  pub temps : s.frame.temps ≤ t.frame.temps
  pub slots : s.frame.slots ≤ t.frame.slots
  pub homes : IsSuffix t.homes s.homes
  pub callees : IsSuffix t.callees s.callees
  pub literals : IsPrefix s.literals t.literals
  pub functions : IsPrefix s.functions t.functions

-- a state has found of these bindings what the table has
abbrev pub HasFound : Table → TranslationState → List (ℕ × Binding) → Type 0
HasFound table s [] = Unit {0}
HasFound table s ((x, variable_at at t loop) ∷ bs) =
    (looked_up at s.homes ≡ looked_up at table.homes) × HasFound table s bs
HasFound table s ((x, function_at at sig) ∷ bs) =
    (looked_up at s.callees ≡ looked_up at table.callees) × HasFound table s bs
HasFound table s (b ∷ bs) = HasFound table s bs
