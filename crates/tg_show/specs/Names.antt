-- What names a temporary: the variable or parameter whose home it is.
use Rattle.std.specs.Prelude.{ℕ, zero, suc, List, [], ◌∷◌}
use Rattle.tg_frame.specs.declared.accesses.Access.{Access}
use Rattle.tg_frame.specs.declared.accesses.Access.TheVariants.{InTemp, InFrame}
use Rattle.tg_show.specs.declared.variables.Variable.{Variable}
use Rattle.tg_show.specs.declared.variables.FunctionVariables.{FunctionVariables}

-- a name at a place of a list, behind empty ones where the list is shorter
abbrev pub name_at : (place : ℕ) → (name : List ℕ) → (names : List (List ℕ)) → List (List ℕ)
name_at zero name [] = name ∷ []
name_at zero name (_ ∷ names) = name ∷ names
name_at (suc place) name [] = [] ∷ name_at place name []
name_at (suc place) name (first ∷ names) = first ∷ name_at place name names

-- a slot of the frame is no temporary
abbrev pub named : (home : Access) → (name : List ℕ) → (names : List (List ℕ)) → List (List ℕ)
named (InTemp t) name names = name_at t.0 name names
named (InFrame _) name names = names

-- names of temporaries by their numbers, and then those that variables name too
abbrev pub names_from : List Variable → (names : List (List ℕ)) → List (List ℕ)
names_from [] names = names
names_from (v ∷ rest) names = names_from rest (named v.home v.name names)

-- The names of a function's temporaries by their numbers. One that is no variable's home has an
-- empty name, and the static link's home has none.
abbrev pub names_of : FunctionVariables → List (List ℕ)
names_of all = names_from all.locals (names_from all.parameters [])
