-- The labels of an assembly text: of functions, of places in them, and of literals.
use Rattle.std.specs.Prelude.{ℕ, ◌==◌, List, ◌∷◌, ◌++◌, codes, if◌then◌else◌}
use Rattle.std.specs.Fmt.{decimal}

-- 32 is the program's body, at which a machine begins
abbrev pub function_name : ℕ → List ℕ
function_name label = if label == 32 then codes "main" else codes "f" ++ decimal label

-- a mark of a function, and the place after a branch that is turned round, by the place of the
-- branch
abbrev pub mark_name : (label mark : ℕ) → List ℕ
mark_name label mark = function_name label ++ 46 ∷ decimal mark

abbrev pub behind_name : (label place : ℕ) → List ℕ
behind_name label place = function_name label ++ 95 ∷ decimal place

abbrev pub literal_name : ℕ → List ℕ
literal_name label = codes "s" ++ decimal label
