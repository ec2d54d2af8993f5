-- Which variables escape (Appel, chapter 6): exactly those that a function nested in their
-- declaring function uses. A variable is named by the byte of its declaring identifier.
use Rattle.std.specs.Prelude.{ℕ, nat_lt, List, [], ◌∷◌, length, if◌then◌else◌}
use Rattle.std.specs.List.{flat_map}
use Rattle.tg_syntax.specs.Tree.{Exp}
use Rattle.tg_escape.specs.Uses.{DeclaredAs, a_variable, a_function, Use, uses_of}

-- a use of a name in a text of this level: the variable escapes where its own function is an outer
-- one
abbrev pub escaping : (level : ℕ) → DeclaredAs → List ℕ
escaping level (a_variable at own) = if nat_lt own level then at ∷ [] else []
escaping level (a_function own) = []

abbrev pub escapes_by : Use → List ℕ
escapes_by u = escaping (length u.within) u.of

-- the bytes of a program's variables that escape, in the order of the uses
abbrev pub escapes_of : Exp → List ℕ
escapes_of body = flat_map escapes_by (uses_of body)
