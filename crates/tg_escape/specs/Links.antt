-- Through whose static links nested functions go (Appel, chapter 6). A use at level l of a name
-- that a text of level m declares goes from the frame at l to that at m by l - m links: the user's
-- own first, and then those of the functions around it of the levels l - 1 down to m + 1. A
-- function is named by the byte of its declaring identifier.
use Rattle.std.specs.Prelude.{ℕ, ◌-◌, List, length, slice_range}
use Rattle.std.specs.List.{flat_map}
use Rattle.tg_syntax.specs.Tree.{Exp}
use Rattle.tg_escape.specs.Uses.{DeclaredAs, a_variable, a_function, Use, uses_of}

-- the level of the text that declares a name
abbrev pub level_of : DeclaredAs → ℕ
level_of (a_variable at own) = own
level_of (a_function own) = own

-- the functions around a user whose links its use goes through: the function of level k stands at
-- place k - 1 of those that the use lies in, and the last of them is the user itself
abbrev pub links_by : Use → List ℕ
links_by u = slice_range u.within (level_of u.of) (length u.within - 1)

-- the functions of a program whose links functions nested in them go through, in the order of the
-- uses
abbrev pub links_of : Exp → List ℕ
links_of body = flat_map links_by (uses_of body)
