-- What the walks over lines do with one of them.
use Rattle.std.specs.Prelude.{ℕ, List, [], ◌∷◌, Bool, false, if◌then◌else◌}
use Rattle.tg_emit.specs.declared.assembly.Line.{Line}
use Rattle.tg_emit.specs.declared.assembly.Line.TheVariants.{One}
use Rattle.tg_delay.specs.Filling.{around_name, branches, controls, movable, turned}

-- the first of some lines goes into the slot of the next one
abbrev pub is_moved : Line → (rest : List Line) → Bool
is_moved (One one target) (One other there ∷ rest) = movable one other
is_moved line rest = false

-- a slot stands behind a line
abbrev pub takes_slot : Line → Bool
takes_slot (One one target) = controls one
takes_slot line = false

-- the branches of a line
abbrev pub branches_of : Line → ℕ
branches_of (One one target) = if branches one then 1 else 0
branches_of line = 0

-- a line in front of so many branches; a branch is turned round
abbrev pub turned_line : (behind : ℕ) → Line → List Line
turned_line behind (One one target) = turned one target (around_name behind) []
turned_line behind line = line ∷ []
