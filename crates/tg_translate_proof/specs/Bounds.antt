-- What the frame of a function of the source may have, and its level, by its label: the functions
-- of a translation stand in the order of those of the text.
use Rattle.std.specs.Prelude.{ℕ, ◌==◌, List, [], ◌∷◌, Option, Some, None, if◌then◌else◌}
use Rattle.tg_syntax.specs.Functions.{Measures}
use Rattle.tg_semantics.specs.Levels.{activation}
use Rattle.tg_tree.specs.Tree.{Ts, Function}

abbrev pub measures_of : (label : ℕ) → List Measures → List (Function Ts) → Option Measures
measures_of label (m ∷ ms) (f ∷ fs) = if f.label == label then Some m else measures_of label ms fs
measures_of label _ _ = None

abbrev pub bound_by : Option Measures → ℕ
bound_by (Some m) = activation m.nodes m.hops
bound_by None = 0

abbrev pub level_by : Option Measures → ℕ
level_by (Some m) = m.level
level_by None = 0

-- what is told of the function whose name stands at a byte
abbrev pub declared_at : (at : ℕ) → List Measures → Option Measures
declared_at at [] = None
declared_at at (m ∷ ms) = if m.at == at then Some m else declared_at at ms
