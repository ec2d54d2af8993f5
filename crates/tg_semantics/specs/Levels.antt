-- What an activation of a function weighs, by the measures of its text. Weights are this compiler's
-- own: what they allow for is what its frames have at most, so a stack that the weight never passes
-- is never full.
use Rattle.std.specs.Prelude.{ℕ, suc, ◌+◌, ◌*◌, List, [], ◌∷◌}
use Rattle.tg_syntax.specs.Tree.{Exp}
use Rattle.tg_syntax.specs.Functions.{Levels, own_functions, function_nodes, function_hops}
use Rattle.tg_semantics.specs.Values.{Entry, variable, group, standard}
use Rattle.tg_semantics.specs.Environments.{SourceFunction}

-- the levels at which entries are declared
abbrev pub levels_of : List Entry → Levels
levels_of [] = []
levels_of (variable x level place ∷ rest) = record { name = x; level = level } ∷ levels_of rest
levels_of (group level fs ∷ rest) = own_functions level fs (levels_of rest)
levels_of (standard x f ∷ rest) = levels_of rest

-- the bytes that an activation weighs, by the nodes of its function and the levels that its text
-- crosses
abbrev pub activation : (nodes hops : ℕ) → ℕ
activation nodes hops = 256 * nodes + 64 * hops + 1024

-- of the program's body
abbrev pub program_weight : Exp → ℕ
program_weight body = activation (function_nodes [] body) (function_hops 0 [] [] body)

-- of a function that is declared at this level and sees these entries
abbrev pub function_weight : (level : ℕ) → SourceFunction → List Entry → ℕ
function_weight level f seen =
    activation
    (function_nodes f.params f.body)
    (function_hops (suc level) (levels_of seen) f.params f.body)

-- of an open call of the runtime
abbrev pub runtime_weight : ℕ
runtime_weight = 4096
