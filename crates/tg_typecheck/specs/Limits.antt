-- The limits of size and depth, which are tested after a program without another fault.
use Rattle.std.specs.Prelude.{ℕ, List, [], ◌∷◌, Option, Some, None, nat_lt, if◌then◌else◌}
use Rattle.tg_syntax.specs.Spans.{span_of}
use Rattle.tg_syntax.specs.Functions.{Measures, program_functions, program_size}
use Rattle.tg_syntax.specs.Tree.{Exp}
use Rattle.tg_typecheck.specs.declared.faults.TypeRule.{TypeRule}
use Rattle.tg_typecheck.specs.declared.faults.TypeRule.TheVariants.{T20, T21, T22}

-- a fault of a rule where a number is above its limit
abbrev pub above : TypeRule → (at : ℕ) → (number limit : ℕ) → Option (TypeRule × ℕ) →
    Option (TypeRule × ℕ)
above rule at number limit otherwise = if nat_lt limit number then Some (rule, at) else otherwise

-- the first function that is nested deeper than 32 levels, or whose body has more than 4096 nodes
abbrev pub first_above : List Measures → Option (TypeRule × ℕ)
first_above [] = None
first_above (f ∷ fs) = above T20 f.at f.level 32 (above T21 f.at f.size 4096 (first_above fs))

-- a program with more than 32768 nodes in all bodies, and then its first function above a limit,
-- its own body before the others
abbrev pub limit_fault : Exp → Option (TypeRule × ℕ)
limit_fault body =
    above T22 (span_of body).from (program_size body) 32768 (first_above (program_functions body))
