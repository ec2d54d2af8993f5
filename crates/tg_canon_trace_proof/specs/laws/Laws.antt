-- What the passes of chapter 8 promise together. Their constants are those of each, added up.
use Rattle.std.specs.Prelude.{ℕ, ◌+◌, ◌≤◌, List}
use Rattle.std.specs.List.{Contains}
use Rattle.tg_simulation.specs.Preserving.{Preserves}
use Rattle.tg_tree.specs.Tree.{Ts, Function, Code}
use Rattle.tg_tree.specs.Units.{Trees}
use Rattle.tg_tree.specs.Running.{tree_run}
use Rattle.tg_tree.specs.Flat.{flat_run}
use Rattle.tg_tree.specs.Sizes.{tree_length, tree_needs, flat_length, flat_needs}
use Rattle.tg_canon.specs.laws.Meaning as canon
use Rattle.tg_trace_schedule.specs.laws.Laws as lengths
use Rattle.tg_trace_schedule.specs.laws.Carried as cutting
use Rattle.tg_trace_schedule.specs.laws.Traced as laying
use Rattle.tg_canon_trace_proof.specs.Flattened.{flattened, flattened_code, MayBeFlattened}

-- units of work that a program does besides what its trees do
abbrev pub added_work : ℕ
added_work = canon.added_work + (cutting.added_work + laying.laying_work)

-- units of length that a function has besides its tree's
abbrev pub added_length : ℕ
added_length = canon.added_length + lengths.added_length

-- words that a function needs besides its tree's needs; and what all passes may add together, of
-- which this is a part
abbrev pub added_needs : ℕ
added_needs = canon.added_needs

abbrev pub most_added_needs : ℕ
most_added_needs = 256

-- Flat code does what the trees did: each run of them that doesn't go wrong is one of the code,
-- with at least as much fuel, the same output, input left and end, and hardly more work.
abbrev pub FlattenIsCorrect : Type 0
FlattenIsCorrect =
    (code : Code Ts) (size : ℕ → ℕ) (floor room body : ℕ) (input : List ℕ) →
    ((f : Function Ts) → Contains code.functions f → MayBeFlattened f) →
    Preserves 1 added_work
    (tree_run Trees code size floor room body input)
    (flat_run (flattened_code code) size floor room body input)

-- Lengths and needs of its functions.
abbrev pub LengthStays : Type 0
LengthStays =
    (f : Function Ts) →
    MayBeFlattened f →
    flat_length (flattened f) ≤ tree_length f + added_length

abbrev pub NeedsStay : Type 0
NeedsStay =
    (f : Function Ts) →
    MayBeFlattened f →
    flat_needs (flattened f) ≤ tree_needs f + added_needs

abbrev pub NeedsAreLeft : Type 0
NeedsAreLeft = added_needs ≤ most_added_needs
