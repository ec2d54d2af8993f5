-- The laws of the runtime's functions: what passes ask of them, and how large they are.
use Rattle.std.specs.Prelude.{◌≡◌, ◌≤◌, ◌^◌, ℕ, List, [], ◌∷◌, Bool, false, nat_lt, IsTrue}
use Rattle.std.specs.List.{list_all}
use Rattle.tg_tree.specs.Tree.{Ts, Function}
use Rattle.tg_tree.specs.Shapes.{IsClosed}
use Rattle.tg_tree.specs.Named.{
  Named,
  function,
  literal,
  fault,
  temporary,
  constant,
  named_ts,
  function_labels,
  HasWords,
}
use Rattle.tg_tree.specs.Sizes.{tree_length, tree_needs}
use Rattle.tg_runtime.specs.mirror.Routines.{runtime}

-- no two functions have one label, and each is below 32
abbrev pub LabelsInOrder : Type 0
LabelsInOrder =
    function_labels (λ body. named_ts body []) runtime ≡
    0 ∷ 1 ∷ 2 ∷ 3 ∷ 4 ∷ 5 ∷ 6 ∷ 7 ∷ 8 ∷ 9 ∷ 10 ∷ 11 ∷ 12 ∷ []

-- what a function may name: none of the functions, so that none is open within another one, and no
-- literal; faults that have a code; temporaries that its frame has; and constants that are words
abbrev pub is_own : (temps : ℕ) → Named → Bool
is_own temps (function label) = false
is_own temps (literal label) = false
is_own temps (fault n) = nat_lt n 1048576
is_own temps (temporary i) = nat_lt i temps
is_own temps (constant n) = nat_lt n (2 ^ 32)

-- the most of length and of needs that a function has
abbrev pub most_length : ℕ
most_length = 300

abbrev pub most_needs : ℕ
most_needs = 300

pub record IsRoutine (f : Function Ts) : Type 0 where
  pub closed : IsClosed f.body
  pub own : IsTrue (list_all (is_own f.temps) (named_ts f.body []))
  pub short : tree_length f ≤ most_length
  pub small : tree_needs f ≤ most_needs

abbrev pub AreRoutines : List (Function Ts) → Type 0
AreRoutines [] = Unit {0}
AreRoutines (f ∷ fs) = IsRoutine f × AreRoutines fs

abbrev pub AllAreRoutines : Type 0
AllAreRoutines = AreRoutines runtime.functions

-- the same of constants, as of any code
abbrev pub RuntimeHasWords : Type 0
RuntimeHasWords = HasWords (λ body. named_ts body []) runtime
