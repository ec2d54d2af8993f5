-- What the passes ask of the sizes of a function, and how small its tree has to be for that.
use Rattle.std.specs.Prelude.{ℕ, ◌≤◌, ◌<◌, ◌+◌, ◌*◌, length}
use Rattle.tg_tree.specs.Tree.{Ts, Function}
use Rattle.tg_tree.specs.Sizes.{
  tree_length,
  tree_needs,
  canonical_length,
  canonical_needs,
  flat_length,
  flat_needs,
}
use Rattle.tg_canon.specs.laws.Meaning.{canonical}
use Rattle.tg_canon_trace_proof.specs.Flattened.{flattened, MayBeFlattened}
use Rattle.tg_munch.specs.mirror.Bodies.{munched}

-- the most of length and of needs that a pass takes, before instructions are chosen
abbrev pub most_length : ℕ
most_length = 100000000

abbrev pub most_needs : ℕ
most_needs = 4000000

-- Trees, canonical statements and flat code are within that; and the temporaries of the
-- instructions, with four for each of them, have numbers of 24 bits.
pub record MeetsConditions (f : Function Ts) : Type 0 where
  pub tree_short : tree_length f ≤ most_length
  pub tree_small : tree_needs f ≤ most_needs
  pub canonical_short : canonical_length (canonical f) ≤ most_length
  pub canonical_small : canonical_needs (canonical f) ≤ most_needs
  pub flat_short : flat_length (flattened f) ≤ most_length
  pub flat_small : flat_needs (flattened f) ≤ most_needs
  pub instructions :
      (munched (flattened f)).drawn.temp + 4 * length (munched (flattened f)).code < 16777216

-- a tree that is no larger than that of any function of an accepted program
pub record IsSmallTree (f : Function Ts) : Type 0 where
  pub short : tree_length f ≤ 800000
  pub small : tree_needs f ≤ 1200000

abbrev pub SmallIsEnough : Type 0
SmallIsEnough = (f : Function Ts) → MayBeFlattened f → IsSmallTree f → MeetsConditions f
