-- Interference graphs (George and Appel 1996, section 2): nodes, and which of them interfere. The
-- first nodes are the machine's registers, in the order of the colours, and each other node is a
-- temporary.
use Rattle.std.specs.Prelude.{ℕ, zero, suc, ◌+◌, ◌<◌, ◌==◌, nat_lt, ◌≡◌}
use Rattle.std.specs.Prelude.{Bool, true, false, not, ◌&&◌, ◌||◌, IsTrue, IsFalse}

-- K, the number of colours
abbrev pub colour_count : ℕ
colour_count = 25

abbrev pub is_register : ℕ → Bool
is_register x = nat_lt x colour_count

-- a set of nodes, and a set of pairs of nodes, by their tests
abbrev pub Set : Type 0
Set = ℕ → Bool

abbrev pub Pairs : Type 0
Pairs = ℕ → ℕ → Bool

pub record Graph : Type 0 where
  pub nodes : ℕ
  pub pairs : Pairs

-- two nodes interfere in either order, and none with itself
pub record IsGraph (graph : Graph) : Type 0 where
  pub symmetric : (x y : ℕ) → graph.pairs x y ≡ graph.pairs y x
  pub irreflexive : (x : ℕ) → IsFalse (graph.pairs x x)

-- How many numbers below n are in a set; whether one is; whether all are.

abbrev pub bit : Bool → ℕ
bit true = 1
bit false = 0

abbrev pub count : Set → ℕ → ℕ
count S zero = 0
count S (suc n) = bit (S n) + count S n

abbrev pub some : Set → ℕ → Bool
some S zero = false
some S (suc n) = S n || some S n

abbrev pub every : Set → ℕ → Bool
every S zero = true
every S (suc n) = S n && every S n

-- The nodes that remain of a graph, and the pairs that they have by now.
module _ (nodes : ℕ) (remaining : Set) (pairs : Pairs) where
  abbrev pub neighbours : ℕ → Set
  neighbours x y = remaining y && pairs x y

  abbrev pub degree : ℕ → ℕ
  degree x = count (neighbours x) nodes

  -- a temporary with fewer neighbours than there are colours; a register counts as high
  abbrev pub is_low : ℕ → Bool
  is_low x = not (is_register x) && nat_lt (degree x) colour_count

-- a set without a node
abbrev pub without : ℕ → Set → Set
without x S y = not (y == x) && S y

-- one node takes the pairs of another
abbrev pub merged : (kept gone : ℕ) → Pairs → Pairs
merged kept gone pairs x y =
    pairs x y || (x == kept && pairs gone y) || (y == kept && pairs x gone)

-- taking out low temporaries, one after another, leaves registers alone
pub data IsGreedilyColourable (nodes : ℕ) (pairs : Pairs) : Set → Type 0 where
  registers_alone :
      (S : Set) →
      ((x : ℕ) → x < nodes → IsTrue (S x) → IsTrue (is_register x)) →
      IsGreedilyColourable nodes pairs S
  without_low :
      (S : Set) (x : ℕ) →
      x < nodes →
      IsTrue (S x) →
      IsTrue (is_low nodes S pairs x) →
      IsGreedilyColourable nodes pairs (without x S) →
      IsGreedilyColourable nodes pairs S
