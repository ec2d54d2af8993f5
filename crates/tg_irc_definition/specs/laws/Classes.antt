-- Which nodes a round puts into one class (George and Appel 1996, section 4): those alone that
-- moves lead to from one another. So a node without moves stands alone, and one without pairs too
-- gets the first colour.
use Rattle.std.specs.Prelude.{◌≡◌, ◌≢◌, ◌<◌, ◌⊎◌, ℕ, nat_eq, IsTrue, IsFalse, All, Some}
use Rattle.std.specs.Prelude.{slice_get, slice_index_or}
use Rattle.std.specs.List.{IsDistinct}
use Rattle.tg_irc_definition.specs.declared.rounds.Round.{Round}
use Rattle.tg_irc_definition.specs.Graphs.{Set, is_register}
use Rattle.tg_irc_definition.specs.States.{Problem}
use Rattle.tg_irc_definition.specs.Rounds.{IsRound}
use Rattle.tg_irc_definition.specs.laws.Laws.{IsTemporary, OfEachRound}

-- the node under which a node's class stands
abbrev pub class_of : Round → (node : ℕ) → ℕ
class_of round x = slice_index_or round.aliases x 0

-- each move has both ends in the set or none
abbrev pub HasWholeMoves : Problem → Set → Type 0
HasWholeMoves g S = All (λ m. S m.to ≡ S m.from) g.moves

-- then the node under which a class stands is in the set exactly where the members are
abbrev pub ClassesStayWithin : Type 0
ClassesStayWithin =
    (g : Problem) (round : Round) →
    IsRound g round →
    (S : Set) →
    HasWholeMoves g S →
    (x : ℕ) →
    x < g.graph.nodes →
    S (class_of round x) ≡ S x

-- the node is a class of its own
pub record IsAlone (g : Problem) (round : Round) (x : ℕ) : Type 0 where
  pub own : class_of round x ≡ x
  pub no_other : (y : ℕ) → y < g.graph.nodes → class_of round y ≡ x → y ≡ x

-- a register's class stands under the register
abbrev pub RegistersStandAbove : Type 0
RegistersStandAbove =
    OfEachRound
    (λ g round. (x : ℕ) → x < g.graph.nodes → IsTrue (is_register x) → class_of round x ≡ x)

-- nodes that interfere are of two classes, also where a class is spilled and has no colour
abbrev pub ClassesAreApart : Type 0
ClassesAreApart =
    OfEachRound
    (λ g round.
    (x y : ℕ) →
    x < g.graph.nodes →
    y < g.graph.nodes →
    IsTrue (g.graph.pairs x y) →
    class_of round x ≢ class_of round y)

-- no move ends in the node
abbrev pub IsUntouched : Problem → ℕ → Type 0
IsUntouched g x = All (λ m. (m.to ≢ x) × (m.from ≢ x)) g.moves

abbrev pub UntouchedStandAlone : Type 0
UntouchedStandAlone =
    (g : Problem) (round : Round) →
    IsRound g round →
    (x : ℕ) →
    x < g.graph.nodes →
    IsUntouched g x →
    IsAlone g round x

-- each move that ends in the node has its other end there
abbrev pub IsTouchedFrom : Problem → (x other : ℕ) → Type 0
IsTouchedFrom g x other =
    All (λ m. (m.to ≡ x → m.from ≡ other) × (m.from ≡ x → m.to ≡ other)) g.moves

-- such a node stands alone or in the class of that end
abbrev pub OneNeighbourIsJoined : Type 0
OneNeighbourIsJoined =
    (g : Problem) (round : Round) →
    IsRound g round →
    (x other : ℕ) →
    x < g.graph.nodes →
    other < g.graph.nodes →
    IsTouchedFrom g x other →
    IsAlone g round x ⊎ (class_of round x ≡ class_of round other)

-- it has the first colour and isn't spilled
pub record IsFirstColoured (round : Round) (x : ℕ) : Type 0 where
  pub colour : slice_get round.colours x ≡ Some (Some 0)
  pub not_spilled : All (λ y. y ≢ x) round.spilled

-- a temporary without moves and without pairs does
abbrev pub BareAreFirstColoured : Type 0
BareAreFirstColoured =
    OfEachRound
    (λ g round.
    (x : ℕ) →
    IsTemporary g x →
    IsUntouched g x →
    ((y : ℕ) → y < g.graph.nodes → IsFalse (g.graph.pairs x y)) →
    IsFirstColoured round x)

-- a spilled class is named once, by the node under which it stands
pub record NamesClasses (round : Round) : Type 0 where
  pub own : All (λ x. class_of round x ≡ x) round.spilled
  pub once : IsDistinct nat_eq round.spilled

abbrev pub SpilledNameClasses : Type 0
SpilledNameClasses = OfEachRound (λ g round. NamesClasses round)
