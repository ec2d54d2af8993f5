-- Where control goes back, it goes to the head of a loop, at which alone the loop is entered. So
-- the code of blocks jumps back alone, and falls forward alone.
use Rattle.std.specs.Prelude.{ℕ, ◌≡◌, ◌≢◌, ◌≤◌, ◌<◌, ◌⊎◌, List, [], ◌∷◌, ◌++◌}
use Rattle.std.specs.List.{Contains}
use Rattle.tg_tree.specs.Tree as tree
use Rattle.tg_tree.specs.Tree.{Stms, Linear, Mark}
use Rattle.tg_tree.specs.Shapes.{AreClosed}
use Rattle.tg_trace_schedule.specs.Block.{BlockEnd, Jump, Branch, Fault, Return, Block}
use Rattle.tg_trace_schedule.specs.Shapes.{AreWhole}
use Rattle.tg_trace_schedule.specs.mirror.Cutting.{blocks_of}
use Rattle.tg_trace_schedule.specs.mirror.Laying.{block_at, traced}

-- where control may go from a block's end
abbrev pub LeadsTo : BlockEnd → (place : ℕ) → Type 0
LeadsTo (Jump p) r = p ≡ r
LeadsTo (Branch _ _ _ p q) r = (p ≡ r) ⊎ (q ≡ r)
LeadsTo (Fault _) r = ⊥
LeadsTo (Return _) r = ⊥

-- a path along the ends of blocks that doesn't come to a place
pub data PassesBy (bs : List Block) (place : ℕ) : (from to : ℕ) → Type 0 where
  begins : (p : ℕ) → p ≢ place → PassesBy bs place p p
  goes_on :
      (p q r : ℕ) →
      PassesBy bs place p q →
      LeadsTo (block_at bs q).end r →
      r ≢ place →
      PassesBy bs place p r

-- Where a block leads to a place that isn't above its own, each path to the block from a block in
-- front of that place goes through it; so each path from the first block does.
abbrev pub AreEnteredAtHeads : List Block → Type 0
AreEnteredAtHeads bs =
    (from p head : ℕ) →
    LeadsTo (block_at bs p).end head → head ≤ p → from < head → PassesBy bs head from p → ⊥

-- as are the blocks of a closed body
abbrev pub BlocksAreEntered : Type 0
BlocksAreEntered = (ss : Stms) → AreClosed ss → AreEnteredAtHeads (blocks_of ss)

-- each jump goes to a mark that stands earlier
abbrev pub JumpsGoBack : (earlier : List ℕ) → List Linear → Type 0
JumpsGoBack earlier [] = Unit {0}
JumpsGoBack earlier (Mark m ∷ rest) = JumpsGoBack (earlier ++ m ∷ []) rest
JumpsGoBack earlier (tree.Jump m ∷ rest) = Contains earlier m × JumpsGoBack earlier rest
JumpsGoBack earlier (_ ∷ rest) = JumpsGoBack earlier rest

-- what follows a branch is its false side or a jump to it
abbrev pub LeadOn : List Linear → Type 0
LeadOn (Mark _ ∷ rest) = Unit {0}
LeadOn (tree.Jump _ ∷ rest) = Unit {0}
LeadOn _ = ⊥

abbrev pub BranchesLeadOn : List Linear → Type 0
BranchesLeadOn [] = Unit {0}
BranchesLeadOn (tree.Branch _ _ _ _ ∷ rest) = LeadOn rest × BranchesLeadOn rest
BranchesLeadOn (_ ∷ rest) = BranchesLeadOn rest

-- of any blocks
abbrev pub FalseSideFollows : Type 0
FalseSideFollows = (bs : List Block) → BranchesLeadOn (traced bs)

abbrev pub JumpsAreBack : Type 0
JumpsAreBack = (bs : List Block) → AreWhole bs → JumpsGoBack [] (traced bs)
