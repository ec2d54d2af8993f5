-- Blocks are laid in traces (Appel, chapter 8): after each block comes one that it leads to, for
-- as long as such a one isn't laid. So a jump is left only where it goes back.
use Rattle.std.specs.Prelude.{ℕ, zero, suc, ◌==◌, Bool, true, false, if◌then◌else◌}
use Rattle.std.specs.Prelude.{List, [], ◌∷◌, ◌++◌, length, replicate, slice_get, slice_set}
use Rattle.std.specs.Prelude.{slice_index_or, Option, Some, None}
use Rattle.tg_tree.specs.declared.operators.Rel.{Rel}
use Rattle.tg_tree.specs.Tree as tree
use Rattle.tg_tree.specs.Tree.{Stms, no_stms, stm, Linear, Mark, Do'}
use Rattle.tg_tree.specs.Operators.{opposite}
use Rattle.tg_trace_schedule.specs.Block.{BlockEnd, Jump, Branch, Fault, Return, Block}

-- what stands where there is no block
abbrev pub no_block : Block
no_block = record { body = no_stms; end = Fault 0 }

abbrev pub block_at : List Block → (place : ℕ) → Block
block_at blocks place = slice_index_or blocks place no_block

-- The order in which blocks are laid, by their places, and of each place whether its block is laid.
pub record Order : Type 0 where
  pub places : List ℕ
  pub laid : List Bool

abbrev pub put : (place : ℕ) → Order → Order
put place o = record { places = o.places ++ place ∷ []; laid = slice_set o.laid place true }

abbrev pub unless : Option Bool → (place : ℕ) → Option ℕ → Option ℕ
unless (Some false) place other = Some place
unless _ place other = other

abbrev pub unless_laid : List Bool → (place : ℕ) → Option ℕ → Option ℕ
unless_laid laid place other = unless (slice_get laid place) place other

-- a block that does nothing but fail
abbrev pub fails_at_once : Stms → BlockEnd → Bool
fails_at_once no_stms (Fault n) = true
fails_at_once _ _ = false

abbrev pub only_fails : Block → Bool
only_fails b = fails_at_once b.body b.end

-- the first of two places that isn't laid
abbrev pub first_unlaid : List Bool → (place other : ℕ) → Option ℕ
first_unlaid laid p q = unless_laid laid p (unless_laid laid q None)

-- what comes after a block: where it leads that isn't laid, the true side of a branch first, but
-- last where the block there only fails, so that a check that is passed falls through
abbrev pub onward : List Block → List Bool → BlockEnd → Option ℕ
onward blocks laid (Jump p) = unless_laid laid p None
onward blocks laid (Branch _ _ _ p q) =
    if only_fails (block_at blocks p) then first_unlaid laid q p else first_unlaid laid p q
onward blocks laid (Fault _) = None
onward blocks laid (Return _) = None

-- after an order the block at a place, and more as long as it leads to one that isn't laid, so
-- many at most
abbrev pub follow : (most : ℕ) → List Block → Option ℕ → Order → Order
follow zero blocks next o = o
follow (suc k) blocks None o = o
follow (suc k) blocks (Some p) o =
    follow k blocks (onward blocks (slice_set o.laid p true) (block_at blocks p).end) (put p o)

abbrev pub trace_from : List Block → (place : ℕ) → Order → Order
trace_from blocks p o = follow (length blocks) blocks (unless_laid o.laid p None) o

-- traces from the first places on
abbrev pub traces : (count : ℕ) → List Block → Order
traces zero blocks = record { places = []; laid = replicate (length blocks) false }
traces (suc k) blocks = trace_from blocks k (traces k blocks)

-- Blocks in an order as flat code.

abbrev pub is_next : Option ℕ → (place : ℕ) → Bool
is_next None place = false
is_next (Some p) place = p == place

abbrev pub jump_unless : Bool → (mark : ℕ) → List Linear
jump_unless true mark = []
jump_unless false mark = tree.Jump mark ∷ []

-- a branch in front of its true side is turned round
abbrev pub branch_by :
    Bool → (next : Option ℕ) → Rel → (left right : tree.Tx) → (yes' no' : ℕ) → List Linear
branch_by true next rel x y p q = tree.Branch (opposite rel) x y q ∷ []
branch_by false next rel x y p q = tree.Branch rel x y p ∷ jump_unless (is_next next q) q

-- an end, by the block that comes next
abbrev pub end_code : (next : Option ℕ) → BlockEnd → List Linear
end_code next (Jump p) = jump_unless (is_next next p) p
end_code next (Branch rel x y p q) = branch_by (is_next next p) next rel x y p q
end_code next (Fault n) = tree.Fault' n ∷ []
end_code next (Return x) = tree.Return' x ∷ []

abbrev pub body_code : Stms → List Linear
body_code no_stms = []
body_code (stm s ss) = Do' s ∷ body_code ss

abbrev pub block_code : (place : ℕ) → (next : Option ℕ) → Block → List Linear
block_code p next b = Mark p ∷ (body_code b.body ++ end_code next b.end)

-- each block is taken out of the list, so that none is laid twice
abbrev pub code_in : (order : List ℕ) → List Block → List Linear
code_in [] blocks = []
code_in (p ∷ ps) blocks =
    block_code p (slice_get ps 0) (block_at blocks p) ++ code_in ps (slice_set blocks p no_block)

-- the flat code of blocks
abbrev pub traced : List Block → List Linear
traced blocks = code_in (traces (length blocks) blocks).places blocks
