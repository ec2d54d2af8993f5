-- The shapes of blocks that passes ask for and give.
use Rattle.std.specs.Prelude.{ℕ, ◌<◌, List, length}
use Rattle.std.specs.List.{AllByRecursion}
use Rattle.tg_tree.specs.Tree.{Stms, no_stms, stm}
use Rattle.tg_tree.specs.Shapes.{IsFlat, IsFlatStatement}
use Rattle.tg_trace_schedule.specs.Block.{BlockEnd, Jump, Branch, Fault, Return, Block}

-- its statements and the expressions of its end are flat
abbrev pub AreFlatStatements : Stms → Type 0
AreFlatStatements no_stms = Unit {0}
AreFlatStatements (stm s ss) = IsFlatStatement s × AreFlatStatements ss

abbrev pub IsFlatEnd : BlockEnd → Type 0
IsFlatEnd (Jump _) = Unit {0}
IsFlatEnd (Branch _ x y _ _) = IsFlat x × IsFlat y
IsFlatEnd (Fault _) = Unit {0}
IsFlatEnd (Return x) = IsFlat x

abbrev pub IsFlatBlock : Block → Type 0
IsFlatBlock b = AreFlatStatements b.body × IsFlatEnd b.end

abbrev pub AreFlatBlocks : List Block → Type 0
AreFlatBlocks bs = AllByRecursion IsFlatBlock bs

-- it leads to places below a number alone
abbrev pub EndsBelow : (count : ℕ) → BlockEnd → Type 0
EndsBelow n (Jump p) = p < n
EndsBelow n (Branch _ _ _ p q) = (p < n) × (q < n)
EndsBelow n (Fault _) = Unit {0}
EndsBelow n (Return _) = Unit {0}

abbrev pub LeadsBelow : (count : ℕ) → Block → Type 0
LeadsBelow n b = EndsBelow n b.end

-- each place that a block leads to is one of theirs, and there is a first one
pub record AreWhole (bs : List Block) : Type 0 where
  pub entry : 0 < length bs
  pub within : AllByRecursion (LeadsBelow (length bs)) bs
