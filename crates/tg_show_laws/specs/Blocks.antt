-- The numbers of blocks are words, and so are their places.
use Rattle.std.specs.Prelude.{ℕ, suc, List, [], ◌∷◌}
use Rattle.tg_trace_schedule.specs.Block.{BlockEnd, Jump, Branch, Fault, Return, Block}
use Rattle.tg_show_laws.specs.Fitting.{IsWord, NumbersFitTx, NumbersFitStms}

abbrev pub NumbersFitEnd : BlockEnd → Type 0
NumbersFitEnd (Jump p) = IsWord p
NumbersFitEnd (Branch _ x y p q) = NumbersFitTx x × NumbersFitTx y × IsWord p × IsWord q
NumbersFitEnd (Fault n) = IsWord n
NumbersFitEnd (Return x) = NumbersFitTx x

-- of blocks whose first place is a number
abbrev pub NumbersFitBlocks : (place : ℕ) → List Block → Type 0
NumbersFitBlocks place [] = Unit {0}
NumbersFitBlocks place (b ∷ rest) =
    IsWord place × NumbersFitStms b.body × NumbersFitEnd b.end × NumbersFitBlocks (suc place) rest
