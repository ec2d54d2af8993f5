-- The lines of basic blocks (Appel, chapter 8): each begins with its mark, which is its place, and
-- ends in where control goes.
use Rattle.std.specs.Prelude.{ℕ, suc, List, [], ◌∷◌, ◌++◌, codes}
use Rattle.std.specs.Fmt.{decimal}
use Rattle.tg_trace_schedule.specs.Block.{BlockEnd, Jump, Branch, Fault, Return, Block}
use Rattle.tg_show.specs.Layout.{laid}
use Rattle.tg_show.specs.Trees.{form, two, tx_text}
use Rattle.tg_show.specs.Flat.{mark_text, branch_text, statement_lines}

-- of a branch the true side is first
abbrev pub end_text : (names : List (List ℕ)) → BlockEnd → List ℕ
end_text names (Jump p) = codes "JUMP " ++ mark_text p
end_text names (Branch rel x y p q) = branch_text names rel x y (two (mark_text p) (mark_text q))
end_text names (Fault n) = codes "FAULT " ++ decimal n
end_text names (Return x) = form (codes "RETURN") (tx_text names x)

abbrev pub block_lines : (names : List (List ℕ)) → (place : ℕ) → Block → List ℕ
block_lines names place b =
    laid 1 (codes "LABEL " ++ mark_text place) ++
    (statement_lines names 2 b.body ++ laid 2 (end_text names b.end))

-- of the blocks from a place on
abbrev pub blocks_lines : (names : List (List ℕ)) → (place : ℕ) → List Block → List ℕ
blocks_lines names place [] = []
blocks_lines names place (b ∷ rest) =
    block_lines names place b ++ blocks_lines names (suc place) rest
