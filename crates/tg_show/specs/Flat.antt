-- The lines of canonical statements and of flat code (Appel, chapter 8).
use Rattle.std.specs.Prelude.{ℕ, List, [], ◌∷◌, ◌++◌, codes}
use Rattle.std.specs.Fmt.{decimal}
use Rattle.tg_tree.specs.declared.operators.Rel.{Rel}
use Rattle.tg_tree.specs.Tree.{Tx, Stms, no_stms, stm}
use Rattle.tg_tree.specs.Tree.{Linear, Mark, Do', Jump, Branch, Fault', Return'}
use Rattle.tg_show.specs.Layout.{laid}
use Rattle.tg_show.specs.Words.{rel_word}
use Rattle.tg_show.specs.Trees.{form, two, three, tx_text, ts_text}

abbrev pub statement_lines : (names : List (List ℕ)) → (margin : ℕ) → Stms → List ℕ
statement_lines names margin no_stms = []
statement_lines names margin (stm s ss) =
    laid margin (ts_text names s) ++ statement_lines names margin ss

-- a mark is told as in assembly text, but for the function's name in front of the period
abbrev pub mark_text : (mark : ℕ) → List ℕ
mark_text m = codes "." ++ decimal m

-- a branch up to where it leads
abbrev pub branch_front : (names : List (List ℕ)) → Rel → (left right : Tx) → List ℕ
branch_front names rel x y =
    codes "CJUMP(" ++ three (rel_word rel) (tx_text names x) (tx_text names y)

abbrev pub branch_text :
    (names : List (List ℕ)) → Rel → (left right : Tx) → (targets : List ℕ) → List ℕ
branch_text names rel x y targets = two (branch_front names rel x y) (targets ++ codes ")")

abbrev pub element_text : (names : List (List ℕ)) → Linear → List ℕ
element_text names (Mark m) = codes "LABEL " ++ mark_text m
element_text names (Do' s) = ts_text names s
element_text names (Jump m) = codes "JUMP " ++ mark_text m
element_text names (Branch rel x y m) = branch_text names rel x y (mark_text m)
element_text names (Fault' n) = codes "FAULT " ++ decimal n
element_text names (Return' x) = form (codes "RETURN") (tx_text names x)

-- what stands between marks is a level deeper than these
abbrev pub element_margin : Linear → ℕ
element_margin (Mark m) = 1
element_margin _ = 2

abbrev pub element_lines : (names : List (List ℕ)) → List Linear → List ℕ
element_lines names [] = []
element_lines names (e ∷ rest) =
    laid (element_margin e) (element_text names e) ++ element_lines names rest
