-- Two values have one text where a law would ask for less, or where the texts would have no parentheses.
use Rattle.std.proofs.Common.{◌≡◌, ℕ, List, [], ◌∷◌, refl}
use Rattle.std.specs.Prelude.{◌==◌, ◌||◌, if◌then◌else◌}
use Rattle.std.specs.Fmt.{digits}
use Rattle.tg_tree.specs.Tree.{Const, Ts, Fault, Break, Return, Seq, no_stms, stm, Do', Fault', Return'}
use Rattle.tg_show.specs.Trees.{tx_text, ts_text}
use Rattle.tg_show.specs.Flat.{element_lines}

-- A constant is told as an int, which numbers that are no words may have too.
one_int : tx_text [] (Const 4294967295) ≡ tx_text [] (Const 4294967296)
unfolding digits
one_int = refl

-- Outside of flat code, a statement that is a fault or a return has the text of the element.
one_fault : element_lines [] (Do' (Fault 5) ∷ []) ≡ element_lines [] (Fault' 5 ∷ [])
one_fault = refl

one_return : element_lines [] (Do' (Return (Const 5)) ∷ []) ≡ element_lines [] (Return' (Const 5) ∷ [])
one_return = refl

-- Without parentheses trees would not be told: what stands in a sequence within, and behind it.
abbrev without_parentheses : List ℕ → List ℕ
without_parentheses [] = []
without_parentheses (c ∷ rest) = if c == 40 || c == 41 then without_parentheses rest else c ∷ without_parentheses rest

abbrev behind_it : Ts
behind_it = Seq (stm (Seq (stm (Break 0) no_stms)) (stm (Break 1) no_stms))

abbrev within : Ts
within = Seq (stm (Seq (stm (Break 0) (stm (Break 1) no_stms))) no_stms)

one_sequence : without_parentheses (ts_text [] behind_it) ≡ without_parentheses (ts_text [] within)
unfolding digits
one_sequence = refl
