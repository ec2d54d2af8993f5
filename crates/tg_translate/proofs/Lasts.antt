-- Lists of statements whose last one returns, in the code and as trees.
use Rattle.std.proofs.Common.{◌≡◌, ℕ, ◌<◌, List, [], ◌∷◌, ◌++◌, length, refl, sym, ap, ◌∙◌, subst, arith, true, false}
use Rattle.tg_tree.specs.declared.trees.Ts.{Ts as CodeTs}
use Rattle.tg_tree.specs.Tree.{Return, Temp, stm}
use Rattle.tg_tree.specs.glue.Plain.{plain_ts}
use Rattle.tg_tree.specs.glue.Lists.{stms_of}
use Rattle.tg_translate.specs.mirror.Returning.{returned_from, all_returned_from}

last_returns : (i : ℕ) (before : List CodeTs) (s u : CodeTs) → plain_ts u ≡ returned_from i (plain_ts s) →
    stms_of (before ++ u ∷ []) ≡ all_returned_from i (stms_of (before ++ s ∷ []))
last_returns i [] s u h = ap (λ x. stm x (stms_of [])) h
last_returns i (b ∷ []) s u h = ap (λ x. stm (plain_ts b) (stm x (stms_of []))) h
last_returns i (b ∷ d ∷ before) s u h = ap (stm (plain_ts b)) (last_returns i (d ∷ before) s u h)

-- the last statement is taken, and another stands in its place
pub replaced : (i : ℕ) (old rest after : List CodeTs) (s u : CodeTs) → old ≡ rest ++ s ∷ [] → plain_ts u ≡ returned_from i (plain_ts s) →
    after ≡ rest ++ u ∷ [] → stms_of after ≡ all_returned_from i (stms_of old)
replaced i old rest after s u whole is more = ap stms_of more ∙ (last_returns i rest s u is ∙ sym (ap (λ xs. all_returned_from i (stms_of xs)) whole))

-- where there is none, a return is the only one
only : (i : ℕ) (rest after : List CodeTs) (u : CodeTs) → (0 < length (rest ++ []) → false ≡ true) → plain_ts u ≡ Return (Temp i) →
    after ≡ rest ++ u ∷ [] → stms_of after ≡ all_returned_from i (stms_of (rest ++ []))
only i [] after u none is more = ap stms_of more ∙ ap (λ x. stm x (stms_of [])) is
only i (s ∷ rest) after u none is more = let h : false ≡ true = none (omega arith) in cc

pub added : (i : ℕ) (old rest after : List CodeTs) (u : CodeTs) → old ≡ rest ++ [] → (0 < length old → false ≡ true) → plain_ts u ≡ Return (Temp i) →
    after ≡ rest ++ u ∷ [] → stms_of after ≡ all_returned_from i (stms_of old)
added i old rest after u whole none is more =
    only i rest after u (subst (λ xs. 0 < length xs → false ≡ true) whole none) is more ∙ sym (ap (λ xs. all_returned_from i (stms_of xs)) whole)
