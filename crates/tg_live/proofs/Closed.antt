-- A list of places that is closed by computation has each place that an operand is live out of: so
-- an operand that is live out of no other place is shown not to be by computing.
use Rattle.std.proofs.Common.{◌≡◌, ◌+◌, ℕ, zero, suc, Bool, true, false, not, nat_eq, ◌&&◌, ◌||◌, List, [], ◌∷◌, sym, ap, ◌∙◌, arith, ⊎_elim}
use Rattle.std.specs.List.{list_any}
use Rattle.std.proofs.lemmas.Bool.{and_parts, and_from, or_cases, or_left, or_right, false≢true, eqb-true, not_from_false, both_ways, not-true}
use Rattle.tg_instr.specs.declared.instr.Instr.{Instr}
use Rattle.tg_instr.specs.declared.operands.Opnd.{Opnd}
use Rattle.tg_live.specs.Flow.{successors, goes_on}
use Rattle.tg_live.specs.Live.{is_used, is_defined, IsLiveOut}
use Rattle.tg_live.specs.glue.Tables.{row}
use Rattle.tg_live.proofs.Reach.{least}

module _ (all : List Instr) (x : Opnd) (places : List ℕ) where
  abbrev pub has : ℕ → Bool
  has at = list_any (nat_eq at) places

  -- the operand is live into a place, by what the list has
  abbrev pub is_live_into : ℕ → Bool
  is_live_into next = is_used all x next || (not (is_defined all x next) && has next)

  abbrev pub is_closed_from : (at : ℕ) → List (List ℕ) → Bool
  is_closed_from at [] = true
  is_closed_from at (nexts ∷ rest) = (has at || not (list_any is_live_into nexts)) && is_closed_from (suc at) rest

  live_into_any : (nexts : List ℕ) (next : ℕ) → list_any (nat_eq next) nexts ≡ true → is_live_into next ≡ true →
      list_any is_live_into nexts ≡ true
  live_into_any [] next h l = absurd (false≢true h)
  live_into_any (n ∷ nexts) next h l =
      ⊎_elim (λ e. or_left (is_live_into n) _ (ap is_live_into (sym (eqb-true next n e)) ∙ l))
      (λ r. or_right (is_live_into n) _ (live_into_any nexts next r l)) (or_cases (nat_eq next n)
      (list_any (nat_eq next) nexts) h)

  closed_at : (from : ℕ) (lists : List (List ℕ)) (k at next : ℕ) → is_closed_from from lists ≡ true → at ≡ from + k →
      list_any (nat_eq next) (row lists k) ≡ true → is_live_into next ≡ true → has at ≡ true
  closed_at from [] k at next c e h l = absurd (false≢true h)
  closed_at from (nexts ∷ rest) zero at next c e h l =
      let here = (and_parts (has from || not (list_any is_live_into nexts)) (is_closed_from (suc from) rest) c).0 in
      let same : from ≡ at = omega arith in
      ⊎_elim (λ y. ap has (sym same) ∙ y)
      (λ n. absurd (both_ways _ (not-true _ n) (live_into_any nexts next h l))) (or_cases (has from)
      (not (list_any is_live_into nexts)) here)
  closed_at from (nexts ∷ rest) (suc k) at next c e h l =
      let later = (and_parts (has from || not (list_any is_live_into nexts)) (is_closed_from (suc from) rest) c).1 in
      closed_at (suc from) rest k at next later (omega arith) h l

  -- an operand is not live out of a place that a closed list doesn't have
  pub not_live : is_closed_from 0 (successors all) ≡ true → (at : ℕ) → has at ≡ false → IsLiveOut all at x → ⊥
  not_live c at n live =
      let into = λ (at next : ℕ) (g : goes_on all at next ≡ true) (l : is_live_into next ≡
      true). closed_at 0 (successors all) at at next c (omega arith) g l in
      both_ways _ n
      (least all x has (λ at next g u. into at next g (or_left (is_used all x next) _ u))
      (λ at next g d h. into at next g (or_right (is_used all x next) _ (and_from _ _ (not_from_false _ d) h))) at live)
