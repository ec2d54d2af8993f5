-- What the sets have once the operands of the first numbers are searched for.
use Rattle.std.proofs.Common.{◌≡◌, ◌<◌, ◌+◌, ◌↔◌, ℕ, true, false, List, [], length, sym, ap, ◌∙◌, subst, arith, ⊎_elim}
use Rattle.std.proofs.lemmas.Bool.{cases_eq, cases_Bool, false≢true, both_ways}
use Rattle.tg_instr.specs.declared.instr.Instr.{Instr}
use Rattle.tg_instr.specs.declared.operands.Opnd.{Opnd}
use Rattle.tg_instr.specs.Operands.{is_same}
use Rattle.tg_instr.proofs.Same.{same_itself, same_is}
use Rattle.tg_live.specs.Live.{Sets, set_at, is_among, is_rising, number_of, operand_of, IsLiveOut, AreLiveSets}
use Rattle.tg_live.specs.glue.Tables.{Table, AreSites}
use Rattle.tg_live.specs.glue.LiveChanges.{ends_in, AreSearched}
use Rattle.tg_live.proofs.Reach.{used_along}
use Rattle.tg_live.proofs.Numbers.{number_operand, ends_among, among_push_left, among_push_itself, among_push, rising_push}

pub record AreGathered (all : List Instr) (n : ℕ) (sets : Sets) : Type 0 where
  pub size : length sets ≡ length all
  pub live : (i : ℕ) → i < n → (q : ℕ) →
      (is_among (operand_of i) (set_at sets q) ≡ true) ↔ IsLiveOut all q (operand_of i)
  pub below : (q : ℕ) (y : Opnd) → is_among y (set_at sets q) ≡ true →
      (number_of y < n) × (operand_of (number_of y) ≡ y)
  pub rising : (q : ℕ) → is_rising (set_at sets q) ≡ true

pub gathered_none : (all : List Instr) (sets : Sets) → length sets ≡ length all →
    ((q : ℕ) → set_at sets q ≡ []) → AreGathered all 0 sets
gathered_none all sets e none = record {
  size = e;
  live = λ i l. absurd (omega arith);
  below = λ q y a. absurd (false≢true (sym (ap (is_among y) (none q)) ∙ a));
  rising = λ q. ap is_rising (none q);
}

-- no set has the next operand yet
pub gathered_fresh : (all : List Instr) (n : ℕ) (sets : Sets) → AreGathered all n sets → (q : ℕ) →
    ends_in (operand_of n) (set_at sets q) ≡ false
gathered_fresh all n sets s q =
    ⊎_elim (λ e.
    let below = (s.below q (operand_of n) (ends_among (operand_of n) (set_at sets q) e)).0 in
    absurd (omega (arith, below, number_operand n)))
    (λ e. e) (cases_Bool (ends_in (operand_of n) (set_at sets q)))

others_differ : (i n : ℕ) → (i ≡ n → ⊥) → operand_of i ≡ operand_of n → ⊥
others_differ i n ne e = ne (sym (number_operand i) ∙ (ap number_of e ∙ number_operand n))

module _ (all : List Instr) (n : ℕ) (old new : Sets) (s : AreGathered all n old) (found : AreSearched all
    (operand_of n) old new) where
  abbrev x : Opnd
  x = operand_of n

  live_more : (i : ℕ) → i < n + 1 → (q : ℕ) →
      (is_among (operand_of i) (set_at new q) ≡ true) ↔ IsLiveOut all q (operand_of i)
  live_more i l q = ⊎_elim here before (cases_eq i n)
    where
      here : i ≡ n → (is_among (operand_of i) (set_at new q) ≡ true) ↔ IsLiveOut all q (operand_of i)
      here e =
          let P : ℕ → Type 0 = λ j. (is_among (operand_of j) (set_at new q) ≡ true) ↔ IsLiveOut all q (operand_of j) in
          subst P (sym e)
          (⊎_elim (λ h. (λ _. h.1, λ _. ap (is_among x) h.0 ∙ among_push_itself x (set_at old q)))
          (λ h. (
            λ a.
                let below = (s.below q x (sym (ap (is_among x) h.0) ∙ a)).0 in
                absurd (omega (arith, below, number_operand n)),
            λ live. absurd (h.1 live),
          )) (found.each q))

      before : (i ≡ n → ⊥) → (is_among (operand_of i) (set_at new q) ≡ true) ↔ IsLiveOut all q (operand_of i)
      before ne =
          let was = s.live i (omega arith) q in
          ⊎_elim (λ h. (
            λ a. was.0 (among_push (operand_of i) (set_at old q) x (sym (ap (is_among (operand_of i)) h.0)
                ∙ a) (others_differ i n ne)),
            λ live. ap (is_among (operand_of i)) h.0 ∙ among_push_left (operand_of i) (set_at old q) x (was.1 live),
          ))
          (λ h. (
            λ a. was.0 (sym (ap (is_among (operand_of i)) h.0) ∙ a),
            λ live. ap (is_among (operand_of i)) h.0
                ∙ was.1 live,
          )) (found.each q)

  below_itself : (y : Opnd) → is_same y x ≡ true → (number_of y < n + 1) × (operand_of (number_of y) ≡ y)
  below_itself y e =
      let same = same_is y x e in
      let number = ap number_of same ∙ number_operand n in
      (omega (arith, number), ap operand_of number ∙ sym same)

  below_more : (q : ℕ) (y : Opnd) → is_among y (set_at new q) ≡ true →
      (number_of y < n + 1) × (operand_of (number_of y) ≡ y)
  below_more q y a = ⊎_elim (λ e. below_itself y e) other (cases_Bool (is_same y x))
    where
      was : is_among y (set_at old q) ≡ true → (number_of y < n + 1) × (operand_of (number_of y) ≡ y)
      was b = let h = s.below q y b in (omega (arith, h.0), h.1)

      other : is_same y x ≡ false → (number_of y < n + 1) × (operand_of (number_of y) ≡ y)
      other ne =
          ⊎_elim (λ h. was (among_push y (set_at old q) x (sym (ap (is_among y) h.0) ∙ a)
          (λ e. both_ways _ ne (ap (λ z. is_same z x) e ∙ same_itself x))))
          (λ h. was (sym (ap (is_among y) h.0) ∙ a)) (found.each q)

  rising_more : (q : ℕ) → is_rising (set_at new q) ≡ true
  rising_more q =
      ⊎_elim (λ h. ap is_rising h.0
      ∙ rising_push (set_at old q) x (s.rising q) (λ y a. let b = (s.below q y a).0 in omega
      (arith, b, number_operand n)))
      (λ h. ap is_rising h.0 ∙ s.rising q) (found.each q)

  pub gathered_more : AreGathered all (n + 1) new
  gathered_more = record {
    size = found.size ∙ s.size;
    live = live_more;
    below = below_more;
    rising = rising_more;
  }

-- all operands of the code are searched for
pub gathered_all : (all : List Instr) (n : ℕ) (sets : Sets) (sites : Table) → AreGathered all n sets →
    AreSites all sites → n ≡ length sites → AreLiveSets all sets
gathered_all all n sets sites s t e = record {
  size = s.size;
  live = λ at x. (
    λ a.
        let h = s.below at x a in
        let P : Opnd → Type 0 = λ y. IsLiveOut all at y in
        let Q : Opnd → Type 0 = λ y. is_among y (set_at sets at) ≡ true in
        subst P h.1 ((s.live (number_of x) h.0 at).0 (subst Q (sym h.1) a)),
    λ live.
        let u = used_along all x live.path live.next live.leads in
        let h = t.within x u.0 u.1 in
        let P : Opnd → Type 0 = λ y. IsLiveOut all at y in
        let Q : Opnd → Type 0 = λ y. is_among y (set_at sets at) ≡ true in
        subst Q h.1 ((s.live (number_of x) (omega (arith, h.0, e)) at).1 (subst P (sym h.1) live)),
  );
  rising = s.rising;
}
