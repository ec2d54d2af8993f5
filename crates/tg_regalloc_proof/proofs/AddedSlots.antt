-- A frame with added slots is opened and closed, where every word below its base that the first hasn't opened counts
-- as added: so it is closed there.
use Rattle.std.proofs.Common.{ℕ, zero, suc, ◌≡◌, ◌+◌, ◌*◌, ◌-◌, ◌<◌, ◌≤◌, ◌==◌, ◌||◌, Bool, true, false, not, ◌⊎◌}
use Rattle.std.proofs.Common.{inl, inr, ⊎_elim}
use Rattle.std.proofs.Common.{refl, sym, ap, ◌∙◌, subst, arith, true≢false, nat_lt}
use Rattle.std.specs.Prelude.{if◌then◌else◌}
use Rattle.std.proofs.lemmas.Bool.{eqb-true, ltb-true, ltb-false, lt-ltb, le-ltb}
use Rattle.tg_tree.specs.Memory.{Cell, Closed, Memory, slot, lay, set_cell}
use Rattle.tg_instr.proofs.Same.{same_itself}
use Rattle.tg_instr.specs.declared.operands.Opnd.TheVariants.{Reg}
use Rattle.tg_regalloc_proof.proofs.Worlds.{Beside}
use Rattle.tg_regalloc_proof.proofs.Entering.{tells, clash, or_false, is_between, is_low, is_slot, own}
use Rattle.tg_regalloc_proof.proofs.Entering.{first_frame, second_frame, slot_is}
use Rattle.tg_regalloc_proof.proofs.Entering.{above_not_low, above_not_slot, above_not_own, own_not_slot, own_not_low}
use Rattle.tg_regalloc_proof.proofs.Entering.{first_stack, second_stack}
use Rattle.tg_regalloc_proof.proofs.Entering.{first_outside, second_outside, alike, slot_bounds, low_bounds, between_bounds}
use Rattle.tg_regalloc_proof.proofs.Entering.{lay_statics, lay_heap, out_statics, out_heap}

-- below a frame's base all words are added ones and closed in the second too
abbrev pub Ready : (A : ℕ → Bool) (base : ℕ) (cells : ℕ → Cell) → Type 0
Ready A base cells = (x : ℕ) → x < base → (A x ≡ true) × (cells x ≡ Closed)

below_or_not : (x base : ℕ) → (x < base) ⊎ (base ≤ x)
below_or_not x base = by (nat_lt x base) refl
  where
    by : (b : Bool) → nat_lt x base ≡ b → (x < base) ⊎ (base ≤ x)
    by true e = inl (ltb-true x base e)
    by false e = inr (ltb-false x base e)

not_true : (b : Bool) → not b ≡ true → b ≡ false
not_true true e = absurd (true≢false (sym e))
not_true false e = refl

not_false : (b : Bool) → not b ≡ false → b ≡ true
not_false true e = refl
not_false false e = absurd (true≢false e)

or_both : (p q : Bool) → p ≡ false → q ≡ false → (p || q) ≡ false
or_both true q e f = absurd (true≢false e)
or_both false q e f = f

pub has_slot : (base n k : ℕ) → k < n → is_slot base n (slot base k) ≡ true
has_slot base zero k h = absurd (omega arith)
has_slot base (suc n) k h = by (λ l. has_slot base n k l) (k == n) refl
  where
    by : (k < n → is_slot base n (slot base k) ≡ true) → (b : Bool) → (k == n) ≡ b → (slot base k ==
        slot base n || is_slot base n (slot base k)) ≡ true
    by f true e =
        let same : k ≡ n = eqb-true k n e in
        ap (λ i. slot base k == slot base i || is_slot base i (slot base k)) (sym same)
        ∙ ap (λ b. b || is_slot base k (slot base k)) (same_itself (Reg (slot base k)))
    by f false e = or_right (slot base k == slot base n) _ (f (smaller (λ s. true≢false (sym (same_itself
        (Reg k)) ∙ (ap (λ i. k == i) s ∙ e)))))
      where
        or_right : (p q : Bool) → q ≡ true → (p || q) ≡ true
        or_right true q e = refl
        or_right false q e = e

        smaller : ((k ≡ n) → ⊥) → k < n
        smaller never = ⊎_elim (λ l. l) (λ g. absurd (never (omega arith))) (below_or_not k n)

pub has_between : (base f n j : ℕ) → j < n → is_between base f n (slot base (f + j)) ≡ true
has_between base f zero j h = absurd (omega arith)
has_between base f (suc n) j h = by (λ l. has_between base f n j l) (j == n) refl
  where
    by : (j < n → is_between base f n (slot base (f + j)) ≡ true) → (b : Bool) → (j == n) ≡ b → (slot base
        (f + j) == slot base (f + n) || is_between base f n (slot base (f + j))) ≡ true
    by g true e =
        let same : j ≡ n = eqb-true j n e in
        ap (λ i. slot base (f + j) == slot base (f + i) || is_between base f i (slot base (f + j))) (sym same)
        ∙ ap (λ b. b || is_between base f j (slot base (f + j))) (same_itself (Reg (slot base (f + j))))
    by g false e =
        or_right (slot base (f + j) == slot base (f + n)) _
        (g (smaller (λ s. true≢false (sym (same_itself (Reg j)) ∙ (ap (λ i. j == i) s ∙ e)))))
      where
        or_right : (p q : Bool) → q ≡ true → (p || q) ≡ true
        or_right true q e = refl
        or_right false q e = e

        smaller : ((j ≡ n) → ⊥) → j < n
        smaller never = ⊎_elim (λ l. l) (λ g. absurd (never (omega arith))) (below_or_not j n)

-- A frame as in `Entering`, and the words that are added ones to its caller, with their cells.
module _ (base low slots more out : ℕ) (fits : low + 4 * out + 4 * (slots + more) ≤ base) (A : ℕ → Bool) where
  abbrev opens : ℕ → Bool
  opens x = is_low low out x || is_slot base slots x

  abbrev pub added : ℕ → Bool
  added x = if nat_lt x base then not (opens x) else A x

  -- the callers' added words are as they were, and below the base the frame's own added slots alone are open
  pub record Holds (cells cells1 : ℕ → Cell) : Type 0 where
    pub frozen : (x : ℕ) → base ≤ x → A x ≡ true → cells1 x ≡ cells x
    pub shut : (x : ℕ) → x < base → opens x ≡ false → own base low slots more out fits x ≡ false → cells1 x ≡ Closed

  below : (x : ℕ) → x < base → added x ≡ not (opens x)
  below x h = ap (λ b. if b then not (opens x) else A x) (lt-ltb x base h)

  above : (x : ℕ) → base ≤ x → added x ≡ A x
  above x h = ap (λ b. if b then not (opens x) else A x) (le-ltb x base h)

  open_not_own : (x : ℕ) → opens x ≡ true → own base low slots more out fits x ≡ false
  open_not_own x o =
      ⊎_elim
      (λ t. absurd (clash (opens x) o
      (or_both (is_low low out x) (is_slot base slots x) (own_not_low base low slots more out fits x t)
      (own_not_slot base low slots more out fits x t))))
      (λ f. f) (tells (own base low slots more out fits x))

  first_below : (c : Cell) (m : Memory) (x : ℕ) → opens x ≡ false →
      (first_frame base low slots more out fits c m).stack x ≡ m.stack x
  first_below c m x o =
      let h = or_false (is_low low out x) (is_slot base slots x) o in
      let h0 = h.0 in let h1 = h.1 in first_outside base low slots more out fits c m x h0 h1

  first_above : (c : Cell) (m : Memory) (x : ℕ) → base ≤ x →
      (first_frame base low slots more out fits c m).stack x ≡ m.stack x
  first_above c m x h =
      first_outside base low slots more out fits c m x (above_not_low base low slots more out fits x h)
      (above_not_slot base low slots more out fits x h)

  second_above : (c : Cell) (k : Memory) (x : ℕ) → base ≤ x →
      (second_frame base low slots more out fits c k).stack x ≡ k.stack x
  second_above c k x h =
      second_outside base low slots more out fits c k x (above_not_low base low slots more out fits x h)
      (above_not_own base low slots more out fits x h) (above_not_slot base low slots more out fits x h)

  same_statics : (c : Cell) (m k : Memory) → k.statics ≡ m.statics →
      (second_frame base low slots more out fits c k).statics ≡ (first_frame base low slots more out fits c m).statics
  same_statics c m k e =
      out_statics low out c (lay base (slots + more) c k) ∙ (lay_statics base (slots + more) c k
      ∙ (e ∙ sym (out_statics low out c (lay base slots c m) ∙ lay_statics base slots c m)))

  same_heap : (c : Cell) (m k : Memory) → k.heap ≡ m.heap →
      (second_frame base low slots more out fits c k).heap ≡ (first_frame base low slots more out fits c m).heap
  same_heap c m k e =
      out_heap low out c (lay base (slots + more) c k) ∙ (lay_heap base (slots + more) c k
      ∙ (e ∙ sym (out_heap low out c (lay base slots c m) ∙ lay_heap base slots c m)))

  module _ (cells : ℕ → Cell) (ready : Ready A base cells) where
    -- at the entry
    pub entered : (c : Cell) (m k : Memory) → Beside A cells m k →
        Beside added (second_frame base low slots more out fits c k).stack
        (first_frame base low slots more out fits c m)
        (second_frame base low slots more out fits c k)
    entered c m k b =
        record {
          statics = same_statics c m k b.statics;
          heap = same_heap c m k b.heap;
          other = λ x e. other x e (below_or_not x base);
          closed = λ x e. closed x e (below_or_not x base);
          kept = λ x e. refl;
        }
      where
        other : (x : ℕ) → added x ≡ false → (x < base) ⊎ (base ≤ x) →
            (second_frame base low slots more out fits c k).stack x ≡
            (first_frame base low slots more out fits c m).stack x
        other x e (inl h) =
            let z = ready x h in let z0 = z.0 in let z1 = z.1 in
            alike base low slots more out fits c m k x (open_not_own x (not_false (opens x) (sym (below x h)
            ∙ e))) (b.kept x z0 ∙ (z1 ∙ sym (b.closed x z0)))
        other x e (inr h) = alike base low slots more out fits c m k x
            (above_not_own base low slots more out fits x h) (b.other x (sym (above x h) ∙ e))

        closed : (x : ℕ) → added x ≡ true → (x < base) ⊎ (base ≤ x) →
            (first_frame base low slots more out fits c m).stack x ≡ Closed
        closed x e (inl h) = let z = ready x h in let z0 = z.0 in first_below c m x (not_true (opens x) (sym
            (below x h) ∙ e)) ∙ b.closed x z0
        closed x e (inr h) = first_above c m x h ∙ b.closed x (sym (above x h) ∙ e)

    pub entered_holds : (c : Cell) (m k : Memory) → Beside A cells m k → Holds cells
        (second_frame base low slots more out fits c k).stack
    entered_holds c m k b =
        record {
          frozen = λ x h e. second_above c k x h ∙ b.kept x e;
          shut = λ x h o n.
              let y = or_false (is_low low out x) (is_slot base slots x) o in let y0 = y.0 in let y1 = y.1 in
              let z = ready x h in let z0 = z.0 in let z1 = z.1 in
              second_outside base low slots more out fits c k x y0 n y1 ∙ (b.kept x z0 ∙ z1);
        }

    -- at the return
    pub left : (cells1 : ℕ → Cell) (m k : Memory) → Beside added cells1 m k → Holds cells cells1 →
        Beside A cells (first_frame base low slots more out fits Closed m)
        (second_frame base low slots more out fits Closed k)
    left cells1 m k b hs =
        record {
          statics = same_statics Closed m k b.statics;
          heap = same_heap Closed m k b.heap;
          other = λ x e. other x e (below_or_not x base);
          closed = λ x e. closed x e (below_or_not x base);
          kept = λ x e. kept x e (below_or_not x base);
        }
      where
        other : (x : ℕ) → A x ≡ false → (x < base) ⊎ (base ≤ x) →
            (second_frame base low slots more out fits Closed k).stack x ≡
            (first_frame base low slots more out fits Closed m).stack x
        other x e (inl h) = let z = ready x h in let z0 = z.0 in absurd (clash (A x) z0 e)
        other x e (inr h) = alike base low slots more out fits Closed m k x
            (above_not_own base low slots more out fits x h) (b.other x (above x h ∙ e))

        first_closed : (x : ℕ) (p : Bool) → opens x ≡ p → (p ≡ false → m.stack x ≡ Closed) →
            (first_frame base low slots more out fits Closed m).stack x ≡ Closed
        first_closed x true o f = first_stack base low slots more out fits Closed m x ∙ by (is_low low out x)
            (is_slot base slots x) o
          where
            by : (p q : Bool) → (p || q) ≡ true → (if p then Closed else (if q then Closed else m.stack x)) ≡ Closed
            by true q e = refl
            by false true e = refl
            by false false e = absurd (true≢false (sym e))
        first_closed x false o f = first_below Closed m x o ∙ f refl

        second_closed : (x : ℕ) → x < base → (second_frame base low slots more out fits Closed k).stack x ≡ Closed
        second_closed x h =
            second_stack base low slots more out fits Closed k x
            ∙ by (is_low low out x) (own base low slots more out fits x) (is_slot base slots x) refl refl refl
          where
            by : (p q r : Bool) → is_low low out x ≡ p → own base low slots more out fits x ≡ q →
                is_slot base slots x ≡ r →
                (if p then Closed else (if q || r then Closed else k.stack x)) ≡ Closed
            by true q r e f g = refl
            by false true r e f g = refl
            by false false true e f g = refl
            by false false false e f g =
                let o : opens x ≡ false = or_both (is_low low out x) (is_slot base slots x) e g in
                b.kept x (below x h ∙ ap (λ z. not z) o) ∙ hs.shut x h o f

        closed : (x : ℕ) → A x ≡ true → (x < base) ⊎ (base ≤ x) →
            (first_frame base low slots more out fits Closed m).stack x ≡ Closed
        closed x e (inl h) =
            ⊎_elim (λ t. first_closed x true t (λ f. absurd (true≢false f)))
            (λ f. first_closed x false f (λ z. b.closed x (below x h ∙ ap (λ z. not z) f))) (tells (opens x))
        closed x e (inr h) = first_above Closed m x h ∙ b.closed x (above x h ∙ e)

        kept : (x : ℕ) → A x ≡ true → (x < base) ⊎ (base ≤ x) →
            (second_frame base low slots more out fits Closed k).stack x ≡ cells x
        kept x e (inl h) = let z = ready x h in let z1 = z.1 in second_closed x h ∙ sym z1
        kept x e (inr h) = second_above Closed k x h ∙ (b.kept x (above x h ∙ e) ∙ hs.frozen x h e)

    -- below the low end all is ready for the next frame
    pub ready_below : (cells1 : ℕ → Cell) → Holds cells cells1 → Ready added low cells1
    ready_below cells1 hs x h =
        (below x in_frame ∙ ap (λ z. not z) not_open, hs.shut x in_frame not_open not_own)
      where
        in_frame : x < base
        in_frame = omega arith

        not_open : opens x ≡ false
        not_open =
            or_both (is_low low out x) (is_slot base slots x)
            (⊎_elim (λ t. let q = (low_bounds low out x t).0 in absurd (omega arith)) (λ f. f) (tells
            (is_low low out x)))
            (⊎_elim (λ t. let q = (slot_bounds base slots x (omega arith) t).1 in absurd (omega arith)) (λ f. f)
            (tells (is_slot base slots x)))

        not_own : own base low slots more out fits x ≡ false
        not_own =
            ⊎_elim (λ t. let q = (between_bounds base slots more x (omega arith) t).1 in absurd (omega arith))
            (λ f. f)
            (tells (own base low slots more out fits x))

    -- the frame's own added slot gets another cell
    pub set_holds : (cells1 : ℕ → Cell) (k : ℕ) (c : Cell) → slots ≤ k → k < slots + more → Holds cells cells1 →
        Holds cells (set_cell (slot base k) c cells1)
    set_holds cells1 k c le lt hs =
        record {
          frozen = λ x h e. keeps x (apart x h) ∙ hs.frozen x h e;
          shut = λ x h o n. keeps x (other x n) ∙ hs.shut x h o n;
        }
      where
        keeps : (x : ℕ) → (x == slot base k) ≡ false → set_cell (slot base k) c cells1 x ≡ cells1 x
        keeps x e = ap (λ b. if b then c else cells1 x) e

        apart : (x : ℕ) → base ≤ x → (x == slot base k) ≡ false
        apart x h =
            ⊎_elim (λ t. let q : x + 4 * (k + 1) ≡ base = slot_is base k x (omega arith) t in absurd
            (omega arith)) (λ f. f) (tells (x == slot base k))

        is_own : own base low slots more out fits (slot base k) ≡ true
        is_own =
            let e : slots + (k - slots) ≡ k = omega arith in
            subst (λ i. own base low slots more out fits (slot base i) ≡ true) e (has_between base slots more
            (k - slots) (omega arith))

        other : (x : ℕ) → own base low slots more out fits x ≡ false → (x == slot base k) ≡ false
        other x n =
            ⊎_elim
            (λ t. let same : x ≡ slot base k = eqb-true x (slot base k) t in
            absurd (clash (own base low slots more out fits (slot base k)) is_own (ap (λ i.
            own base low slots more out fits i) (sym same) ∙ n)))
            (λ f. f) (tells (x == slot base k))

  -- an added slot is an added word, and a slot of the first isn't
  pub slot_added : (k : ℕ) → slots ≤ k → k < slots + more → added (slot base k) ≡ true
  slot_added k le lt =
      let e : slots + (k - slots) ≡ k = omega arith in
      let o : own base low slots more out fits (slot base k) ≡ true =
      subst (λ i. own base low slots more out fits (slot base i) ≡ true) e (has_between base slots more
      (k - slots) (omega arith)) in
      below (slot base k) (omega arith)
      ∙ ap (λ z. not z) (or_both (is_low low out (slot base k)) (is_slot base slots (slot base k))
      (own_not_low base low slots more out fits (slot base k) o) (own_not_slot base low slots more out fits
      (slot base k) o))

  pub slot_not_added : (k : ℕ) → k < slots → added (slot base k) ≡ false
  slot_not_added k lt = below (slot base k) (omega arith) ∙ by (is_low low out (slot base k)) (is_slot base slots
      (slot base k)) (has_slot base slots k lt)
    where
      by : (p q : Bool) → q ≡ true → not (p || q) ≡ false
      by true q e = refl
      by false true e = refl
      by false false e = absurd (true≢false (sym e))
