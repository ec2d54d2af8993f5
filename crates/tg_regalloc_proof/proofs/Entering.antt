-- A frame is opened and closed: the second function has more slots, which are added words.
use Rattle.std.proofs.Common.{ℕ, zero, suc, ◌≡◌, ◌+◌, ◌*◌, ◌-◌, ◌<◌, ◌≤◌, ◌==◌, ◌||◌, Bool, true, false, ◌⊎◌, inl}
use Rattle.std.proofs.Common.{inr, ⊎_elim, refl, sym, ap, ◌∙◌, arith, true≢false, add-zero, add-suc}
use Rattle.std.specs.Prelude.{if◌then◌else◌}
use Rattle.std.proofs.lemmas.Bool.{eqb-true}
use Rattle.tg_tree.specs.Memory.{Cell, Closed, Memory, slot, lay}
use Rattle.tg_instr.specs.Running.{lay_out}
use Rattle.tg_regalloc_proof.proofs.Worlds.{Beside}

pub tells : (b : Bool) → (b ≡ true) ⊎ (b ≡ false)
tells true = inl refl
tells false = inr refl

pub clash : (b : Bool) → b ≡ true → b ≡ false → ⊥
clash b t f = true≢false (sym t ∙ f)

pub if_true : (b : Bool) (c d : Cell) → b ≡ true → (if b then c else d) ≡ c
if_true b c d e = ap (λ z. if z then c else d) e

pub if_false : (b : Bool) (c d : Cell) → b ≡ false → (if b then c else d) ≡ d
if_false b c d e = ap (λ z. if z then c else d) e

or_true : (b c : Bool) → (b || c) ≡ true → (b ≡ true) ⊎ (c ≡ true)
or_true true c e = inl refl
or_true false c e = inr e

pub or_false : (b c : Bool) → (b || c) ≡ false → (b ≡ false) × (c ≡ false)
or_false true c e = absurd (true≢false e)
or_false false c e = (refl, e)

or_first : (b c : Bool) → b ≡ true → (b || c) ≡ true
or_first true c e = refl
or_first false c e = absurd (true≢false (sym e))

or_if : (p q : Bool) (c d e : Cell) → e ≡ (if q then c else d) → (if p then c else e) ≡ (if p || q then c else d)
or_if true q c d e h = refl
or_if false q c d e h = h

-- slots from one on, so many
abbrev pub is_between : (base from count x : ℕ) → Bool
is_between base f zero x = false
is_between base f (suc n) x = x == slot base (f + n) || is_between base f n x

abbrev pub is_low : (low count x : ℕ) → Bool
is_low low zero x = false
is_low low (suc n) x = x == low + 4 * n || is_low low n x

abbrev pub is_slot : (base count x : ℕ) → Bool
is_slot base zero x = false
is_slot base (suc n) x = x == slot base n || is_slot base n x

laid : (base n : ℕ) (c : Cell) (m : Memory) (x : ℕ) → (lay base n c m).stack x ≡
    (if is_slot base n x then c else m.stack x)
laid base zero c m x = refl
laid base (suc n) c m x = or_if (x == slot base n) (is_slot base n x) c (m.stack x) _ (laid base n c m x)

laid_out : (low n : ℕ) (c : Cell) (m : Memory) (x : ℕ) → (lay_out low n c m).stack x ≡
    (if is_low low n x then c else m.stack x)
laid_out low zero c m x = refl
laid_out low (suc n) c m x = or_if (x == low + 4 * n) (is_low low n x) c (m.stack x) _ (laid_out low n c m x)

pub lay_statics : (base n : ℕ) (c : Cell) (m : Memory) → (lay base n c m).statics ≡ m.statics
lay_statics base zero c m = refl
lay_statics base (suc n) c m = lay_statics base n c m

pub lay_heap : (base n : ℕ) (c : Cell) (m : Memory) → (lay base n c m).heap ≡ m.heap
lay_heap base zero c m = refl
lay_heap base (suc n) c m = lay_heap base n c m

pub out_statics : (low n : ℕ) (c : Cell) (m : Memory) → (lay_out low n c m).statics ≡ m.statics
out_statics low zero c m = refl
out_statics low (suc n) c m = out_statics low n c m

pub out_heap : (low n : ℕ) (c : Cell) (m : Memory) → (lay_out low n c m).heap ≡ m.heap
out_heap low zero c m = refl
out_heap low (suc n) c m = out_heap low n c m

or_assoc : (a b c : Bool) → (a || (b || c)) ≡ ((a || b) || c)
or_assoc true b c = refl
or_assoc false b c = refl

more_slots : (base f n x : ℕ) → is_slot base (f + n) x ≡ (is_between base f n x || is_slot base f x)
more_slots base f zero x = ap (λ z. is_slot base z x) (add-zero f)
more_slots base f (suc n) x = ap (λ z. is_slot base z x) (add-suc f n) ∙ (ap (λ b. x == slot base (f + n) || b)
    (more_slots base f n x) ∙ or_assoc (x == slot base (f + n)) (is_between base f n x) (is_slot base f x))

pub slot_is : (base k x : ℕ) → 4 * (k + 1) ≤ base → (x == slot base k) ≡ true → x + 4 * (k + 1) ≡ base
slot_is base k x le e = let same : x ≡ base - 4 * (k + 1) = eqb-true x (slot base k) e in omega arith

pub between_bounds : (base f n x : ℕ) → 4 * (f + n) ≤ base → is_between base f n x ≡ true → (x + 4 * f < base) ×
    (base ≤ x + 4 * (f + n))
between_bounds base f zero x le e = absurd (true≢false (sym e))
between_bounds base f (suc n) x le e = by (between_bounds base f n x (omega arith)) (or_true (x == slot base
    (f + n)) (is_between base f n x) e)
  where
    by : (is_between base f n x ≡ true → (x + 4 * f < base) × (base ≤ x + 4 * (f + n))) →
        ((x == slot base (f + n)) ≡ true) ⊎ (is_between base f n x ≡ true) → (x + 4 * f < base) × (base ≤ x + 4 *
        (f + suc n))
    by r (inl h) = let q : x + 4 * (f + n + 1) ≡ base = slot_is base (f + n) x (omega arith) h in (
      omega arith,
      omega arith,
    )
    by r (inr h) = let q = r h in let q0 = q.0 in let q1 = q.1 in (q0, omega arith)

pub slot_bounds : (base n x : ℕ) → 4 * n ≤ base → is_slot base n x ≡ true → (x < base) × (base ≤ x + 4 * n)
slot_bounds base zero x le e = absurd (true≢false (sym e))
slot_bounds base (suc n) x le e = by (slot_bounds base n x (omega arith)) (or_true (x == slot base n)
    (is_slot base n x) e)
  where
    by : (is_slot base n x ≡ true → (x < base) × (base ≤ x + 4 * n)) → ((x == slot base n) ≡ true) ⊎
        (is_slot base n x ≡ true) → (x < base) × (base ≤ x + 4 * suc n)
    by r (inl h) = let q : x + 4 * (n + 1) ≡ base = slot_is base n x (omega arith) h in (omega arith, omega arith)
    by r (inr h) = let q = r h in let q0 = q.0 in let q1 = q.1 in (q0, omega arith)

pub low_bounds : (low n x : ℕ) → is_low low n x ≡ true → (low ≤ x) × (x < low + 4 * n)
low_bounds low zero x e = absurd (true≢false (sym e))
low_bounds low (suc n) x e = by (low_bounds low n x) (or_true (x == low + 4 * n) (is_low low n x) e)
  where
    by : (is_low low n x ≡ true → (low ≤ x) × (x < low + 4 * n)) → ((x == low + 4 * n) ≡ true) ⊎ (is_low low n x
        ≡ true) → (low ≤ x) × (x < low + 4 * suc n)
    by r (inl h) = let q : x ≡ low + 4 * n = eqb-true x (low + 4 * n) h in (omega arith, omega arith)
    by r (inr h) = let q = r h in let q0 = q.0 in let q1 = q.1 in (q0, omega arith)

-- A frame from `low` to `base`, with so many slots, more of them in the second, and low words.
module _ (base low slots more out : ℕ) (fits : low + 4 * out + 4 * (slots + more) ≤ base) where
  abbrev pub own : ℕ → Bool
  own x = is_between base slots more x

  abbrev pub first_frame : Cell → Memory → Memory
  first_frame c m = lay_out low out c (lay base slots c m)

  abbrev pub second_frame : Cell → Memory → Memory
  second_frame c k = lay_out low out c (lay base (slots + more) c k)

  pub first_stack : (c : Cell) (m : Memory) (x : ℕ) → (first_frame c m).stack x ≡ (if is_low low out x then c else
      (if is_slot base slots x then c else m.stack x))
  first_stack c m x = laid_out low out c (lay base slots c m) x ∙ ap (λ d. if is_low low out x then c else d)
      (laid base slots c m x)

  pub second_stack : (c : Cell) (k : Memory) (x : ℕ) →
      (second_frame c k).stack x ≡ (if is_low low out x then c else
      (if own x || is_slot base slots x then c else k.stack x))
  second_stack c k x =
      laid_out low out c (lay base (slots + more) c k) x
      ∙ ap (λ d. if is_low low out x then c else d) (laid base (slots + more) c k x ∙ ap (λ b.
      if b then c else k.stack x) (more_slots base slots more x))

  -- above the frame nothing changes
  pub above_not_low : (x : ℕ) → base ≤ x → is_low low out x ≡ false
  above_not_low x le = ⊎_elim (λ t. let q = (low_bounds low out x t).1 in absurd (omega arith)) (λ f. f) (tells
      (is_low low out x))

  pub above_not_slot : (x : ℕ) → base ≤ x → is_slot base slots x ≡ false
  above_not_slot x le = ⊎_elim (λ t. let q = (slot_bounds base slots x (omega arith) t).0 in absurd (omega arith))
      (λ f. f) (tells (is_slot base slots x))

  pub above_not_own : (x : ℕ) → base ≤ x → own x ≡ false
  above_not_own x le = ⊎_elim (λ t. let q = (between_bounds base slots more x (omega arith) t).0 in absurd
      (omega arith)) (λ f. f) (tells (own x))

  -- an added slot is none of the others
  pub own_not_slot : (x : ℕ) → own x ≡ true → is_slot base slots x ≡ false
  own_not_slot x t =
      let p = (between_bounds base slots more x (omega arith) t).0 in
      ⊎_elim (λ s. let q = (slot_bounds base slots x (omega arith) s).1 in absurd (omega arith)) (λ f. f) (tells
      (is_slot base slots x))

  pub own_not_low : (x : ℕ) → own x ≡ true → is_low low out x ≡ false
  own_not_low x t =
      let p = (between_bounds base slots more x (omega arith) t).1 in
      ⊎_elim (λ s. let q = (low_bounds low out x s).1 in absurd (omega arith)) (λ f. f) (tells (is_low low out x))

  pub first_outside : (c : Cell) (m : Memory) (x : ℕ) → is_low low out x ≡ false → is_slot base slots x ≡ false →
      (first_frame c m).stack x ≡ m.stack x
  first_outside c m x l s = first_stack c m x ∙ (if_false _ _ _ l ∙ if_false _ _ _ s)

  pub second_outside : (c : Cell) (k : Memory) (x : ℕ) → is_low low out x ≡ false → own x ≡ false →
      is_slot base slots x ≡ false →
      (second_frame c k).stack x ≡ k.stack x
  second_outside c k x l o s = second_stack c k x ∙ (if_false _ _ _ l ∙ (ap (λ b.
      if b || is_slot base slots x then c else k.stack x) o ∙ if_false _ _ _ s))

  -- where the added slot isn't, both change alike
  pub alike : (c : Cell) (m k : Memory) (x : ℕ) → own x ≡ false → k.stack x ≡ m.stack x →
      (second_frame c k).stack x ≡ (first_frame c m).stack x
  alike c m k x o e =
      second_stack c k x
      ∙ (ap (λ b. if is_low low out x then c else (if b || is_slot base slots x then c else k.stack x)) o
      ∙ (ap (λ d. if is_low low out x then c else (if is_slot base slots x then c else d)) e ∙ sym
      (first_stack c m x)))

  pub own_laid : (c : Cell) (k : Memory) (x : ℕ) → own x ≡ true → (second_frame c k).stack x ≡ c
  own_laid c k x o = second_stack c k x ∙ (if_false _ _ _ (own_not_low x o) ∙ ap (λ b.
      if b || is_slot base slots x then c else k.stack x) o)

  module _ (added : ℕ → Bool) (above : (x : ℕ) → added x ≡ true → base ≤ x) where
    -- at the entry
    pub entering : (cells : ℕ → Cell) (c : Cell) (m k : Memory) → ((x : ℕ) → x < base → m.stack x ≡ Closed) →
        Beside added cells m k →
        Beside (λ x. added x || own x) (second_frame c k).stack (first_frame c m) (second_frame c k)
    entering cells c m k shut b =
        record {
          statics = out_statics low out c (lay base (slots + more) c k) ∙ (lay_statics base (slots + more) c k ∙
              (b.statics ∙ sym (out_statics low out c (lay base slots c m) ∙ lay_statics base slots c m)));
          heap = out_heap low out c (lay base (slots + more) c k) ∙ (lay_heap base (slots + more) c k ∙ (b.heap
              ∙ sym (out_heap low out c (lay base slots c m) ∙ lay_heap base slots c m)));
          other = λ x e. let h = or_false (added x) (own x) e in alike c m k x h.1 (b.other x h.0);
          closed = λ x e. ⊎_elim (λ t. outer x t) (λ t. inner x t) (or_true (added x) (own x) e);
          kept = λ x e. refl;
        }
      where
        outer : (x : ℕ) → added x ≡ true → (first_frame c m).stack x ≡ Closed
        outer x t = first_outside c m x (above_not_low x (above x t)) (above_not_slot x (above x t)) ∙ b.closed x t

        inner : (x : ℕ) → own x ≡ true → (first_frame c m).stack x ≡ Closed
        inner x t =
            first_outside c m x (own_not_low x t) (own_not_slot x t)
            ∙ shut x (let p = (between_bounds base slots more x (omega arith) t).0 in omega arith)

    -- at the return, where the added words of the callers are as they were
    pub leaving : (cells cells1 : ℕ → Cell) (m k : Memory) → Beside (λ x. added x || own x) cells1 m k → ((x : ℕ) →
        added x ≡ true → cells1 x ≡ cells x) →
        Beside added cells (first_frame Closed m) (second_frame Closed k)
    leaving cells cells1 m k b same =
        record {
          statics = out_statics low out Closed (lay base (slots + more) Closed k) ∙ (lay_statics base
              (slots + more) Closed k ∙ (b.statics ∙ sym (out_statics low out Closed (lay base slots Closed m)
              ∙ lay_statics base slots Closed m)));
          heap = out_heap low out Closed (lay base (slots + more) Closed k) ∙ (lay_heap base
              (slots + more) Closed k ∙ (b.heap ∙ sym (out_heap low out Closed (lay base slots Closed m)
              ∙ lay_heap base slots Closed m)));
          other = λ x e. ⊎_elim (λ t. mine x t) (λ f. alike Closed m k x f (b.other x (neither (added x)
              (own x) e f))) (tells (own x));
          closed = λ x e. first_outside Closed m x (above_not_low x (above x e)) (above_not_slot x (above x e))
              ∙ b.closed x (or_first (added x) (own x) e);
          kept = λ x e.
              second_outside Closed k x (above_not_low x (above x e)) (above_not_own x (above x e))
              (above_not_slot x (above x e))
              ∙ (b.kept x (or_first (added x) (own x) e) ∙ same x e);
        }
      where
        neither : (p q : Bool) → p ≡ false → q ≡ false → (p || q) ≡ false
        neither true q e f = absurd (true≢false e)
        neither false q e f = f

        or_second : (p q : Bool) → q ≡ true → (p || q) ≡ true
        or_second true q e = refl
        or_second false q e = e

        mine : (x : ℕ) → own x ≡ true → (second_frame Closed k).stack x ≡ (first_frame Closed m).stack x
        mine x t =
            own_laid Closed k x t
            ∙ sym (first_outside Closed m x (own_not_low x t) (own_not_slot x t) ∙ b.closed x (or_second (added x)
            (own x) t))
