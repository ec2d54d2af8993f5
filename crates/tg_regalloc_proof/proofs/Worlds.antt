-- Two worlds that differ in the added words of open activations alone: these are closed in the first. What the first
-- loads and stores, the second does.
use Rattle.std.proofs.Common.{ℕ, ◌≡◌, ◌≢◌, ◌-◌, ◌%◌, ◌==◌, Bool, true, false, refl, sym, ap, ◌∙◌, subst}
use Rattle.std.proofs.Common.{Option, Some, None, true≢false}
use Rattle.std.specs.Prelude.{if◌then◌else◌, slice_set}
use Rattle.std.proofs.lemmas.Bool.{eqb-true}
use Rattle.tg_machine_state.specs.State.{set_word}
use Rattle.tg_tree.specs.Memory.{Cell, Closed, Unset, Has, Kept, Memory, set_cell, put, Spot, in_statics, in_heap}
use Rattle.tg_tree.specs.Memory.{elsewhere, spot, cell_word, word_in, load, cell_byte, byte_in}
use Rattle.tg_tree.specs.Memory.{load_byte, put_open, store_in, store, put_byte, with_byte, store_byte_in, store_byte}

-- which words are added ones, and what they hold in the second
module _ (added : ℕ → Bool) (cells : ℕ → Cell) where
  pub record Beside (m k : Memory) : Type 0 where
    pub statics : k.statics ≡ m.statics
    pub heap : k.heap ≡ m.heap
    pub other : (x : ℕ) → added x ≡ false → k.stack x ≡ m.stack x
    pub closed : (x : ℕ) → added x ≡ true → m.stack x ≡ Closed
    pub kept : (x : ℕ) → added x ≡ true → k.stack x ≡ cells x

  -- the first with the second's stack is the second
  abbrev of_first : Memory → Memory → Memory
  of_first m k = record { statics = m.statics; heap = m.heap; stack = k.stack }

  is_second : (m k : Memory) → Beside m k → k ≡ of_first m k
  is_second m k b = λ i. record { statics = b.statics i; heap = b.heap i; stack = k.stack }

  none_some : {A : Type 0} (o : Option A) (x : A) → o ≡ None → o ≡ Some x → ⊥
  none_some o x n s = let e = sym n ∙ s in cc

  -- a word that isn't closed is the second's too
  cell_too : (m k : Memory) → Beside m k → (x : ℕ) → (P : Cell → Type 0) → P (m.stack x) → (P Closed → ⊥) → P
      (k.stack x)
  cell_too m k b x P h never = by (added x) refl
    where
      by : (q : Bool) → added x ≡ q → P (k.stack x)
      by true e = absurd (never (subst P (b.closed x e) h))
      by false e = subst P (sym (b.other x e)) h

  if_some : (q : Bool) (o o' : Option ℕ) (v : ℕ) → (o ≡ Some v → o' ≡ Some v) → (if q then o else None) ≡ Some v →
      (if q then o' else None) ≡ Some v
  if_some true o o' v f h = f h
  if_some false o o' v f h = h

  word_too : (m k : Memory) → Beside m k → (x v : ℕ) (s : Spot) → word_in m x s ≡ Some v → word_in
      (of_first m k) x s ≡ Some v
  word_too m k b x v (in_statics i) h = h
  word_too m k b x v (in_heap i) h = h
  word_too m k b x v elsewhere h = cell_too m k b x (λ c. cell_word c ≡ Some v) h (λ e. cc)

  pub load_too : (m k : Memory) → Beside m k → (x v : ℕ) → load m x ≡ Some v → load k x ≡ Some v
  load_too m k b x v h = ap (λ z. load z x) (is_second m k b) ∙ if_some (x % 4 == 0) _ _ v (word_too m k b x v
      (spot m x)) h

  byte_too : (m k : Memory) → Beside m k → (x v : ℕ) (s : Spot) → byte_in m x s ≡ Some v → byte_in
      (of_first m k) x s ≡ Some v
  byte_too m k b x v (in_statics i) h = h
  byte_too m k b x v (in_heap i) h = h
  byte_too m k b x v elsewhere h = cell_too m k b (x - x % 4) (λ c. cell_byte c (x % 4) ≡ Some v) h (λ e. cc)

  pub load_byte_too : (m k : Memory) → Beside m k → (x v : ℕ) → load_byte m x ≡ Some v → load_byte k x ≡ Some v
  load_byte_too m k b x v h = ap (λ z. load_byte z x) (is_second m k b) ∙ byte_too m k b x v (spot m x) h

  -- a word that isn't an added one gets the same in both
  set_at : (x y : ℕ) (c d : Cell) (q : Bool) → (x == y) ≡ q → added x ≡ true → added y ≡ false → (if x ==
      y then c else d) ≡ d
  set_at x y c d true e t f = let same : x ≡ y = eqb-true x y e in absurd (true≢false (sym t ∙ (ap added same ∙ f)))
  set_at x y c d false e t f = ap (λ z. if z then c else d) e

  pub put_too : (m k : Memory) → Beside m k → (y : ℕ) (c : Cell) → added y ≡ false → Beside (put y c m) (put y c k)
  put_too m k b y c f =
      record {
        statics = b.statics;
        heap = b.heap;
        other = λ x e. ap (λ d. if x == y then c else d) (b.other x e);
        closed = λ x e. set_at x y c (m.stack x) (x == y) refl e f ∙ b.closed x e;
        kept = λ x e. set_at x y c (k.stack x) (x == y) refl e f ∙ b.kept x e;
      }

  -- what a store leaves
  abbrev pub Stored : Memory → Option Memory → Type 0
  Stored m1 o = (k1 : Memory) × (o ≡ Some k1) × Beside m1 k1

  -- a word of the first that isn't closed is no added one
  is_other : (m k : Memory) → Beside m k → (y : ℕ) → m.stack y ≢ Closed → added y ≡ false
  is_other m k b y n = by (added y) refl
    where
      by : (q : Bool) → added y ≡ q → q ≡ false
      by true e = absurd (n (b.closed y e))
      by false e = refl

  some_is : {A : Type 0} (x y : A) → Some x ≡ Some y → x ≡ y
  some_is x y e = cc

  open_too : (m k : Memory) → Beside m k → (y v : ℕ) (m1 : Memory) (c : Cell) → m.stack y ≡ c → put_open c y v m
      ≡ Some m1 → Stored m1 (put_open (k.stack y) y v k)
  open_too m k b y v m1 c e h = by c e h
    where
      same : (d : Cell) → m.stack y ≡ d → d ≢ Closed → added y ≡ false
      same d e n = is_other m k b y (λ z. n (sym e ∙ z))

      done : (d : Cell) → m.stack y ≡ d → d ≢ Closed → put_open d y v k ≡ Some (put y (Has v) k) → Some (put y
          (Has v) m) ≡ Some m1 → Stored m1 (put_open (k.stack y) y v k)
      done d e n p q = (
        put y (Has v) k,
        ap (λ z. put_open z y v k) (b.other y (same d e n) ∙ e) ∙ p,
        subst (λ z. Beside z (put y (Has v) k)) (some_is _ _ q) (put_too m k b y (Has v) (same d e n)),
      )

      by : (d : Cell) → m.stack y ≡ d → put_open d y v m ≡ Some m1 → Stored m1 (put_open (k.stack y) y v k)
      by Closed e q = absurd (none_some None m1 refl q)
      by Unset e q = done Unset e (λ z. cc) refl q
      by (Has u) e q = done (Has u) e (λ z. cc) refl q
      by (Kept r) e q = done (Kept r) e (λ z. cc) refl q

  moved : (m k : Memory) → Beside m k → Beside m (of_first m k)
  moved m k b = record { statics = refl; heap = refl; other = b.other; closed = b.closed; kept = b.kept }

  store_spot_too : (m k : Memory) → Beside m k → (y v : ℕ) (m1 : Memory) (s : Spot) → store_in m y s v ≡ Some m1 →
      Stored m1 (store_in (of_first m k) y s v)
  store_spot_too m k b y v m1 (in_statics i) h = (
    _,
    refl,
    subst (λ z. Beside z (record (of_first m k) { statics = set_word m.statics i v })) (some_is _ _ h)
        (record { statics = refl; heap = refl; other = b.other; closed = b.closed; kept = b.kept }),
  )
  store_spot_too m k b y v m1 (in_heap i) h = (
    _,
    refl,
    subst (λ z. Beside z (record (of_first m k) { heap = set_word m.heap i v })) (some_is _ _ h)
        (record { statics = refl; heap = refl; other = b.other; closed = b.closed; kept = b.kept }),
  )
  store_spot_too m k b y v m1 elsewhere h = open_too m (of_first m k) (moved m k b) y v m1 (m.stack y) refl h

  if_stored : (q : Bool) (o o' : Option Memory) (m1 : Memory) → (o ≡ Some m1 → Stored m1 o') →
      (if q then o else None) ≡ Some m1 → Stored m1 (if q then o' else None)
  if_stored true o o' m1 f h = f h
  if_stored false o o' m1 f h = absurd (none_some None m1 refl h)

  pub store_too : (m k : Memory) → Beside m k → (y v : ℕ) (m1 : Memory) → store m y v ≡ Some m1 → Stored m1
      (store k y v)
  store_too m k b y v m1 h =
      subst (λ z. Stored m1 (store z y v)) (sym (is_second m k b)) (if_stored (y % 4 == 0) _ _ m1
      (store_spot_too m k b y v m1 (spot m y)) h)

  byte_open_too : (m k : Memory) → Beside m k → (y j v : ℕ) (m1 : Memory) (c : Cell) → m.stack y ≡ c →
      put_byte c y j v m ≡ Some m1 → Stored m1 (put_byte (k.stack y) y j v k)
  byte_open_too m k b y j v m1 c e h = by c e h
    where
      by : (d : Cell) → m.stack y ≡ d → put_byte d y j v m ≡ Some m1 → Stored m1 (put_byte (k.stack y) y j v k)
      by Closed e q = absurd (none_some None m1 refl q)
      by Unset e q = absurd (none_some None m1 refl q)
      by (Has u) e q =
          let f : added y ≡ false = is_other m k b y (λ z. let d = sym e ∙ z in cc) in (
            put y (Has (with_byte u j v)) k,
            ap (λ z. put_byte z y j v k) (b.other y f ∙ e),
            subst (λ z. Beside z (put y (Has (with_byte u j v)) k)) (some_is _ _ q) (put_too m k b y (Has
                (with_byte u j v)) f),
          )
      by (Kept r) e q = absurd (none_some None m1 refl q)

  store_byte_spot_too : (m k : Memory) → Beside m k → (y v : ℕ) (m1 : Memory) (s : Spot) → store_byte_in m y s v
      ≡ Some m1 → Stored m1 (store_byte_in (of_first m k) y s v)
  store_byte_spot_too m k b y v m1 (in_statics i) h = (
    _,
    refl,
    subst (λ z. Beside z (record (of_first m k) { statics = slice_set m.statics i (v % 256) }))
        (some_is _ _ h)
        (record { statics = refl; heap = refl; other = b.other; closed = b.closed; kept = b.kept }),
  )
  store_byte_spot_too m k b y v m1 (in_heap i) h = (
    _,
    refl,
    subst (λ z. Beside z (record (of_first m k) { heap = slice_set m.heap i (v % 256) })) (some_is _ _ h)
        (record { statics = refl; heap = refl; other = b.other; closed = b.closed; kept = b.kept }),
  )
  store_byte_spot_too m k b y v m1 elsewhere h = byte_open_too m (of_first m k) (moved m k b) (y - y % 4)
      (y % 4) v m1 (m.stack (y - y % 4)) refl h

  pub store_byte_too : (m k : Memory) → Beside m k → (y v : ℕ) (m1 : Memory) → store_byte m y v ≡ Some m1 →
      Stored m1 (store_byte k y v)
  store_byte_too m k b y v m1 h =
      subst (λ z. Stored m1 (store_byte z y v)) (sym (is_second m k b)) (store_byte_spot_too m k b y v m1
      (spot m y) h)

-- a store to an added word, by the second alone
pub put_added : (added : ℕ → Bool) (cells : ℕ → Cell) (m k : Memory) → Beside added cells m k → (y : ℕ)
    (c : Cell) → added y ≡ true →
    Beside added (set_cell y c cells) m (put y c k)
put_added added cells m k b y c t =
    record {
      statics = b.statics;
      heap = b.heap;
      other = λ x e. by x (x == y) refl e ∙ b.other x e;
      closed = b.closed;
      kept = λ x e. ap (λ d. if x == y then c else d) (b.kept x e);
    }
  where
    by : (x : ℕ) (q : Bool) → (x == y) ≡ q → added x ≡ false → (if x == y then c else k.stack x) ≡ k.stack x
    by x true h e = let same : x ≡ y = eqb-true x y h in absurd (true≢false (sym t ∙ (sym (ap added same) ∙ e)))
    by x false h e = ap (λ z. if z then c else k.stack x) h
