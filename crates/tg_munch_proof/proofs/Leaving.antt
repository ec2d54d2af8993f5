-- At a return a frame is closed on both sides, and what was told above it holds.
use Rattle.std.proofs.Common.{◌≡◌, ◌≢◌, ◌≤◌, ◌<◌, ℕ, zero, suc, ◌+◌, ◌-◌, ◌*◌, List, length, Bool, true, false, refl}
use Rattle.std.proofs.Common.{◌/◌, sym, ap, ◌∙◌, subst, arith}
use Rattle.std.proofs.lemmas.Bool.Decides.{nat_tests}
use Rattle.std.specs.Prelude.{◌==◌, ◌&&◌, ◌||◌, not, nat_le, nat_lt, if◌then◌else◌}
use Rattle.tg_tree.specs.Tree.{Linear, Function}
use Rattle.tg_tree.specs.Memory.{Memory, Cell, Closed, Unset, Has, slot, lay}
use Rattle.tg_tree.specs.Actions.{World, Activation}
use Rattle.tg_tree.specs.Running.{with_slots, without_slots}
use Rattle.tg_tree.specs.FrameSizes.{IsSizeOf}
use Rattle.tg_instr.specs.Running.{lay_out, with_frame}
use Rattle.tg_munch.specs.mirror.Bodies.{outs}
use Rattle.tg_simulation.specs.Bytes.{AreBytes}
use Rattle.tg_munch_proof.specs.Words.{IsWord, AreWords}
use Rattle.tg_munch_proof.specs.laws.Chosen.{chosen}
use Rattle.tg_munch_proof.specs.glue.Outlines.{Outline}
use Rattle.tg_munch_proof.specs.glue.Relating.{Program, outline_in, AreAlike, IsActivation, is_low, is_slot}
use Rattle.tg_munch_proof.specs.glue.Relating.{most_statics}
use Rattle.tg_munch_proof.proofs.Frames.{lay_other, frame_holds, put_other, not_equal}
use Rattle.tg_munch_proof.proofs.Outlines.{closed_behind, shut_within}

-- what is laid leaves statics and heap
lay_statics : (base n : ℕ) (c : Cell) (m : Memory) → (lay base n c m).statics ≡ m.statics
lay_statics base zero c m = refl
lay_statics base (suc n) c m = lay_statics base n c m

lay_heap : (base n : ℕ) (c : Cell) (m : Memory) → (lay base n c m).heap ≡ m.heap
lay_heap base zero c m = refl
lay_heap base (suc n) c m = lay_heap base n c m

-- and puts no word where it leaves none
lays_words : (base n : ℕ) (c : Cell) (m : Memory) → ((v : ℕ) → c ≡ Has v → ⊥) → ((a v : ℕ) → m.stack a ≡ Has v → IsWord v) →
    (a v : ℕ) → (lay base n c m).stack a ≡ Has v → IsWord v
lays_words base zero c m wordless h a v e = h a v e
lays_words base (suc n) c m wordless h a v e = by (a == slot base n) e (lays_words base n c m wordless h a v)
  where
    by : (b : Bool) → (if b then c else (lay base n c m).stack a) ≡ Has v →
        ((lay base n c m).stack a ≡ Has v → IsWord v) → IsWord v
    by true e k = absurd (wordless v e)
    by false e k = k e

closed_is_none : (v : ℕ) → Closed ≡ Has v → ⊥
closed_is_none v e = cc

unset_is_none : (v : ℕ) → Unset ≡ Has v → ⊥
unset_is_none v e = cc

-- regions and words, where slots become a cell that has none
laid_words : (base n : ℕ) (c : Cell) (m : Memory) → ((v : ℕ) → c ≡ Has v → ⊥) → AreWords m → AreWords (lay base n c m)
laid_words base n c m wordless h = record {
  statics = subst AreBytes (sym (lay_statics base n c m)) h.statics;
  heap = subst AreBytes (sym (lay_heap base n c m)) h.heap;
  stack = lays_words base n c m wordless h.stack;
}

low_there : (low n k : ℕ) (c : Cell) (m : Memory) → k < n → (lay_out low n c m).stack (low + 4 * k) ≡ c
low_there low zero k c m lt = absurd (omega arith)
low_there low (suc n) k c m lt =
    by (low + 4 * k == low + 4 * n) refl (λ e. low_there low n k c m (before e))
  where
    differ : (low + 4 * k == low + 4 * n) ≡ false → k ≢ n
    differ e same = other (low + 4 * k) (low + 4 * n) e (ap (λ i. low + 4 * i) same)
      where
        other : (i j : ℕ) → (i == j) ≡ false → i ≢ j
        other i j e = grind (arith, nat_tests)

    before : (low + 4 * k == low + 4 * n) ≡ false → k < n
    before e = let d = differ e in omega (arith, d, lt)

    by : (b : Bool) → (low + 4 * k == low + 4 * n) ≡ b →
        ((low + 4 * k == low + 4 * n) ≡ false → (lay_out low n c m).stack (low + 4 * k) ≡ c) →
        (if b then c else (lay_out low n c m).stack (low + 4 * k)) ≡ c
    by true e h = refl
    by false e h = h e

which_low : (low n a : ℕ) → is_low low n a ≡ true → (k : ℕ) × (k < n) × (a ≡ low + 4 * k)
which_low low n a e = ((a - low) / 4, grind (arith, nat_tests), grind (arith, nat_tests))

pub low_other : (low n : ℕ) (c : Cell) (m : Memory) (a : ℕ) → low + 4 * n ≤ a → (lay_out low n c m).stack a ≡ m.stack a
low_other low zero c m a h = refl
low_other low (suc n) c m a h =
    put_other (a == low + 4 * n) c ((lay_out low n c m).stack a) (not_equal a (low + 4 * n) (λ e. let z : ⊥ = omega
    arith in z)) ∙
    low_other low n c m a (omega arith)

-- the tests of a frame
pub or_left : (b c : Bool) → b ≡ true → (b || c) ≡ true
or_left true c e = refl
or_left false c e = cc

pub or_right : (b c : Bool) → c ≡ true → (b || c) ≡ true
or_right true c e = refl
or_right false c e = e

pub all_three : (a b c : Bool) → a ≡ true → b ≡ true → c ≡ true → (a && (b && c)) ≡ true
all_three true true true e f g = refl
all_three true true false e f g = g
all_three true false c e f g = f
all_three false b c e f g = e

pub is_le : (m n : ℕ) → m ≤ n → nat_le m n ≡ true
is_le m n h = grind (arith, nat_tests)

pub is_lt : (m n : ℕ) → m < n → nat_lt m n ≡ true
is_lt m n h = grind (arith, nat_tests)

pub low_is_no_slot : (base size slots n k : ℕ) → 4 * (slots + n) ≤ size → size ≤ base → k < n → not (is_slot base slots
    (base - size + 4 * k)) ≡ true
low_is_no_slot base size slots n k fits le lt = grind (arith, nat_tests)

module _
    (program : Program) (f : Function (List Linear)) (act : Activation) (o : Outline)
    (active : IsActivation program f act o) (sized : IsSizeOf (chosen f) (program.size f.label)) where
  fits : 4 * (f.slots + outs f.body) ≤ act.size
  fits = let e = active.frame in let h = sized.holds in omega (arith, e, h)

  within : act.size ≤ act.base
  within = let e = active.fits in omega (arith, e)

  pub leaves : (w x : World) → AreAlike program (outline_in f act o) w x →
      AreAlike program o (without_slots f act.base w) (with_frame (chosen f) act Closed x)
  leaves w x h = record {
    holds = frame_holds act.base act.size f.slots (outs f.body) Closed w x fits within (λ k lt. shut_low k lt) h.holds;
    closed = λ a lt.
        closed_behind act.base act.size f.slots w.memory a slots_fit within (let e = active.low in omega (
          arith,
          e,
          lt,
        )) h.closed (λ b g l e. shut_here b g l e);
    shut = λ a e.
        lay_other act.base f.slots Closed w.memory a (λ k lt. above_slot a k (active.apart.shut a e) lt) ∙ h.shut a
        (or_right _ (o.shut a) e);
    for_arguments = λ a e closed.
        h.for_arguments a (or_right _ (o.for_arguments a) e)
        (sym (low_other (act.base - act.size) (outs f.body) Closed (lay act.base f.slots Closed x.memory) a (let g =
        active.apart.for_arguments a e in let i = fits in let j = within in omega (arith, g, i, j)) ∙
        lay_other act.base f.slots Closed x.memory a (λ k lt. above_slot a k (active.apart.for_arguments a e) lt)) ∙
        closed);
    words = laid_words act.base f.slots Closed w.memory closed_is_none h.words;
    input = h.input;
    statics = subst (λ (bytes : List ℕ). length bytes ≤ most_statics program) (sym (lay_statics act.base f.slots Closed w.memory))
        h.statics;
    heap = subst (λ (bytes : List ℕ). length bytes ≤ program.room) (sym (lay_heap act.base f.slots Closed w.memory)) h.heap;
  }
    where
      slots_fit : 4 * f.slots ≤ act.size
      slots_fit = let i = fits in omega (arith, i)

      shut_here : (b : ℕ) → act.base - act.size ≤ b → b < act.base → not (is_slot act.base f.slots b) ≡ true →
          w.memory.stack b ≡ Closed
      shut_here b g l e =
          h.shut b (or_left _ (o.shut b) (all_three (nat_le (act.base - act.size) b) (nat_lt b act.base) (not
          (is_slot act.base f.slots b))
          (is_le (act.base - act.size) b g) (is_lt b act.base l) e))

      shut_low : (k : ℕ) → k < outs f.body → w.memory.stack (act.base - act.size + 4 * k) ≡ Closed
      shut_low k lt =
          shut_here (act.base - act.size + 4 * k) (omega arith) (let i = fits in let j = within in omega (
            arith,
            i,
            j,
            lt,
          ))
          (low_is_no_slot act.base act.size f.slots (outs f.body) k fits within lt)

      above_slot : (a k : ℕ) → act.base ≤ a → k < f.slots → a ≢ slot act.base k
      above_slot a k g lt e = let i = slots_fit in let j = within in omega (arith, g, lt, e, i, j)

  -- at an entry a frame is laid on both sides
  pub enters : (w x : World) → AreAlike program o w x →
      AreAlike program (outline_in f act o) (with_slots f act.base w) (with_frame (chosen f) act Unset x)
  enters w x h = record {
    holds = frame_holds act.base act.size f.slots (outs f.body) Unset w x fits within (λ k lt. closed_below (act.base - act.size + 4 * k)
        (let i = fits in let j = within in omega (arith, i, j, lt))) h.holds;
    closed = λ a lt.
        lay_other act.base f.slots Unset w.memory a
        (λ k less e. let i = slots_fit in let j = within in omega (arith, less, e, i, j, lt)) ∙
        closed_below a (omega (arith, lt));
    shut = λ a e.
        either (nat_le (act.base - act.size) a && (nat_lt a act.base && not (is_slot act.base f.slots a))) (o.shut a)
        ((lay act.base f.slots Unset w.memory).stack a ≡ Closed) e
        (λ b. let q = in_frame (nat_le (act.base - act.size) a) (nat_lt a act.base) (not (is_slot act.base f.slots a)) b in
        shut_within act.base f.slots Unset w.memory a (let i = slots_fit in let j = within in omega (arith, i, j)) q.1
        (closed_below a (is_less a act.base q.0)))
        (λ b. lay_other act.base f.slots Unset w.memory a (λ k lt. above a k (active.apart.shut a b) lt) ∙ h.shut a b);
    for_arguments = λ a e.
        either (is_low (act.base - act.size) (outs f.body) a) (o.for_arguments a)
        ((with_frame (chosen f) act Unset x).memory.stack a ≢ Closed) e
        (λ b. let q = which_low (act.base - act.size) (outs f.body) a b in
        λ c. not_closed (sym (ap (lay_out (act.base - act.size) (outs f.body) Unset (lay act.base f.slots Unset x.memory)).stack q.2 ∙
        low_there (act.base - act.size) (outs f.body) q.0 Unset (lay act.base f.slots Unset x.memory) q.1) ∙ c))
        (λ b c. h.for_arguments a b
        (sym (low_other (act.base - act.size) (outs f.body) Unset (lay act.base f.slots Unset x.memory) a
        (let g = active.apart.for_arguments a b in let i = fits in let j = within in omega (arith, g, i, j)) ∙
        lay_other act.base f.slots Unset x.memory a (λ k lt. above a k (active.apart.for_arguments a b) lt)) ∙ c));
    words = laid_words act.base f.slots Unset w.memory unset_is_none h.words;
    input = h.input;
    statics = subst (λ (bytes : List ℕ). length bytes ≤ most_statics program)
        (sym (lay_statics act.base f.slots Unset w.memory)) h.statics;
    heap = subst (λ (bytes : List ℕ). length bytes ≤ program.room) (sym (lay_heap act.base f.slots Unset w.memory)) h.heap;
  }
    where
      slots_fit : 4 * f.slots ≤ act.size
      slots_fit = let i = fits in omega (arith, i)

      closed_below : (a : ℕ) → a < act.base → w.memory.stack a ≡ Closed
      closed_below a lt = h.closed a (let e = active.low in omega (arith, e, lt))

      above : (a k : ℕ) → act.base ≤ a → k < f.slots → a ≢ slot act.base k
      above a k g lt e = let i = slots_fit in let j = within in omega (arith, g, lt, e, i, j)

      not_closed : Unset ≡ Closed → ⊥
      not_closed e = cc

      is_less : (m n : ℕ) → nat_lt m n ≡ true → m < n
      is_less m n e = grind (arith, nat_tests)

      in_frame : (b c d : Bool) → (b && (c && d)) ≡ true → (c ≡ true) × (d ≡ true)
      in_frame true true true e = (refl, refl)
      in_frame true true false e = absurd (no e)
        where
          no : false ≡ true → ⊥
          no e = cc
      in_frame true false d e = absurd (no e)
        where
          no : false ≡ true → ⊥
          no e = cc
      in_frame false c d e = absurd (no e)
        where
          no : false ≡ true → ⊥
          no e = cc

      either : (b c : Bool) (P : Type 0) → (b || c) ≡ true → (b ≡ true → P) → (c ≡ true → P) → P
      either true c P e h k = h refl
      either false c P e h k = k e
