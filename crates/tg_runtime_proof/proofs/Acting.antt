-- Sequences, choices that are known, conditions part by part, faults, and the services that the runtime asks for.
use Rattle.std.proofs.Common.{◌≡◌, ℕ, zero, suc, ◌+◌, List, [], ◌∷◌, ◌++◌, length, Bool, true, false, refl, sym, ap}
use Rattle.std.proofs.Common.{arith, subst}
use Rattle.std.specs.Prelude.{if◌then◌else◌, nat_lt, replicate, ◌||◌, ◌%◌, drop}
use Rattle.tg_machine_state.specs.declared.ends.RunEnd.TheVariants.{HeapFull, Break}
use Rattle.tg_machine_state.specs.State.{heap_base}
use Rattle.tg_machine_state.specs.Services.{whole_words}
use Rattle.tg_simulation.specs.Runs.{Run}
use Rattle.tg_simulation.specs.Ran.{Ran, Ended}
use Rattle.tg_simulation.specs.laws.Simulating.{Comes}
use Rattle.tg_simulation.proofs.Simulations.{comes_itself, comes_working, comes_writing}
use Rattle.tg_tree.specs.declared.operators.Rel.{Rel}
use Rattle.tg_tree.specs.Tree as tree
use Rattle.tg_tree.specs.Tree.{Tx, Ts, Stms, Cond, Compare, Either, Move, Do, Service, If, Seq, no_stms, stm}
use Rattle.tg_tree.specs.Forms.{stms, when, nothing}
use Rattle.tg_tree.specs.Units.{Trees, condition_units}
use Rattle.tg_tree.specs.Shapes.{IsFlat, is_flat_condition}
use Rattle.tg_tree.specs.Operators.{holds}
use Rattle.tg_tree.specs.Actions.{World, Temps, set_temp, Around, Go, Next, over, take_heap, service, written}
use Rattle.tg_tree.specs.Actions.{read_byte}
use Rattle.tg_tree.specs.Meaning.{run_all}
use Rattle.tg_tree.proofs.Alikes.{next_is}
use Rattle.tg_runtime.specs.mirror.Routines.{minus_one}
use Rattle.tg_runtime_proof.specs.Settings.{Setting, does, heads}
use Rattle.tg_runtime_proof.specs.laws.Serving.{first_of, with_input}
use Rattle.tg_runtime_proof.proofs.Coming.{comes_along, comes_within, value_comes, choice_comes, compare_comes}
use Rattle.tg_runtime_proof.proofs.Coming.{is_word, units, tests, value_of}

-- a world with more heap
abbrev pub grown : ℕ → World → World
grown n w = record w { memory = record w.memory { heap = w.memory.heap ++ replicate n 0 } }

-- the statements of a sequence, and those after so many
abbrev pub parts : Ts → Stms
parts (Seq ss) = ss
parts _ = no_stms

abbrev pub behind : ℕ → Stms → Stms
behind zero ss = ss
behind (suc n) no_stms = no_stms
behind (suc n) (stm s ss) = behind n ss

module _ (setting : Setting) where
  -- Sequences.

  -- the rest of a sequence
  abbrev pub after : Stms → Around → Next → Next
  after ss z next w t = run_all Trees setting.room setting.literals setting.calling (heads setting) ss z next w t

  -- what is left of a sequence after so many of its statements
  abbrev pub rest : ℕ → Ts → Around → Next → Next
  rest j s = after (behind j (parts s))

  pub sequence_comes : (k : ℕ) (ss : Stms) (z : Around) (next : Next) (w : World) (t : Temps) (e : Run Ran) →
      Comes k (after ss z next w t) e → Comes k (does setting (Seq ss) z next w t) e
  sequence_comes k ss z next w t e c =
      comes_within (0 + k) k _ e (omega arith) (comes_working k 0 (after ss z next w t) e c)

  -- a statement that is one
  pub sequence_of : (k : ℕ) (s : Ts) (z : Around) (next : Next) (w : World) (t : Temps) (e : Run Ran) →
      s ≡ Seq (parts s) →
      Comes k (after (parts s) z next w t) e → Comes k (does setting s z next w t) e
  sequence_of k s z next w t e is c =
      subst (λ (s1 : Ts). Comes k (does setting s1 z next w t) e) (sym is) (sequence_comes k (parts s) z next w t e c)

  -- a sequence with one more statement at its end
  pub after_last : (ss : List Ts) (s : Ts) (z : Around) (next : Next) (w : World) (t : Temps) (n : ℕ) →
      after (stms (ss ++ s ∷ [])) z next w t n ≡ after (stms ss) z (does setting s z next) w t n
  after_last [] s z next w t n = refl
  after_last (s0 ∷ ss) s z next w t n =
      ap (λ (g : Next). does setting s0 z g w t n)
      (next_is (after (stms (ss ++ s ∷ [])) z next) (after (stms ss) z (does setting s z next))
      (λ w1 t1 m. after_last ss s z next w1 t1 m))

  pub fault_comes : (n : ℕ) (z : Around) (next : Next) (w : World) (t : Temps) →
      Comes 3 (does setting (tree.Fault n) z next w t) (over (Ended (Break n)) w)
  fault_comes n z next w t =
      let e : Run Ran = over (Ended (Break n)) w in
      comes_working 0 3 e e (comes_itself e)

  -- Choices.

  abbrev chosen : Bool → Ts → Ts → Around → Next → Next
  chosen b this other = if b then does setting this else does setting other

  -- a choice that is known
  pub chosen_comes : (k u v : ℕ) (rel : Rel) (x y : Tx) (this other : Ts) (z : Around) (next : Next) (w : World)
      (t : Temps) (e : Run Ran) →
      IsFlat x → IsFlat y → is_word setting z w t x u → is_word setting z w t y v → holds rel u v ≡ true →
      Comes k (does setting this z next w t) e →
      Comes (8 + (units x + (units y + k))) (does setting (If (Compare rel x y) this other) z next w t) e
  chosen_comes k u v rel x y this other z next w t e fx fy hx hy is c =
      choice_comes setting k u v rel x y this other z next w t e fx fy hx hy
      (subst (λ b. Comes k (chosen b this other z next w t) e) (sym is) c)

  pub other_comes : (k u v : ℕ) (rel : Rel) (x y : Tx) (this other : Ts) (z : Around) (next : Next) (w : World)
      (t : Temps) (e : Run Ran) →
      IsFlat x → IsFlat y → is_word setting z w t x u → is_word setting z w t y v → holds rel u v ≡ false →
      Comes k (does setting other z next w t) e →
      Comes (8 + (units x + (units y + k))) (does setting (If (Compare rel x y) this other) z next w t) e
  other_comes k u v rel x y this other z next w t e fx fy hx hy is c =
      choice_comes setting k u v rel x y this other z next w t e fx fy hx hy
      (subst (λ b. Comes k (chosen b this other z next w t) e) (sym is) c)

  -- nothing is done
  pub nothing_comes : (k : ℕ) (z : Around) (next : Next) (w : World) (t : Temps) (e : Run Ran) →
      Comes k (next w t) e → Comes k (does setting nothing z next w t) e
  nothing_comes k z next w t e c = comes_within (0 + k) k _ e (omega arith) (comes_working k 0 (next w t) e c)

  pub passed_comes : (k u v : ℕ) (rel : Rel) (x y : Tx) (s : Ts) (z : Around) (next : Next) (w : World) (t : Temps)
      (e : Run Ran) →
      IsFlat x → IsFlat y → is_word setting z w t x u → is_word setting z w t y v → holds rel u v ≡ false →
      Comes k (next w t) e →
      Comes (8 + (units x + (units y + k))) (does setting (when (Compare rel x y) s) z next w t) e
  passed_comes k u v rel x y s z next w t e fx fy hx hy is c =
      other_comes k u v rel x y s nothing z next w t e fx fy hx hy is (nothing_comes k z next w t e c)

  -- Conditions, part by part.

  -- a condition tells this, in so many units
  abbrev pub IsTested : Cond → Bool → (spent : ℕ) → Around → World → Temps → Type 0
  IsTested c b n z w t =
      (go : Go Bool) (k : ℕ) (e : Run Ran) → Comes k (go b w t) e → Comes (n + k) (tests setting c z go w t) e

  pub compare_tested : (u v : ℕ) (rel : Rel) (x y : Tx) (z : Around) (w : World) (t : Temps) →
      IsFlat x → IsFlat y → is_word setting z w t x u → is_word setting z w t y v →
      IsTested (Compare rel x y) (holds rel u v) (4 + (units x + units y)) z w t
  compare_tested u v rel x y z w t fx fy hx hy go k e c =
      comes_within (4 + (units x + (units y + k))) (4 + (units x + units y) + k) _ e (omega arith)
      (compare_comes setting k u v rel x y z go w t e fx fy hx hy c)

  pub either_tested : (b b2 : Bool) (n m : ℕ) (c d : Cond) (z : Around) (w : World) (t : Temps) →
      is_flat_condition d ≡ true →
      IsTested c b n z w t → (b ≡ false → IsTested d b2 m z w t) →
      IsTested (Either c d) (b || b2) (14 + (n + m)) z w t
  either_tested true b2 n m c d z w t flat hc hd go k e h =
      let joined : condition_units Trees (Either c d) ≡ 14 = ap (λ f. if f then 14 else 31) flat in
      comes_within (condition_units Trees (Either c d) + (n + k)) (14 + (n + m) + k) _ e (omega (arith, joined))
      (comes_working (n + k) (condition_units Trees (Either c d)) _ e (hc _ k e h))
  either_tested false b2 n m c d z w t flat hc hd go k e h =
      let joined : condition_units Trees (Either c d) ≡ 14 = ap (λ f. if f then 14 else 31) flat in
      comes_within (condition_units Trees (Either c d) + (n + (m + k))) (14 + (n + m) + k) _ e (omega (arith, joined))
      (comes_working (n + (m + k)) (condition_units Trees (Either c d)) _ e (hc _ (m + k) e (hd refl go k e h)))

  pub tested_comes : (k n : ℕ) (b : Bool) (c : Cond) (this other : Ts) (z : Around) (next : Next) (w : World)
      (t : Temps) (e : Run Ran) →
      IsTested c b n z w t → Comes k (chosen b this other z next w t) e →
      Comes (4 + (n + k)) (does setting (If c this other) z next w t) e
  tested_comes k n b c this other z next w t e h g =
      comes_working (n + k) 4 _ e (h (λ b1 w1 t1. chosen b1 this other z next w1 t1) k e g)

  pub failed_comes : (k n : ℕ) (b : Bool) (c : Cond) (s : Ts) (z : Around) (next : Next) (w : World) (t : Temps)
      (e : Run Ran) →
      IsTested c b n z w t → b ≡ false → Comes k (next w t) e →
      Comes (4 + (n + k)) (does setting (when c s) z next w t) e
  failed_comes k n b c s z next w t e h is g =
      tested_comes k n b c s nothing z next w t e h
      (subst (λ b1. Comes k (chosen b1 s nothing z next w t) e) (sym is) (nothing_comes k z next w t e g))

  -- Services.

  pub service_comes : (k n u : ℕ) (x : Tx) (z : Around) (go : Go ℕ) (w : World) (t : Temps) (e : Run Ran) →
      IsFlat x → is_word setting z w t x u →
      Comes k (service setting.room n u w (λ v w1. go v w1 t)) e →
      Comes (7 + (units x + k)) (value_of setting (Service n x) z go w t) e
  service_comes k n u x z go w t e f h c =
      comes_working (units x + k) 7 _ e
      (value_comes setting k u x z (λ v w1 t1. service setting.room n v w1 (λ v2 w2. go v2 w2 t1)) w t e f h c)

  -- more heap is taken
  pub taken_comes : (k u : ℕ) (x : Tx) (z : Around) (go : Go ℕ) (w : World) (t : Temps) (e : Run Ran) →
      IsFlat x → is_word setting z w t x u →
      nat_lt setting.room (length w.memory.heap + whole_words u) ≡ false →
      Comes k (go (heap_base + length w.memory.heap) (grown (whole_words u) w) t) e →
      Comes (7 + (units x + k)) (value_of setting (Service 9 x) z go w t) e
  taken_comes k u x z go w t e f h fits c =
      service_comes k 9 u x z go w t e f h
      (comes_along k (take_heap setting.room (whole_words u) w (λ v w1. go v w1 t))
      (go (heap_base + length w.memory.heap) (grown (whole_words u) w) t) e
      (λ n. ap (λ b. (if b then over (Ended HeapFull) w else go (heap_base + length w.memory.heap)
      (grown (whole_words u) w) t) n)
      fits) c)

  -- or there is no more
  pub heap_full : (u : ℕ) (x : Tx) (z : Around) (go : Go ℕ) (w : World) (t : Temps) →
      IsFlat x → is_word setting z w t x u →
      nat_lt setting.room (length w.memory.heap + whole_words u) ≡ true →
      Comes (7 + units x) (value_of setting (Service 9 x) z go w t) (over (Ended HeapFull) w)
  heap_full u x z go w t f h full =
      let e : Run Ran = over (Ended HeapFull) w in
      comes_within (7 + (units x + 0)) (7 + units x) _ e (omega arith)
      (service_comes 0 9 u x z go w t e f h
      (comes_along 0 (take_heap setting.room (whole_words u) w (λ v w1. go v w1 t)) e e
      (λ n. ap (λ b. (if b then over (Ended HeapFull) w else go (heap_base + length w.memory.heap)
      (grown (whole_words u) w) t) n)
      full) (comes_itself e)))

  abbrev into : ℕ → Next → Go ℕ
  into i next v w t = next w (set_temp i v t)

  pub take_comes : (k i u : ℕ) (x : Tx) (z : Around) (next : Next) (w : World) (t : Temps) (e : Run Ran) →
      IsFlat x → is_word setting z w t x u →
      nat_lt setting.room (length w.memory.heap + whole_words u) ≡ false →
      Comes k (next (grown (whole_words u) w) (set_temp i (heap_base + length w.memory.heap) t)) e →
      Comes (9 + (units x + k)) (does setting (Move i (Service 9 x)) z next w t) e
  take_comes k i u x z next w t e f h fits c =
      comes_within (2 + (7 + (units x + k))) (9 + (units x + k)) _ e (omega arith)
      (comes_working (7 + (units x + k)) 2 _ e (taken_comes k u x z (into i next) w t e f h fits c))

  pub full_comes : (i u : ℕ) (x : Tx) (z : Around) (next : Next) (w : World) (t : Temps) →
      IsFlat x → is_word setting z w t x u →
      nat_lt setting.room (length w.memory.heap + whole_words u) ≡ true →
      Comes (9 + units x) (does setting (Move i (Service 9 x)) z next w t) (over (Ended HeapFull) w)
  full_comes i u x z next w t f h full =
      comes_within (2 + (7 + units x)) (9 + units x) _ (over (Ended HeapFull) w) (omega arith)
      (comes_working (7 + units x) 2 _ (over (Ended HeapFull) w) (heap_full u x z (into i next) w t f h full))

  -- asked for and not kept
  pub full_done : (u : ℕ) (x : Tx) (z : Around) (next : Next) (w : World) (t : Temps) →
      IsFlat x → is_word setting z w t x u →
      nat_lt setting.room (length w.memory.heap + whole_words u) ≡ true →
      Comes (7 + units x) (does setting (Do (Service 9 x)) z next w t) (over (Ended HeapFull) w)
  full_done u x z next w t f h full =
      comes_within (0 + (7 + units x)) (7 + units x) _ (over (Ended HeapFull) w) (omega arith)
      (comes_working (7 + units x) 0 _ (over (Ended HeapFull) w)
      (heap_full u x z (λ v w1 t1. next w1 t1) w t f h full))

  -- a byte is written
  pub write_comes : (k u : ℕ) (x : Tx) (z : Around) (next : Next) (w : World) (t : Temps) (e : Run Ran) →
      IsFlat x → is_word setting z w t x u →
      Comes k (next w t) e →
      Comes (7 + (units x + k)) (does setting (Do (Service 11 x)) z next w t) (written (u % 256 ∷ []) e)
  write_comes k u x z next w t e f h c =
      let e1 : Run Ran = written (u % 256 ∷ []) e in
      comes_within (0 + (7 + (units x + k))) (7 + (units x + k)) _ e1 (omega arith)
      (comes_working (7 + (units x + k)) 0 _ e1
      (service_comes k 11 u x z (λ v w1 t1. next w1 t1) w t e1 f h
      (comes_writing k (u % 256 ∷ []) (next w t) e c)))

  -- a byte is read
  reads_byte : (input : List ℕ) (w : World) (go : ℕ → World → Run Ran) (n : ℕ) → w.input ≡ input →
      read_byte input w go n ≡ go (first_of input) (with_input (drop 1 input) w) n
  reads_byte [] w go n is = ap (λ l. go minus_one (with_input l w) n) is
  reads_byte (b ∷ rest) w go n is = refl

  pub read_comes : (k i u : ℕ) (x : Tx) (z : Around) (next : Next) (w : World) (t : Temps) (e : Run Ran) →
      IsFlat x → is_word setting z w t x u →
      Comes k (next (with_input (drop 1 w.input) w) (set_temp i (first_of w.input) t)) e →
      Comes (9 + (units x + k)) (does setting (Move i (Service 12 x)) z next w t) e
  read_comes k i u x z next w t e f h c =
      let go : ℕ → World → Run Ran = λ v w1. next w1 (set_temp i v t) in
      comes_within (2 + (7 + (units x + k))) (9 + (units x + k)) _ e (omega arith)
      (comes_working (7 + (units x + k)) 2 _ e
      (service_comes k 12 u x z (into i next) w t e f h
      (comes_along k (read_byte w.input w go) (go (first_of w.input) (with_input (drop 1 w.input) w)) e
      (λ n. reads_byte w.input w go n refl) c)))
