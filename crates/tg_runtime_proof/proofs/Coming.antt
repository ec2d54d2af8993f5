-- How a statement over flat expressions comes on: what it does, in its units.
use Rattle.std.proofs.Common.{◌≡◌, ℕ, zero, suc, ◌+◌, ◌≤◌, Option, Some, refl, ap, ◌∙◌, arith}
use Rattle.std.specs.Prelude.{Bool, if◌then◌else◌}
use Rattle.tg_simulation.specs.Runs.{Run}
use Rattle.tg_simulation.specs.Ran.{Ran, works}
use Rattle.tg_simulation.specs.laws.Simulating.{Comes}
use Rattle.tg_simulation.proofs.Simulations.{comes_working}
use Rattle.tg_base.specs.Words.{add}
use Rattle.tg_tree.specs.declared.operators.Bin.TheVariants.{Add}
use Rattle.tg_tree.specs.declared.operators.Rel.{Rel}
use Rattle.tg_tree.specs.Tree.{Tx, Const, Temp, Binary, Load, LoadByte, Cond, Compare, Ts, Move, Store, StoreByte, If}
use Rattle.tg_tree.specs.Tree.{Loop, Return}
use Rattle.tg_tree.specs.Units.{Trees, hoisted_units, statement_units, condition_units}
use Rattle.tg_tree.specs.Shapes.{IsFlat}
use Rattle.tg_tree.specs.Sizes.{expression_length}
use Rattle.tg_tree.specs.Operators.{word, operate, holds}
use Rattle.tg_tree.specs.Memory.{Memory, load, load_byte, store, store_byte}
use Rattle.tg_tree.specs.FlatValue.{flat_value, or_wrong, onward}
use Rattle.tg_tree.specs.Actions.{World, Temps, set_temp, Around, Go, Next, leaving, charged, with_given, with_memory}
use Rattle.tg_tree.specs.Meaning.{Point, value, test}
use Rattle.tg_tree.specs.Running.{with_fuel}
use Rattle.tg_tree.proofs.Alikes.{next_is}
use Rattle.tg_tree.proofs.Flatness.{flat_tested}
use Rattle.tg_tree.proofs.FlatValues.{flat_runs, word_spends}
use Rattle.tg_runtime.specs.mirror.Routines.{plus, advance}
use Rattle.tg_runtime_proof.specs.Settings.{Setting, heads, does, Steps}

-- equal runs come alike
pub comes_along : (k : ℕ) (c d e : Run Ran) → ((i : ℕ) → c i ≡ d i) → Comes k d e → Comes k c e
comes_along k c d e h g i = let x = g i in (x.0, x.1, x.2, x.3, h x.0 ∙ x.4)

-- in at most so many units
pub comes_within : (k l : ℕ) (d e : Run Ran) → k ≤ l → Comes k d e → Comes l d e
comes_within k l d e le g i = let x = g i in (x.0, x.1, x.2, omega (arith, le, x.3), x.4)

fuel_is : (w : World) (c d : Run Ran) → ((n : ℕ) → c n ≡ d n) → (n : ℕ) → with_fuel w c n ≡ with_fuel w d n
fuel_is w c d h zero = refl
fuel_is w c d h (suc n) = h n

-- the units of an expression
abbrev pub units : Tx → ℕ
units x = expression_length Trees x

module _ (setting : Setting) where
  -- a flat expression has this word
  abbrev pub is_word : Around → World → Temps → Tx → ℕ → Type 0
  is_word z w t x u = flat_value setting.literals z.activation.base w.memory t x ≡ word u

  -- an expression's run
  abbrev pub value_of : Tx → Around → Go ℕ → Next
  value_of x z go w t = value Trees setting.room setting.literals setting.calling (heads setting) x z go w t

  -- and a condition's
  abbrev pub tests : Cond → Around → Go Bool → Next
  tests c z go w t = test Trees setting.room setting.literals setting.calling (heads setting) c z go w t

  value_is : (x : Tx) (u : ℕ) (z : Around) (go : Go ℕ) (w : World) (t : Temps) → IsFlat x → is_word z w t x u →
      (n : ℕ) → value_of x z go w t n ≡ works (units x) (go u w t n)
  value_is x u z go w t f h n =
      flat_runs Trees setting.room setting.literals setting.calling (heads setting) x z go w t n f ∙
      (ap (λ k. works k (with_given (flat_value setting.literals z.activation.base w.memory t x) w (λ v. go v w t) n))
      (word_spends Trees setting.literals z.activation.base w.memory t x u f h) ∙
      ap (λ g. works (units x) (with_given g w (λ v. go v w t) n)) h)

  pub value_comes : (k u : ℕ) (x : Tx) (z : Around) (go : Go ℕ) (w : World) (t : Temps) (e : Run Ran) →
      IsFlat x → is_word z w t x u → Comes k (go u w t) e → Comes (units x + k) (value_of x z go w t) e
  value_comes k u x z go w t e f h c =
      comes_along (units x + k) (value_of x z go w t) (charged (units x) (go u w t)) e (value_is x u z go w t f h)
      (comes_working k (units x) (go u w t) e c)

  pub move_comes : (k i u : ℕ) (x : Tx) (z : Around) (next : Next) (w : World) (t : Temps) (e : Run Ran) →
      IsFlat x → is_word z w t x u →
      Comes k (next w (set_temp i u t)) e →
      Comes (2 + (units x + k)) (does setting (Move i x) z next w t) e
  move_comes k i u x z next w t e f h c =
      let go : Go ℕ = λ v w1 t1. next w1 (set_temp i v t1) in
      comes_working (units x + k) 2 (value_of x z go w t) e (value_comes k u x z go w t e f h c)

  -- Words by what they are made of.

  -- a word of memory, and a byte, at an address that a temporary has
  pub loaded : (i p v : ℕ) (z : Around) (w : World) (t : Temps) → t i ≡ Some p → load w.memory p ≡ Some v →
      is_word z w t (Load (Temp i)) v
  loaded i p v z w t has is =
      ap (λ o. onward (or_wrong o) (λ u. or_wrong (load w.memory u))) has ∙ ap or_wrong is

  pub loaded_byte : (i p v : ℕ) (z : Around) (w : World) (t : Temps) → t i ≡ Some p → load_byte w.memory p ≡ Some v →
      is_word z w t (LoadByte (Temp i)) v
  loaded_byte i p v z w t has is =
      ap (λ o. onward (or_wrong o) (λ u. or_wrong (load_byte w.memory u))) has ∙ ap or_wrong is

  -- a sum of two words
  pub summed : (x y : Tx) (u v s : ℕ) (z : Around) (w : World) (t : Temps) → is_word z w t x u → is_word z w t y v →
      add u v ≡ s → is_word z w t (Binary Add x y) s
  summed x y u v s z w t hx hy is =
      ap (λ g. onward g (λ a. onward (flat_value setting.literals z.activation.base w.memory t y)
      (λ b. operate Add a b))) hx ∙
      (ap (λ g. onward g (λ b. operate Add u b)) hy ∙ ap word is)

  pub advance_comes : (k i n u v : ℕ) (z : Around) (next : Next) (w : World) (t : Temps) (e : Run Ran) →
      t i ≡ Some u → add u n ≡ v →
      Comes k (next w (set_temp i v t)) e →
      Comes (5 + k) (does setting (advance i n) z next w t) e
  advance_comes k i n u v z next w t e has sum c =
      comes_within (2 + (3 + k)) (5 + k) _ e (omega arith)
      (move_comes k i v (plus (Temp i) n) z next w t e (tt, tt)
      (summed (Temp i) (Const n) u n v z w t (ap or_wrong has) refl sum) c)

  -- two expressions one after the other
  pub values_come : (k u v : ℕ) (x y : Tx) (z : Around) (go : ℕ → Go ℕ) (w : World) (t : Temps) (e : Run Ran) →
      IsFlat x → IsFlat y → is_word z w t x u → is_word z w t y v →
      Comes k (go u v w t) e →
      Comes (units x + (units y + k)) (value_of x z (λ u1 w1 t1. value_of y z (go u1) w1 t1) w t) e
  values_come k u v x y z go w t e fx fy hx hy c =
      value_comes (units y + k) u x z (λ u1 w1 t1. value_of y z (go u1) w1 t1) w t e fx hx
      (value_comes k v y z (go u) w t e fy hy c)

  -- a word or a byte is put into memory
  abbrev pub putting : (Memory → ℕ → ℕ → Option Memory) → Next → ℕ → Go ℕ
  putting by next a v w t = with_memory (by w.memory a v) w (λ w1. next w1 t)

  put_comes : (k a v : ℕ) (by : Memory → ℕ → ℕ → Option Memory) (x y : Tx) (z : Around) (next : Next) (w : World)
      (t : Temps) (e : Run Ran) (m : Memory) →
      IsFlat x → IsFlat y → is_word z w t x a → is_word z w t y v →
      by w.memory a v ≡ Some m →
      Comes k (next (record w { memory = m }) t) e →
      Comes (units x + (units y + k)) (value_of x z (λ u1 w1 t1. value_of y z (putting by next u1) w1 t1) w t) e
  put_comes k a v by x y z next w t e m fx fy hx hy hs c =
      values_come k a v x y z (putting by next) w t e fx fy hx hy
      (comes_along k (putting by next a v w t) (next (record w { memory = m }) t) e
      (λ n. ap (λ o. with_memory o w (λ w1. next w1 t) n) hs) c)

  pub store_comes : (k a v : ℕ) (x y : Tx) (z : Around) (next : Next) (w : World) (t : Temps) (e : Run Ran)
      (m : Memory) →
      IsFlat x → IsFlat y → is_word z w t x a → is_word z w t y v →
      store w.memory a v ≡ Some m →
      Comes k (next (record w { memory = m }) t) e →
      Comes (1 + (units x + (units y + k))) (does setting (Store x y) z next w t) e
  store_comes k a v x y z next w t e m fx fy hx hy hs c =
      let one : statement_units Trees (Store x y) ≡ 1 = ap (λ b. 1 + hoisted_units Trees b) (flat_tested y fy) in
      let l = units x + (units y + k) in
      comes_within (statement_units Trees (Store x y) + l) (1 + l) _ e (omega (arith, one))
      (comes_working l (statement_units Trees (Store x y)) _ e
      (put_comes k a v store x y z next w t e m fx fy hx hy hs c))

  pub store_byte_comes : (k a v : ℕ) (x y : Tx) (z : Around) (next : Next) (w : World) (t : Temps) (e : Run Ran)
      (m : Memory) →
      IsFlat x → IsFlat y → is_word z w t x a → is_word z w t y v →
      store_byte w.memory a v ≡ Some m →
      Comes k (next (record w { memory = m }) t) e →
      Comes (1 + (units x + (units y + k))) (does setting (StoreByte x y) z next w t) e
  store_byte_comes k a v x y z next w t e m fx fy hx hy hs c =
      let one : statement_units Trees (StoreByte x y) ≡ 1 = ap (λ b. 1 + hoisted_units Trees b) (flat_tested y fy) in
      let l = units x + (units y + k) in
      comes_within (statement_units Trees (StoreByte x y) + l) (1 + l) _ e (omega (arith, one))
      (comes_working l (statement_units Trees (StoreByte x y)) _ e
      (put_comes k a v store_byte x y z next w t e m fx fy hx hy hs c))

  -- A comparison tells what its words do.
  pub compare_comes : (k u v : ℕ) (rel : Rel) (x y : Tx) (z : Around) (go : Go Bool) (w : World) (t : Temps)
      (e : Run Ran) →
      IsFlat x → IsFlat y → is_word z w t x u → is_word z w t y v →
      Comes k (go (holds rel u v) w t) e →
      Comes (4 + (units x + (units y + k))) (tests (Compare rel x y) z go w t) e
  compare_comes k u v rel x y z go w t e fx fy hx hy c =
      let four : condition_units Trees (Compare rel x y) ≡ 4 = ap (λ b. 4 + hoisted_units Trees b) (flat_tested y fy) in
      let l = units x + (units y + k) in
      comes_within (condition_units Trees (Compare rel x y) + l) (4 + l) _ e (omega (arith, four))
      (comes_working l (condition_units Trees (Compare rel x y)) _ e
      (values_come k u v x y z (λ u1 v1 w1 t1. go (holds rel u1 v1) w1 t1) w t e fx fy hx hy c))

  pub choice_comes : (k u v : ℕ) (rel : Rel) (x y : Tx) (this other : Ts) (z : Around) (next : Next) (w : World)
      (t : Temps) (e : Run Ran) →
      IsFlat x → IsFlat y → is_word z w t x u → is_word z w t y v →
      Comes k ((if holds rel u v then does setting this else does setting other) z next w t) e →
      Comes (8 + (units x + (units y + k))) (does setting (If (Compare rel x y) this other) z next w t) e
  choice_comes k u v rel x y this other z next w t e fx fy hx hy c =
      let go : Go Bool = λ b w1 t1. (if b then does setting this else does setting other) z next w1 t1 in
      comes_within (4 + (4 + (units x + (units y + k)))) (8 + (units x + (units y + k))) _ e (omega arith)
      (comes_working (4 + (units x + (units y + k))) 4 _ e
      (compare_comes k u v rel x y z go w t e fx fy hx hy c))

  pub return_comes : (k u : ℕ) (x : Tx) (z : Around) (next : Next) (w : World) (t : Temps) (e : Run Ran) →
      IsFlat x → is_word z w t x u →
      Comes k (z.back u w) e → Comes (16 + (units x + k)) (does setting (Return x) z next w t) e
  return_comes k u x z next w t e f h c =
      comes_working (units x + k) 16 _ e (value_comes k u x z (λ v w1 t1. z.back v w1) w t e f h c)

  -- A turn of a loop, after which a unit of fuel is used and the loop begins again.

  abbrev head : Ts → Around → Next → Next
  head s z next w t = heads setting (record { statement = Loop s; around = z; next = next; world = w; temps = t })

  abbrev pub again : Ts → Around → Next → Next
  again s z next w t = with_fuel w (does setting (Loop s) z next w t)

  head_is : Steps setting → (s : Ts) (z : Around) (next : Next) → head s z next ≡ again s z next
  head_is steps s z next =
      next_is (head s z next) (again s z next) (λ w t n.
      let p : Point = record { statement = Loop s; around = z; next = next; world = w; temps = t } in
      fuel_is w (setting.goes p) (does setting (Loop s) z next w t) (λ i. steps p i) n)

  pub turn_comes : Steps setting → (k : ℕ) (s : Ts) (z : Around) (next : Next) (w : World) (t : Temps) (e : Run Ran) →
      Comes k (does setting s (record z { out = leaving next z.out }) (again s z next) w t) e →
      Comes (4 + k) (does setting (Loop s) z next w t) e
  turn_comes steps k s z next w t e c =
      comes_working k 4 _ e
      (comes_along k _ (does setting s (record z { out = leaving next z.out }) (again s z next) w t) e
      (λ n. ap (λ (g : Next). does setting s (record z { out = leaving next z.out }) g w t n) (head_is steps s z next))
      c)
