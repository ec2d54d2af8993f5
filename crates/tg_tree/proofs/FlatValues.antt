-- A run of a flat expression is its value, after exactly the units that it spends until then.
use Rattle.std.proofs.Common.{◌≡◌, ℕ, ◌+◌, ◌≤◌, List, Option, Some, None, refl, sym, ap, ◌∙◌, arith}
use Rattle.tg_simulation.specs.Runs.{Run}
use Rattle.tg_simulation.specs.Ran.{Ran, stops, works}
use Rattle.tg_tree.specs.Tree.{Tx, Const, Address, Temp, FrameAddress, Binary, Load, LoadByte, Call, Service, After, Literal}
use Rattle.tg_tree.specs.Operators.{Given, word, stops_by, operate}
use Rattle.tg_tree.specs.Memory.{Memory, load, load_byte, literal_address}
use Rattle.tg_tree.specs.Units.{Stage, expression_units}
use Rattle.tg_tree.specs.Sizes.{expression_length}
use Rattle.tg_tree.specs.Actions.{World, Temps, Around, Go, with_word, with_given, charged}
use Rattle.tg_tree.specs.Meaning.{Enter, Point, value}
use Rattle.tg_tree.specs.Shapes.{IsFlat}
use Rattle.tg_tree.specs.FlatValue.{or_wrong, onward, flat_value, after_word, flat_spent}

pub works_add : (a b : ℕ) (p : Ran) → works a (works b p) ≡ works (a + b) p
works_add a b p = let e : a + (b + p.work) ≡ a + b + p.work = omega arith in ap (λ k. record p { work = k }) e

pub works_none : (p : Ran) → works 0 p ≡ p
works_none p = let e : 0 + p.work ≡ p.work = omega arith in ap (λ k. record p { work = k }) e

-- a word that has to be there
word_runs : (o : Option ℕ) (w : World) (go : ℕ → Run Ran) (n : ℕ) → with_word o w go n ≡ with_given (or_wrong o) w go n
word_runs (Some v) w go n = refl
word_runs None w go n = refl

-- what comes after a value
onward_runs : (g : Given) (f : ℕ → Given) (w : World) (next go : ℕ → Run Ran) (k l n : ℕ) →
    ((v : ℕ) → next v n ≡ works l (with_given (f v) w go n)) → works k (with_given g w next n) ≡ works (k + after_word g l) (with_given (onward g f) w go n)
onward_runs (word v) f w next go k l n h = ap (works k) (h v) ∙ works_add k l (with_given (f v) w go n)
onward_runs (stops_by s) f w next go k l n h = let e : k ≡ k + 0 = omega arith in ap (λ j. works j (stops w.input s)) e

no_more : (g : Given) (k : ℕ) → k + after_word g 0 ≡ k
no_more (word v) k = omega arith
no_more (stops_by s) k = omega arith

last_runs : (g : Given) (f : ℕ → Given) (w : World) (next go : ℕ → Run Ran) (k n : ℕ) → ((v : ℕ) → next v n ≡ with_given (f v) w go n) →
    works k (with_given g w next n) ≡ works k (with_given (onward g f) w go n)
last_runs g f w next go k n h =
    onward_runs g f w next go k 0 n (λ v. h v ∙ sym (works_none (with_given (f v) w go n))) ∙
    ap (λ j. works j (with_given (onward g f) w go n)) (no_more g k)

module _ (g : Stage) (room : ℕ) (ls : List Literal) (enter : Enter) (later : Point → Run Ran) where
  pub flat_runs : (x : Tx) (z : Around) (go : Go ℕ) (w : World) (t : Temps) (n : ℕ) → IsFlat x →
      value g room ls enter later x z go w t n ≡ charged (flat_spent g ls z.activation.base w.memory t x)
      (with_given (flat_value ls z.activation.base w.memory t x) w (λ v. go v w t)) n
  flat_runs (Const v) z go w t n f = refl
  flat_runs (Address label) z go w t n f =
      ap (works (expression_units g (Address label))) (word_runs (literal_address ls label) w (λ v. go v w t) n)
  flat_runs (Temp i) z go w t n f = ap (works (expression_units g (Temp i))) (word_runs (t i) w (λ v. go v w t) n)
  flat_runs FrameAddress z go w t n f = refl
  flat_runs (Binary op x y) z go w t n f =
      let e = expression_units g (Binary op x y) in
      let sx = flat_spent g ls z.activation.base w.memory t x in
      let sy = flat_spent g ls z.activation.base w.memory t y in
      let vx = flat_value ls z.activation.base w.memory t x in
      let vy = flat_value ls z.activation.base w.memory t y in
      ap (works e)
      (flat_runs x z (λ u w1 t1. value g room ls enter later y z (λ v w2 t2. with_given (operate op u v) w2 (λ r. go r w2 t2)) w1 t1) w t n f.0 ∙
      onward_runs vx (λ u. onward vy (λ v. operate op u v)) w _ (λ v. go v w t) sx sy n
      (λ u. flat_runs y z (λ v w2 t2. with_given (operate op u v) w2 (λ r. go r w2 t2)) w t n f.1
      ∙ last_runs vy (λ v. operate op u v) w _ (λ v. go v w t) sy n (λ v. refl))) ∙
      works_add e (sx + after_word vx sy) _
  flat_runs (Load x) z go w t n f =
      let e = expression_units g (Load x) in
      let sx = flat_spent g ls z.activation.base w.memory t x in
      ap (works e)
      (flat_runs x z (λ u w1 t1. with_word (load w1.memory u) w1 (λ v. go v w1 t1)) w t n f ∙
      last_runs (flat_value ls z.activation.base w.memory t x) (λ u. or_wrong (load w.memory u)) w _ (λ v. go v w t) sx
      n (λ u. word_runs (load w.memory u) w (λ v. go v w t) n)) ∙
      works_add e sx _
  flat_runs (LoadByte x) z go w t n f =
      let e = expression_units g (LoadByte x) in
      let sx = flat_spent g ls z.activation.base w.memory t x in
      ap (works e)
      (flat_runs x z (λ u w1 t1. with_word (load_byte w1.memory u) w1 (λ v. go v w1 t1)) w t n f ∙
      last_runs (flat_value ls z.activation.base w.memory t x) (λ u. or_wrong (load_byte w.memory u)) w _ (λ v. go v w t)
      sx n (λ u. word_runs (load_byte w.memory u) w (λ v. go v w t) n)) ∙
      works_add e sx _
  flat_runs (Call label xs) z go w t n f = absurd f
  flat_runs (Service k x) z go w t n f = absurd f
  flat_runs (After s x) z go w t n f = absurd f

-- what it spends, and its length
at_most : (g : Given) (k l : ℕ) → k ≤ l → after_word g k ≤ l
at_most (word v) k l le = le
at_most (stops_by s) k l le = omega arith

module _ (g : Stage) (ls : List Literal) (base : ℕ) (m : Memory) (t : Temps) where
  pub spends_length : (x : Tx) → IsFlat x → flat_spent g ls base m t x ≤ expression_length g x
  spends_length (Const v) f = omega arith
  spends_length (Address label) f = omega arith
  spends_length (Temp i) f = omega arith
  spends_length FrameAddress f = omega arith
  spends_length (Binary op x y) f =
      let h = spends_length x f.0 in
      let k = at_most (flat_value ls base m t x) (flat_spent g ls base m t y) (expression_length g y) (spends_length y f.1) in
      omega arith
  spends_length (Load x) f = let h = spends_length x f in omega arith
  spends_length (LoadByte x) f = let h = spends_length x f in omega arith
  spends_length (Call label xs) f = absurd f
  spends_length (Service k x) f = absurd f
  spends_length (After s x) f = absurd f

  -- where there is a word, all that it is made of has one
  first_word : (d : Given) (f : ℕ → Given) (v : ℕ) → onward d f ≡ word v → (u : ℕ) × (d ≡ word u) × (f u ≡ word v)
  first_word (word u) f v e = (u, refl, e)
  first_word (stops_by s) f v e = cc

  pub word_spends : (x : Tx) (v : ℕ) → IsFlat x → flat_value ls base m t x ≡ word v → flat_spent g ls base m t x ≡ expression_length g x
  word_spends (Const u) v f e = refl
  word_spends (Address label) v f e = refl
  word_spends (Temp i) v f e = refl
  word_spends FrameAddress v f e = refl
  word_spends (Binary op x y) v f e =
      let a = first_word (flat_value ls base m t x) _ v e in
      let b = first_word (flat_value ls base m t y) _ v (a.2) in
      let h = word_spends x a.0 f.0 a.1 in
      let k = word_spends y b.0 f.1 b.1 in
      let l : after_word (flat_value ls base m t x) (flat_spent g ls base m t y) ≡ flat_spent g ls base m t y = ap (λ d. after_word d (flat_spent g ls base m t y)) a.1 in
      omega arith
  word_spends (Load x) v f e =
      let a = first_word (flat_value ls base m t x) _ v e in
      let h = word_spends x a.0 f a.1 in
      omega arith
  word_spends (LoadByte x) v f e =
      let a = first_word (flat_value ls base m t x) _ v e in
      let h = word_spends x a.0 f a.1 in
      omega arith
  word_spends (Call label xs) v f e = absurd f
  word_spends (Service k x) v f e = absurd f
  word_spends (After s x) v f e = absurd f
