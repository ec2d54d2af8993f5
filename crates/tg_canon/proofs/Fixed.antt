-- What runs of flat parts come to: a value, or how they stop, after fixed units of work, whatever comes next and whatever functions are
-- called elsewhere.
use Rattle.std.proofs.Common.{◌≡◌, ℕ, ◌+◌, List, [], ◌∷◌, Bool, true, false, not, Option, Some, None, refl, sym, ap, ◌∙◌}
use Rattle.std.specs.Prelude.{if◌then◌else◌}
use Rattle.tg_simulation.specs.Runs.{Run}
use Rattle.tg_simulation.specs.Ran.{Ran, Stop, Wrong}
use Rattle.tg_tree.specs.Tree.{Tx, Const, Address, Temp, FrameAddress, Binary, Load, LoadByte, Call, Service, After, Txs, no_txs, tx, Cond, Compare}
use Rattle.tg_tree.specs.Tree.{Not, Both, Either, Ts, Literal}
use Rattle.tg_tree.specs.Operators.{Given, word, stops_by, operate, holds}
use Rattle.tg_tree.specs.Memory.{load, load_byte, literal_address}
use Rattle.tg_tree.specs.Units.{Trees, Canonical, expression_units}
use Rattle.tg_tree.specs.Actions.{World, Temps, Activation, Around, Acts, Go, Next, Out, Back, ◌>>=◌, ◌>>◌, over, charged, with_word, give, pay}
use Rattle.tg_tree.specs.Actions.{known, read_temp, read_memory, given, frame_address}
use Rattle.tg_tree.specs.Meaning.{Enter, Point, value, values, test, run}
use Rattle.tg_tree.specs.Shapes.{IsFlat, AreFlat, IsFlatCond}
use Rattle.tg_tree.specs.Carrying.{EntersSimulate}
use Rattle.tg_canon.proofs.Paying.{free, charged_add}

-- Where both sides of the pass run: as far as so much fuel, with a heap's room, literals, what calls do and what comes of going on with
-- loops on each side. Calls do what they did. The body's own temporaries are those below a number.
pub record Scene : Type 0 where
  pub fuel : ℕ
  pub room : ℕ
  pub literals : List Literal
  pub enter : Enter
  pub enter' : Enter
  pub later : Point → Run Ran
  pub later' : Point → Run Ran
  pub own : ℕ
  pub calls : EntersSimulate 1 0 fuel enter enter'

abbrev pub around : Activation → Out → Back → Around
around a o b = record { activation = a; out = o; back = b }

module _ (z : Scene) where
  -- trees; canonical parts among what the trees call; and canonical parts
  abbrev pub tree_value : Tx → Acts (Go ℕ)
  tree_value x = value Trees z.room z.literals z.enter z.later x

  abbrev pub tree_values : Txs → Acts (Go (List ℕ))
  tree_values xs = values Trees z.room z.literals z.enter z.later xs

  abbrev pub tree_test : Cond → Acts (Go Bool)
  tree_test c = test Trees z.room z.literals z.enter z.later c

  abbrev pub tree_does : Ts → Acts Next
  tree_does s = run Trees z.room z.literals z.enter z.later s

  abbrev pub mixed_value : Tx → Acts (Go ℕ)
  mixed_value x = value Canonical z.room z.literals z.enter z.later x

  abbrev pub mixed_values : Txs → Acts (Go (List ℕ))
  mixed_values xs = values Canonical z.room z.literals z.enter z.later xs

  abbrev pub mixed_test : Cond → Acts (Go Bool)
  mixed_test c = test Canonical z.room z.literals z.enter z.later c

  abbrev pub then_value : Tx → Acts (Go ℕ)
  then_value x = value Canonical z.room z.literals z.enter' z.later' x

  abbrev pub then_values : Txs → Acts (Go (List ℕ))
  then_values xs = values Canonical z.room z.literals z.enter' z.later' xs

  abbrev pub then_test : Cond → Acts (Go Bool)
  then_test c = test Canonical z.room z.literals z.enter' z.later' c

  abbrev pub then_does : Ts → Acts Next
  then_does s = run Canonical z.room z.literals z.enter' z.later' s

-- both of two acts give one value, or stop in one way
pub data IsFixed {B : Type 0} (m m' : Acts (Go B)) (e e' : Around) (w : World) (t : Temps) : Type 0 where
  gives : (s : ℕ) (v : B) → ((go : Go B) → m e go w t ≡ charged s (go v w t)) → ((go : Go B) → m' e' go w t ≡ charged s (go v w t)) → IsFixed m m' e e' w t
  stops : (s : ℕ) (how : Stop) → ((go : Go B) → m e go w t ≡ charged s (over how w)) → ((go : Go B) → m' e' go w t ≡ charged s (over how w)) →
      IsFixed m m' e e' w t

module _ (e e' : Around) (w : World) (t : Temps) where
  fixed_give : {B : Type 0} (v : B) → IsFixed (give v) (give v) e e' w t
  fixed_give v = gives 0 v (λ go. sym (free (go v w t))) (λ go. sym (free (go v w t)))

  fixed_pay : {B : Type 0} (k : ℕ) (m m' : Acts (Go B)) → IsFixed m m' e e' w t → IsFixed (pay k >> m) (pay k >> m') e e' w t
  fixed_pay k m m' (gives s v p q) = gives (k + s) v (λ go. ap (charged k) (p go) ∙ charged_add k s (go v w t))
      (λ go. ap (charged k) (q go) ∙ charged_add k s (go v w t))
  fixed_pay k m m' (stops s how p q) = stops (k + s) how (λ go. ap (charged k) (p go) ∙ charged_add k s (over how w))
      (λ go. ap (charged k) (q go) ∙ charged_add k s (over how w))

  fixed_on : {A B : Type 0} (m m' : Acts (Go A)) (f f' : A → Acts (Go B)) (s : ℕ) (v : A) →
      ((go : Go A) → m e go w t ≡ charged s (go v w t)) → ((go : Go A) → m' e' go w t ≡ charged s (go v w t)) →
      IsFixed (f v) (f' v) e e' w t → IsFixed (m >>= f) (m' >>= f') e e' w t
  fixed_on m m' f f' s v p q (gives k u g h) =
      gives (s + k) u (λ go. p (λ a w1 t1. f a e go w1 t1) ∙ (ap (charged s) (g go) ∙ charged_add s k (go u w t)))
      (λ go. q (λ a w1 t1. f' a e' go w1 t1) ∙ (ap (charged s) (h go) ∙ charged_add s k (go u w t)))
  fixed_on m m' f f' s v p q (stops k how g h) =
      stops (s + k) how (λ go. p (λ a w1 t1. f a e go w1 t1) ∙ (ap (charged s) (g go) ∙ charged_add s k (over how w)))
      (λ go. q (λ a w1 t1. f' a e' go w1 t1) ∙ (ap (charged s) (h go) ∙ charged_add s k (over how w)))

  pub fixed_bind : {A B : Type 0} (m m' : Acts (Go A)) (f f' : A → Acts (Go B)) → IsFixed m m' e e' w t → ((a : A) → IsFixed (f a) (f' a) e e' w t) →
      IsFixed (m >>= f) (m' >>= f') e e' w t
  fixed_bind m m' f f' (gives s v p q) h = fixed_on m m' f f' s v p q (h v)
  fixed_bind m m' f f' (stops s how p q) h = stops s how (λ go. p (λ a w1 t1. f a e go w1 t1)) (λ go. q (λ a w1 t1. f' a e' go w1 t1))

  fixed_known : (f : World → Temps → Option ℕ) →
      IsFixed (λ e0 go w0 t0. with_word (f w0 t0) w0 (λ v. go v w0 t0)) (λ e0 go w0 t0. with_word (f w0 t0) w0 (λ v. go v w0 t0)) e e' w t
  fixed_known f = by (f w t) refl
    where
      by : (o : Option ℕ) → f w t ≡ o →
          IsFixed (λ e0 go w0 t0. with_word (f w0 t0) w0 (λ v. go v w0 t0)) (λ e0 go w0 t0. with_word (f w0 t0) w0 (λ v. go v w0 t0)) e e' w t
      by (Some v) p =
          gives 0 v (λ go. ap (λ o. with_word o w (λ u. go u w t)) p ∙ sym (free (go v w t)))
          (λ go. ap (λ o. with_word o w (λ u. go u w t)) p ∙ sym (free (go v w t)))
      by None p =
          stops 0 Wrong (λ go. ap (λ o. with_word o w (λ u. go u w t)) p ∙ sym (free (over Wrong w)))
          (λ go. ap (λ o. with_word o w (λ u. go u w t)) p ∙ sym (free (over Wrong w)))

  fixed_given : (g : Given) → IsFixed (given g) (given g) e e' w t
  fixed_given (word v) = gives 0 v (λ go. sym (free (go v w t))) (λ go. sym (free (go v w t)))
  fixed_given (stops_by s) = stops 0 s (λ go. sym (free (over s w))) (λ go. sym (free (over s w)))

  fixed_choice : {B : Type 0} (b : Bool) (m n m' n' : Acts (Go B)) → IsFixed m m' e e' w t → IsFixed n n' e e' w t →
      IsFixed (if b then m else n) (if b then m' else n') e e' w t
  fixed_choice true m n m' n' h k = h
  fixed_choice false m n m' n' h k = k

-- Flat expressions, arguments and conditions.
module _ (z : Scene) (a : Activation) (o o' : Out) (b b' : Back) (w : World) (t : Temps) where
  abbrev here : Around
  here = around a o b

  abbrev there : Around
  there = around a o' b'

  pub fixed_value : (x : Tx) → IsFlat x → IsFixed (mixed_value z x) (then_value z x) here there w t
  fixed_value (Const v) f = fixed_pay here there w t 2 (give v) (give v) (fixed_give here there w t v)
  fixed_value (Address label) f = fixed_pay here there w t 1 (known (literal_address z.literals label)) (known (literal_address z.literals label))
      (fixed_known here there w t (λ w0 t0. literal_address z.literals label))
  fixed_value (Temp i) f = fixed_pay here there w t 0 (read_temp i) (read_temp i) (fixed_known here there w t (λ w0 t0. t0 i))
  fixed_value FrameAddress f = fixed_pay here there w t 1 frame_address frame_address
      (gives 0 a.base (λ go. sym (free (go a.base w t))) (λ go. sym (free (go a.base w t))))
  fixed_value (Binary op x y) f =
      fixed_pay here there w t (expression_units Canonical (Binary op x y)) _ _
      (fixed_bind here there w t (mixed_value z x) (then_value z x) (λ u. mixed_value z y >>= λ v. given (operate op u v))
      (λ u. then_value z y >>= λ v. given (operate op u v)) (fixed_value x f.0)
      (λ u. fixed_bind here there w t (mixed_value z y) (then_value z y) (λ v. given (operate op u v)) (λ v. given (operate op u v)) (fixed_value y f.1)
      (λ v. fixed_given here there w t (operate op u v))))
  fixed_value (Load x) f =
      fixed_pay here there w t 1 _ _
      (fixed_bind here there w t (mixed_value z x) (then_value z x) (λ u. read_memory (λ m. load m u)) (λ u. read_memory (λ m. load m u)) (fixed_value x f)
      (λ u. fixed_known here there w t (λ w0 t0. load w0.memory u)))
  fixed_value (LoadByte x) f =
      fixed_pay here there w t 1 _ _
      (fixed_bind here there w t (mixed_value z x) (then_value z x) (λ u. read_memory (λ m. load_byte m u)) (λ u. read_memory (λ m. load_byte m u))
      (fixed_value x f) (λ u. fixed_known here there w t (λ w0 t0. load_byte w0.memory u)))
  fixed_value (Call label xs) f = absurd f
  fixed_value (Service k x) f = absurd f
  fixed_value (After s x) f = absurd f

  pub fixed_values : (xs : Txs) → AreFlat xs → IsFixed (mixed_values z xs) (then_values z xs) here there w t
  fixed_values no_txs f = fixed_give here there w t []
  fixed_values (tx x xs) f =
      fixed_pay here there w t 4 _ _
      (fixed_bind here there w t (mixed_value z x) (then_value z x) (λ v. mixed_values z xs >>= λ vs. give (v ∷ vs))
      (λ v. then_values z xs >>= λ vs. give (v ∷ vs)) (fixed_value x f.0)
      (λ v. fixed_bind here there w t (mixed_values z xs) (then_values z xs) (λ vs. give (v ∷ vs)) (λ vs. give (v ∷ vs)) (fixed_values xs f.1)
      (λ vs. fixed_give here there w t (v ∷ vs))))

  pub fixed_test : (c : Cond) → IsFlatCond c → IsFixed (mixed_test z c) (then_test z c) here there w t
  fixed_test (Compare rel x y) f =
      fixed_pay here there w t 4 _ _
      (fixed_bind here there w t (mixed_value z x) (then_value z x) (λ u. mixed_value z y >>= λ v. give (holds rel u v))
      (λ u. then_value z y >>= λ v. give (holds rel u v)) (fixed_value x f.0)
      (λ u. fixed_bind here there w t (mixed_value z y) (then_value z y) (λ v. give (holds rel u v)) (λ v. give (holds rel u v)) (fixed_value y f.1)
      (λ v. fixed_give here there w t (holds rel u v))))
  fixed_test (Not c) f =
      fixed_pay here there w t 0 _ _
      (fixed_bind here there w t (mixed_test z c) (then_test z c) (λ q. give (not q)) (λ q. give (not q)) (fixed_test c f)
      (λ q. fixed_give here there w t (not q)))
  fixed_test (Both c d) f =
      fixed_pay here there w t 0 _ _
      (fixed_bind here there w t (mixed_test z c) (then_test z c) (λ q. if q then mixed_test z d else give false)
      (λ q. if q then then_test z d else give false) (fixed_test c f.0)
      (λ q. fixed_choice here there w t q (mixed_test z d) (give false) (then_test z d) (give false) (fixed_test d f.1) (fixed_give here there w t false)))
  fixed_test (Either c d) f =
      fixed_pay here there w t 0 _ _
      (fixed_bind here there w t (mixed_test z c) (then_test z c) (λ q. if q then give true else mixed_test z d) (λ q. if q then give true else then_test z d)
      (fixed_test c f.0)
      (λ q. fixed_choice here there w t q (give true) (mixed_test z d) (give true) (then_test z d) (fixed_give here there w t true) (fixed_test d f.1)))
