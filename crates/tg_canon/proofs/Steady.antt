-- What an expression that commutes with a statement comes to: one word whatever world and temporaries there are, if those that occur in
-- it are the same. And what one that only gives a word comes to.
use Rattle.std.proofs.Common.{◌≡◌, ◌⊎◌, inl, inr, ℕ, ◌+◌, Bool, true, false, ◌||◌, Option, Some, None, refl, sym, ap, ◌∙◌}
use Rattle.std.specs.Prelude.{◌==◌, if◌then◌else◌}
use Rattle.tg_base.specs.Words.{quot}
use Rattle.tg_simulation.specs.Ran.{Wrong}
use Rattle.tg_tree.specs.declared.operators.Bin.{Bin}
use Rattle.tg_tree.specs.declared.operators.Bin.TheVariants.{Add, Sub, Mul, Div, And, Or, Xor, ShiftLeft, ShiftRight, ShiftSigned, AddTrap, SubTrap, MulHigh}
use Rattle.tg_tree.specs.Tree.{Tx, Const, Address, Temp, FrameAddress, Binary, Load, LoadByte, Call, Service, After}
use Rattle.tg_tree.specs.Operators.{word, stops_by, operate}
use Rattle.tg_tree.specs.Memory.{load, load_byte, literal_address}
use Rattle.tg_tree.specs.Units.{Canonical, expression_units}
use Rattle.tg_tree.specs.Actions.{World, Temps, Around, Acts, Go, ◌>>=◌, ◌>>◌, charged, with_word, with_given, pay, read_memory, given}
use Rattle.tg_tree.specs.Shapes.{IsFlat}
use Rattle.tg_canon.specs.mirror.Canon.{is_constant, is_sum, is_trapping, acts}
use Rattle.tg_canon.proofs.Paying.{free, charged_add}
use Rattle.tg_canon.proofs.Fixed.{Scene, mixed_value}

-- which temporaries occur in a flat expression
abbrev pub Occurs : (temp : ℕ) → Tx → Type 0
Occurs i (Temp j) = i ≡ j
Occurs i (Binary _ x y) = Occurs i x ⊎ Occurs i y
Occurs i (Load x) = Occurs i x
Occurs i (LoadByte x) = Occurs i x
Occurs i _ = ⊥

-- one that may commute
abbrev pub IsSteady : Tx → Type 0
IsSteady (Const _) = Unit {0}
IsSteady (Address _) = Unit {0}
IsSteady (Temp _) = Unit {0}
IsSteady FrameAddress = Unit {0}
IsSteady (Binary op x y) = (is_sum op ≡ true) × IsSteady x × (is_constant y ≡ true)
IsSteady _ = ⊥

-- it comes to one word, or is wrong already
pub data ComesTo (z : Scene) (e : Around) (t : Temps) (x : Tx) (m : Acts (Go ℕ)) : World → Type 0 where
  one_word :
      (w : World) (s v : ℕ) →
      ((w1 : World) (t1 : Temps) → ((i : ℕ) → Occurs i x → t1 i ≡ t i) → (go : Go ℕ) → m e go w1 t1 ≡ charged s (go v w1 t1)) → ComesTo z e t x m w
  no_word : (w : World) → ((go : Go ℕ) (n : ℕ) → (m e go w t n).stop ≡ Wrong) → ComesTo z e t x m w

sum_is_word : (op : Bin) (u v : ℕ) → is_sum op ≡ true → (r : ℕ) × (operate op u v ≡ word r)
sum_is_word Add u v e = (_, refl)
sum_is_word Sub u v e = (_, refl)
sum_is_word Mul u v e = cc
sum_is_word Div u v e = cc
sum_is_word And u v e = cc
sum_is_word Or u v e = cc
sum_is_word Xor u v e = cc
sum_is_word ShiftLeft u v e = cc
sum_is_word ShiftRight u v e = cc
sum_is_word ShiftSigned u v e = cc
sum_is_word AddTrap u v e = cc
sum_is_word SubTrap u v e = cc
sum_is_word MulHigh u v e = cc

module _ (z : Scene) (e : Around) (w : World) (t : Temps) where
  abbrev Comes : Tx → Type 0
  Comes x = ComesTo z e t x (mixed_value z x) w

  offset : (op : Bin) (x : Tx) (c : ℕ) → is_sum op ≡ true → Comes x → Comes (Binary op x (Const c))
  offset op x c p (no_word w0 h) = no_word w (λ go n. h (λ u w1 t1. charged 2 (with_given (operate op u c) w1 (λ v. go v w1 t1))) n)
  offset op x c p (one_word w0 s u h) =
      let k = expression_units Canonical (Binary op x (Const c)) in
      let r = sum_is_word op u c p in
      one_word w (k + (s + 2)) r.0 (λ w1 t1 same go.
      ap (charged k) (h w1 t1 (λ i o. same i (inl o)) (λ v w2 t2. charged 2 (with_given (operate op v c) w2 (λ q. go q w2 t2))) ∙
      (ap (λ g. charged s (charged 2 (with_given g w1 (λ q. go q w1 t1)))) r.1 ∙ charged_add s 2 (go r.0 w1 t1))) ∙
      charged_add k (s + 2) (go r.0 w1 t1))

  constant : (op : Bin) (x y : Tx) → is_sum op ≡ true → is_constant y ≡ true → Comes x → Comes (Binary op x y)
  constant op x (Const c) p q h = offset op x c p h
  constant op x (Address _) p q h = cc
  constant op x (Temp _) p q h = cc
  constant op x FrameAddress p q h = cc
  constant op x (Binary _ _ _) p q h = cc
  constant op x (Load _) p q h = cc
  constant op x (LoadByte _) p q h = cc
  constant op x (Call _ _) p q h = cc
  constant op x (Service _ _) p q h = cc
  constant op x (After _ _) p q h = cc

  pub steady_comes : (x : Tx) → IsSteady x → Comes x
  steady_comes (Const n) f = one_word w 2 n (λ w1 t1 same go. refl)
  steady_comes (Address label) f = by (literal_address z.literals label) refl
    where
      by : (o : Option ℕ) → literal_address z.literals label ≡ o → Comes (Address label)
      by (Some v) p = one_word w 1 v (λ w1 t1 same go. ap (λ o. charged 1 (with_word o w1 (λ u. go u w1 t1))) p)
      by None p = no_word w (λ go n. ap (λ o. (charged 1 (with_word o w (λ u. go u w t)) n).stop) p)
  steady_comes (Temp i) f = by (t i) refl
    where
      by : (o : Option ℕ) → t i ≡ o → Comes (Temp i)
      by (Some v) p = one_word w 0 v (λ w1 t1 same go. ap (λ o. charged 0 (with_word o w1 (λ u. go u w1 t1))) (same i refl ∙ p))
      by None p = no_word w (λ go n. ap (λ o. (charged 0 (with_word o w (λ u. go u w t)) n).stop) p)
  steady_comes FrameAddress f = one_word w 1 e.activation.base (λ w1 t1 same go. refl)
  steady_comes (Binary op x y) f = constant op x y f.0 f.2 (steady_comes x f.1)
  steady_comes (Load x) f = absurd f
  steady_comes (LoadByte x) f = absurd f
  steady_comes (Call label xs) f = absurd f
  steady_comes (Service k x) f = absurd f
  steady_comes (After s x) f = absurd f

-- An expression that does nothing but give a word gives one, or is wrong.
pub data IsQuiet (m : Acts (Go ℕ)) (e : Around) (w : World) (t : Temps) : Type 0 where
  quiet_word : (s v : ℕ) → ((go : Go ℕ) → m e go w t ≡ charged s (go v w t)) → IsQuiet m e w t
  quiet_wrong : ((go : Go ℕ) (n : ℕ) → (m e go w t n).stop ≡ Wrong) → IsQuiet m e w t

no_trap : (op : Bin) (u v : ℕ) → is_trapping op ≡ false → ((r : ℕ) × (operate op u v ≡ word r)) ⊎ (operate op u v ≡ stops_by Wrong)
no_trap Add u v e = inl (_, refl)
no_trap Sub u v e = inl (_, refl)
no_trap Mul u v e = inl (_, refl)
no_trap Div u v e = by (v == 0)
  where
    by : (b : Bool) →
        ((r : ℕ) × ((if b then stops_by Wrong else word (quot u v)) ≡ word r)) ⊎ ((if b then stops_by Wrong else word (quot u v)) ≡ stops_by Wrong)
    by true = inr refl
    by false = inl (_, refl)
no_trap And u v e = inl (_, refl)
no_trap Or u v e = inl (_, refl)
no_trap Xor u v e = inl (_, refl)
no_trap ShiftLeft u v e = inl (_, refl)
no_trap ShiftRight u v e = inl (_, refl)
no_trap ShiftSigned u v e = inl (_, refl)
no_trap AddTrap u v e = cc
no_trap SubTrap u v e = cc
no_trap MulHigh u v e = inl (_, refl)

either_false : (a b : Bool) → (a || b) ≡ false → (a ≡ false) × (b ≡ false)
either_false true b e = cc
either_false false b e = (refl, e)

module _ (z : Scene) (e : Around) (w : World) (t : Temps) where
  abbrev Quiet : Acts (Go ℕ) → Type 0
  Quiet m = IsQuiet m e w t

  quiet_pay : (k : ℕ) (m : Acts (Go ℕ)) → Quiet m → Quiet (pay k >> m)
  quiet_pay k m (quiet_word s v p) = quiet_word (k + s) v (λ go. ap (charged k) (p go) ∙ charged_add k s (go v w t))
  quiet_pay k m (quiet_wrong h) = quiet_wrong (λ go n. h go n)

  quiet_on : (m : Acts (Go ℕ)) (f : ℕ → Acts (Go ℕ)) (s v : ℕ) → ((go : Go ℕ) → m e go w t ≡ charged s (go v w t)) → Quiet (f v) → Quiet (m >>= f)
  quiet_on m f s v p (quiet_word k u q) =
      quiet_word (s + k) u (λ go. p (λ a w1 t1. f a e go w1 t1) ∙ (ap (charged s) (q go) ∙ charged_add s k (go u w t)))
  quiet_on m f s v p (quiet_wrong h) = quiet_wrong (λ go n. ap (λ c. (c n).stop) (p (λ a w1 t1. f a e go w1 t1)) ∙ h go n)

  quiet_bind : (m : Acts (Go ℕ)) (f : ℕ → Acts (Go ℕ)) → Quiet m → ((v : ℕ) → Quiet (f v)) → Quiet (m >>= f)
  quiet_bind m f (quiet_word s v p) h = quiet_on m f s v p (h v)
  quiet_bind m f (quiet_wrong g) h = quiet_wrong (λ go n. g (λ a w1 t1. f a e go w1 t1) n)

  quiet_known : (o : Option ℕ) → Quiet (λ e0 go w0 t0. with_word o w0 (λ v. go v w0 t0))
  quiet_known (Some v) = quiet_word 0 v (λ go. sym (free (go v w t)))
  quiet_known None = quiet_wrong (λ go n. refl)

  quiet_word_of : (f : World → Temps → Option ℕ) → Quiet (λ e0 go w0 t0. with_word (f w0 t0) w0 (λ v. go v w0 t0))
  quiet_word_of f = by (quiet_known (f w t))
    where
      by : Quiet (λ e0 go w0 t0. with_word (f w t) w0 (λ v. go v w0 t0)) → Quiet (λ e0 go w0 t0. with_word (f w0 t0) w0 (λ v. go v w0 t0))
      by (quiet_word s v p) = quiet_word s v p
      by (quiet_wrong h) = quiet_wrong h

  quiet_given : (op : Bin) (u v : ℕ) → is_trapping op ≡ false → Quiet (given (operate op u v))
  quiet_given op u v f = by (no_trap op u v f)
    where
      by : ((r : ℕ) × (operate op u v ≡ word r)) ⊎ (operate op u v ≡ stops_by Wrong) → Quiet (given (operate op u v))
      by (inl h) = quiet_word 0 h.0 (λ go. ap (λ g. with_given g w (λ q. go q w t)) h.1 ∙ sym (free (go h.0 w t)))
      by (inr h) = quiet_wrong (λ go n. ap (λ g. (with_given g w (λ q. go q w t) n).stop) h)

  pub quiet_value : (x : Tx) → IsFlat x → acts x ≡ false → Quiet (mixed_value z x)
  quiet_value (Const v) f p = quiet_word 2 v (λ go. refl)
  quiet_value (Address label) f p = quiet_pay 1 _ (quiet_word_of (λ w0 t0. literal_address z.literals label))
  quiet_value (Temp i) f p = quiet_pay 0 _ (quiet_word_of (λ w0 t0. t0 i))
  quiet_value FrameAddress f p = quiet_word 1 e.activation.base (λ go. refl)
  quiet_value (Binary op x y) f p =
      let q = either_false (is_trapping op) (acts x || acts y) p in
      let r = either_false (acts x) (acts y) q.1 in
      quiet_pay (expression_units Canonical (Binary op x y)) _
      (quiet_bind (mixed_value z x) (λ u. mixed_value z y >>= λ v. given (operate op u v)) (quiet_value x f.0 r.0)
      (λ u. quiet_bind (mixed_value z y) (λ v. given (operate op u v)) (quiet_value y f.1 r.1) (λ v. quiet_given op u v q.0)))
  quiet_value (Load x) f p =
      quiet_pay 1 _ (quiet_bind (mixed_value z x) (λ u. read_memory (λ m. load m u)) (quiet_value x f p) (λ u. quiet_word_of (λ w0 t0. load w0.memory u)))
  quiet_value (LoadByte x) f p =
      quiet_pay 1 _ (quiet_bind (mixed_value z x) (λ u. read_memory (λ m. load_byte m u)) (quiet_value x f p)
      (λ u. quiet_word_of (λ w0 t0. load_byte w0.memory u)))
  quiet_value (Call label xs) f p = absurd f
  quiet_value (Service k x) f p = absurd f
  quiet_value (After s x) f p = absurd f
