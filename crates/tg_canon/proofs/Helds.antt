-- Right sides after the pass, and words that are held or commute.
use Rattle.std.proofs.Common.{◌≡◌, ◌⊎◌, ⊎_elim, inl, inr, ℕ, zero, suc, ◌+◌, ◌-◌, ◌<◌, ◌≤◌, min, max, Bool, true, false, not, ◌&&◌, nat_le, refl, sym}
use Rattle.std.proofs.Common.{ap, ◌∙◌, subst, arith}
use Rattle.std.proofs.lemmas.Bool.{le-leb, lt-leb}
use Rattle.std.proofs.lemmas.Bool.Decides.{leb_tells}
use Rattle.tg_simulation.specs.Ran.{Wrong}
use Rattle.tg_simulation.proofs.Simulations.{simulates_stopping, simulates_writing, simulates_turn, simulates_less}
use Rattle.tg_tree.specs.declared.operators.Bin.{Bin}
use Rattle.tg_tree.specs.Tree.{Tx, Const, Address, Temp, FrameAddress, Binary, Load, LoadByte, Call, Service, After, Move}
use Rattle.tg_tree.specs.Operators.{operate}
use Rattle.tg_tree.specs.Units.{Canonical, expression_units}
use Rattle.tg_tree.specs.Sizes.{expression_length, expression_needs, in_canonical}
use Rattle.tg_tree.specs.Shapes.{IsFlat, IsFlatOrEffect}
use Rattle.tg_tree.specs.Actions.{World, Temps, set_temp, Activation, Around, Acts, Go, Next, Out, Back, over, wrong, charged, with_word, with_given, service}
use Rattle.tg_tree.specs.Meaning.{Point}
use Rattle.tg_tree.proofs.Relating.{Related, Keeps, Alike, alike, keep_value}
use Rattle.tg_tree.proofs.Relating as relating
use Rattle.tg_tree.proofs.Going.{one, OneWorld, OneTemps, KeepsRuns, keeps_one}
use Rattle.tg_canon.specs.mirror.Drawing.{Drawn, give}
use Rattle.tg_canon.specs.mirror.Canon.{Part, still, nothing, Hoisted, whole, hold, is_constant, is_sum, commutes, hold_unless, hold_but_offset, hold_for}
use Rattle.tg_canon.proofs.Sizing.{size, takes, holdable, holdable_most, own_holdable}
use Rattle.tg_canon.proofs.Paying.{Sim, trade, pays, worked, unpaid, untraded, credit, along, free}
use Rattle.tg_canon.proofs.Fixed.{Scene, around, mixed_value, mixed_values, then_value, then_values, then_does, IsFixed, gives, stops, fixed_value}
use Rattle.tg_canon.proofs.Fixed.{fixed_values}
use Rattle.tg_canon.proofs.Steady.{Occurs, IsSteady}
use Rattle.tg_canon.proofs.Sides.{flat_or_effect}
use Rattle.tg_canon.proofs.Splits.{set_same, Known, Beside, KeptBy, beside_world, beside_drawn, does_nothing}

-- a temporary of the body's own, or one of those drawn from a number up to another
pub record IsIn (own from to i : ℕ) : Type 0 where
  pub low : own ≤ i → from ≤ i
  pub high : own ≤ i → i < to

-- The range of the body's own temporaries that a part assigns.
pub record IsOwned (own least greatest : ℕ) : Type 0 where
  pub strict : 0 < greatest → greatest < own
  pub zero : own ≡ 0 → 0 < least

-- one that is drawn is above it
pub apart_from : (own least greatest i : ℕ) → (0 < greatest → greatest < own) → (own ≡ 0 → 0 < least) → own ≤ i → least ≤ i → greatest < i
apart_from own least (suc g) i s o le lo = let h = s (omega arith) in omega arith
apart_from own least zero (suc i) s o le lo = omega arith
apart_from own least zero zero s o le lo = let h = o (omega arith) in omega arith

greater_owned : (own a b : ℕ) → (0 < a → a < own) → (0 < b → b < own) → 0 < max a b → max a b < own
greater_owned own zero zero f g h = absurd (omega arith)
greater_owned own (suc a) zero f g h = let k = f (omega arith) in omega arith
greater_owned own zero (suc b) f g h = let l = g (omega arith) in omega arith
greater_owned own (suc a) (suc b) f g h = let k = f (omega arith) in let l = g (omega arith) in omega arith

pub owned_both : (own a b c d : ℕ) → IsOwned own a b → IsOwned own c d → IsOwned own (min a c) (max b d)
owned_both own a b c d h k = record {
  strict = greater_owned own b d h.strict k.strict;
  zero = λ e. let l = h.zero e in let m = k.zero e in omega arith;
}

pub owned_none : (own : ℕ) → IsOwned own 4294967295 0
owned_none own = record { strict = λ h. absurd (omega arith); zero = λ e. omega arith }

pub owned_one : (own i : ℕ) → i < own → IsOwned own i i
owned_one own i lt = record { strict = λ h. lt; zero = λ e. absurd (omega arith) }

both_true : (a b : Bool) → (a && b) ≡ true → (a ≡ true) × (b ≡ true)
both_true true b e = (refl, e)
both_true false b e = cc

-- what commutes with a part
commutes_steady : (p : Part) (x : Tx) → commutes p x ≡ true → IsSteady x
commutes_steady p (Const _) e = tt
commutes_steady p (Address _) e = tt
commutes_steady p (Temp _) e = tt
commutes_steady p FrameAddress e = tt
commutes_steady p (Binary _ _ _) e = cc
commutes_steady p (Load _) e = cc
commutes_steady p (LoadByte _) e = cc
commutes_steady p (Call _ _) e = cc
commutes_steady p (Service _ _) e = cc
commutes_steady p (After _ _) e = cc

not_assigned : (least greatest i : ℕ) → not (nat_le least i && nat_le i greatest) ≡ true → least ≤ i → greatest < i
not_assigned least greatest i e le = ⊎_elim (λ h. absurd (by h.0)) (λ h. h.1) (leb_tells i greatest)
  where
    by : nat_le i greatest ≡ true → ⊥
    by h = let k : not (nat_le least i && nat_le i greatest) ≡ false = rw (le-leb least i le, h) refl in let l : false ≡ true = sym k ∙ e in cc

unassigned : (least greatest i : ℕ) → (least ≤ i → greatest < i) → not (nat_le least i && nat_le i greatest) ≡ true
unassigned least greatest i h = ⊎_elim (λ e. rw (e.0, lt-leb i greatest (h e.1)) refl) (λ e. rw e.0 refl) (leb_tells least i)

below_or : (own i : ℕ) → ((nat_le own i ≡ false) × (i < own)) ⊎ ((nat_le own i ≡ true) × (own ≤ i))
below_or own i = ⊎_elim (λ e. inr e) (λ e. inl e) (leb_tells own i)

commutes_apart : (p : Part) (x : Tx) → commutes p x ≡ true → (i : ℕ) → Occurs i x → p.least ≤ i → p.greatest < i
commutes_apart p (Const _) e i o le = absurd o
commutes_apart p (Address _) e i o le = absurd o
commutes_apart p (Temp j) e i o le = let h = not_assigned p.least p.greatest j e in subst (λ n. p.least ≤ n → p.greatest < n) (sym o) h le
commutes_apart p FrameAddress e i o le = absurd o
commutes_apart p (Binary _ _ _) e i o le = cc
commutes_apart p (Load _) e i o le = cc
commutes_apart p (LoadByte _) e i o le = cc
commutes_apart p (Call _ _) e i o le = cc
commutes_apart p (Service _ _) e i o le = cc
commutes_apart p (After _ _) e i o le = cc

-- what doesn't commute is no temporary that is drawn
held_once : (own : ℕ) (p : Part) → IsOwned own p.least p.greatest → (x : Tx) → commutes p x ≡ false → holdable own x ≡ 1
held_once own p h (Const _) e = refl
held_once own p h (Address _) e = refl
held_once own p h (Temp i) e = ⊎_elim (λ f. own_holdable own i f.1) (λ f. absurd (by f.1)) (below_or own i)
  where
    by : own ≤ i → ⊥
    by le =
        let apart : p.least ≤ i → p.greatest < i = λ lo. apart_from own p.least p.greatest i h.strict h.zero le lo in
        let g : commutes p (Temp i) ≡ true = unassigned p.least p.greatest i apart in
        let f : false ≡ true = sym e ∙ g in cc
held_once own p h FrameAddress e = refl
held_once own p h (Binary _ _ _) e = refl
held_once own p h (Load _) e = refl
held_once own p h (LoadByte _) e = refl
held_once own p h (Call _ _) e = refl
held_once own p h (Service _ _) e = refl
held_once own p h (After _ _) e = refl

module _ (z : Scene) where
  -- runs from one world, of which the second does what the first does
  abbrev Does : ℕ → Related
  Does r m w c d = Sim r m c d

  does_keeps : (r : ℕ) → KeepsRuns (Does r)
  does_keeps r = record {
    stop = λ m s w. simulates_stopping 1 r m w.input s;
    write = λ m bytes w c d h. simulates_writing 1 r m bytes c d h;
    work = λ m k w c d h. trade m r r k k c d (omega arith) h;
    fuel = λ m w c d h. simulates_turn 1 r m w.input c d h;
    down = λ l m w c d le h. simulates_less 1 r l m c d le h;
    later = λ m w v c d l h. h;
  }

  module _ (r : ℕ) (a : Activation) (o o' : Out) (b b' : Back) (w : World) (t : Temps) where
    pub fixed_runs : {B : Type 0} (m m' : Acts (Go B)) (g g' : Go B) → IsFixed m m' (around a o b) (around a o' b') w t →
        ((v : B) → Sim r z.fuel (g v w t) (g' v w t)) → Sim r z.fuel (m (around a o b) g w t) (m' (around a o' b') g' w t)
    fixed_runs m m' g g' (gives s v p q) h =
        along z.fuel r (charged s (g v w t)) _ (charged s (g' v w t)) _ (p g) (q g') (trade z.fuel r r s s (g v w t) (g' v w t) (omega arith) (h v))
    fixed_runs m m' g g' (stops s how p q) h =
        along z.fuel r (charged s (over how w)) _ (charged s (over how w)) _ (p g) (q g')
        (trade z.fuel r r s s (over how w) (over how w) (omega arith) (simulates_stopping 1 r z.fuel w.input how))

  module _ (r : ℕ) (a : Activation) (o o' : Out) (b b' : Back) (w : World) (t : Temps) (go go' : Go ℕ) (goes : (v : ℕ) (w1 : World) →
      Sim r z.fuel (go v w1 t) (go' v w1 t)) where
    -- a service is the same on both sides: that of a constant is taken from the law of runs that are kept
    service_runs : (n u : ℕ) → Sim r z.fuel (service z.room n u w (λ v w1. go v w1 t)) (service z.room n u w (λ v w1. go' v w1 t))
    service_runs n u =
        untraded z.fuel r r 2 2 _ _ (omega arith)
        (untraded z.fuel r r 5 5 _ _ (omega arith)
        (keep_value (Does r) OneWorld OneTemps keeps z.fuel Canonical z.room z.literals (λ label vs top back w0. wrong w0) (λ label vs top back w0. wrong w0)
        (λ p. wrong p.world) (λ p. wrong p.world)
        (λ label vs top back back' w0 w1 e h. keeps.stop z.fuel Wrong w0 w1 e) (λ x y e. stray x y e)
        (Service n (Const u)) alone alone (λ v w1 t1. go v w1 t) (λ v w1 t1. go' v w1 t)
        (relating.around a _ _ _ _ (λ k w0 w1 t0 t1 e f. keeps.stop z.fuel Wrong w0 w1 e) (λ v w0 w1 e. keeps.stop z.fuel Wrong w0 w1 e))
        (λ v w0 w1 t0 t1 e f. by v w0 w1 e) w w t t (one w) (one t)))
      where
        keeps : Keeps (Does r) OneWorld OneTemps
        keeps = keeps_one (Does r) (does_keeps r)

        alone : Around
        alone = record { activation = a; out = λ k w0 t0. wrong w0; back = λ v w0. wrong w0 }

        by : (v : ℕ) (w1 w2 : World) → OneWorld w1 w2 → Sim r z.fuel (go v w1 t) (go' v w2 t)
        by v w1 w2 (one x) = goes v x

        stray : (x y : Point) → Alike (Does r) OneWorld OneTemps z.fuel x y → Sim r z.fuel (wrong x.world) (wrong y.world)
        stray x y (alike s e e' next next' w0 w1 t0 t1 h k l q) = keeps.stop z.fuel Wrong w0 w1 l

    flat_runs : (x : Tx) → IsFlat x → Sim r z.fuel (mixed_value z x (around a o b) go w t) (then_value z x (around a o' b') go' w t)
    flat_runs x f = fixed_runs r a o o' b b' w t (mixed_value z x) (then_value z x) go go' (fixed_value z a o o' b b' w t x f) (λ v. goes v w)

    -- a right side does what it does among what the trees call
    pub effect_runs : (x : Tx) → IsFlatOrEffect x → Sim r z.fuel (mixed_value z x (around a o b) go w t) (then_value z x (around a o' b') go' w t)
    effect_runs (Const n) f = flat_runs (Const n) f
    effect_runs (Address n) f = flat_runs (Address n) f
    effect_runs (Temp i) f = flat_runs (Temp i) f
    effect_runs FrameAddress f = flat_runs FrameAddress f
    effect_runs (Binary op x y) f = flat_runs (Binary op x y) f
    effect_runs (Load x) f = flat_runs (Load x) f
    effect_runs (LoadByte x) f = flat_runs (LoadByte x) f
    effect_runs (Call label xs) f =
        trade z.fuel r r 2 2 _ _ (omega arith)
        (fixed_runs r a o o' b b' w t (mixed_values z xs) (then_values z xs) (λ vs w1 t1. z.enter label vs (a.base - a.size) (λ v w2. go v w2 t1) w1)
        (λ vs w1 t1. z.enter' label vs (a.base - a.size) (λ v w2. go' v w2 t1) w1) (fixed_values z a o o' b b' w t xs f)
        (λ vs. credit z.fuel (r + 0) r _ _ (omega arith) (z.calls label vs (a.base - a.size) (λ v w2. go v w2 t) (λ v w2. go' v w2 t) w r (λ v w2. goes v w2))))
    effect_runs (Service n x) f =
        trade z.fuel r r 5 5 _ _ (omega arith)
        (fixed_runs r a o o' b b' w t (mixed_value z x) (then_value z x) (λ u w1 t1. service z.room n u w1 (λ v w2. go v w2 t1))
        (λ u w1 t1. service z.room n u w1 (λ v w2. go' v w2 t1)) (fixed_value z a o o' b b' w t x f) (λ u. service_runs n u))
    effect_runs (After s x) f = absurd f

  -- A right side is moved to a temporary that is drawn for it, whose word is what it gives.
  pub move_runs : (x : Tx) (l : ℕ) → IsFlatOrEffect x → z.own ≤ l → (J : Known) (r : ℕ) (a : Activation) (o o' : Out) (b b' : Back) (go : Go ℕ) (next : Next) →
      KeptBy J (still (Move l x)) l (l + 1) →
      ((w : World) (t t' : Temps) → Beside z.own J w t t' → Sim r z.fuel (mixed_value z (Temp l) (around a o b) (λ v w1 t1. go v w1 t) w t') (next w t')) →
      (w : World) (t t' : Temps) → Beside z.own J w t t' → Sim (r + 2) z.fuel (mixed_value z x (around a o b) (λ v w1 t1. go v w1 t) w t')
      (then_does z (Move l x) (around a o' b') next w t')
  move_runs x l f le J r a o o' b b' go next kept hyp w t t' near =
      worked z.fuel (r + 2) r 2 _ (then_value z x (around a o' b') (λ v w1 t1. next w1 (set_temp l v t1)) w t') (omega arith)
      (effect_runs r a o o' b b' w t' (λ v w1 t1. go v w1 t) (λ v w1 t1. next w1 (set_temp l v t1)) (λ v w1.
      along z.fuel r (mixed_value z (Temp l) (around a o b) (λ u w2 t2. go u w2 t) w1 (set_temp l v t')) (go v w1 t) (next w1 (set_temp l v t'))
      (next w1 (set_temp l v t'))
      (sym (ap (λ d. charged 0 (with_word d w1 (λ u. go u w1 t))) (set_same l v t') ∙ free (go v w1 t))) refl
      (hyp w1 t (set_temp l v t') (beside_drawn z.own J l v w1 t t' 4294967295 0 l (l + 1) (kept refl) le (omega arith) (omega arith)
      (beside_world z.own J w w1 t t' 4294967295 0 l (l + 1) (kept refl) near)))) x f)

  -- What becomes of a flat expression in front of a part: a front, and an expression that gives the same word after the part.
  pub record IsHeld (p : Part) (x : Tx) (low from : ℕ) (h : Hoisted) (to : ℕ) : Type 1 where
    pub runs :
        (J : Known) (r : ℕ) (a : Activation) (o o' : Out) (b b' : Back) (go : Go ℕ) (next : Next) →
        KeptBy J h.front from to →
        ((w : World) (t t' : Temps) → Beside z.own J w t t' → Sim r z.fuel (mixed_value z h.rest (around a o b) (λ v w1 t1. go v w1 t) w t') (next w t')) →
        (w : World) (t t' : Temps) → Beside z.own J w t t' → Sim (r + 2) z.fuel (mixed_value z x (around a o b) (λ v w1 t1. go v w1 t) w t')
        (then_does z h.front.statement (around a o' b') next w t')
    pub steady : IsSteady h.rest
    pub apart : (i : ℕ) → Occurs i h.rest → p.least ≤ i → p.greatest < i
    pub reads : (i : ℕ) → Occurs i h.rest → IsIn z.own low to i
    pub owned : IsOwned z.own h.front.least h.front.greatest
    pub length : size h.front.statement + expression_length Canonical h.rest ≤ expression_length Canonical x + 2
    pub room : takes h.front.statement + expression_needs in_canonical h.rest + to ≤ expression_needs in_canonical x + holdable z.own x + from
    pub grows : from ≤ to

  module _ (p : Part) (owned : IsOwned z.own p.least p.greatest) (low from : ℕ) (above : z.own ≤ low) (later : low ≤ from) where
    abbrev Held : Tx → Drawn Hoisted → Type 1
    Held x d = IsHeld p x low from d.it d.next

    hold_held : (x : Tx) → IsFlatOrEffect x → holdable z.own x ≡ 1 → Held x (hold x from)
    hold_held x f once = record {
      runs = λ J r a o o' b b' go next kept hyp. move_runs x from f (omega arith) J r a o o' b b' go next kept hyp;
      steady = tt;
      apart = λ i e le. apart_from z.own p.least p.greatest i owned.strict owned.zero (omega (arith, e)) le;
      reads = λ i e. record { low = λ lo. omega (arith, e); high = λ lo. omega (arith, e) };
      owned = owned_none z.own;
      length = omega arith;
      room = let e = once in omega arith;
      grows = omega arith;
    }

    whole_held : (x : Tx) → IsSteady x → ((i : ℕ) → Occurs i x → p.least ≤ i → p.greatest < i) → ((i : ℕ) → Occurs i x → IsIn z.own low from i) →
        Held x (give (whole x) from)
    whole_held x f apart reads = record {
      runs = λ J r a o o' b b' go next kept hyp w t t' near.
          along z.fuel (r + 2) _ _ (next w t') _ refl (does_nothing z nothing (around a o' b') next w t' refl)
          (credit z.fuel r (r + 2) _ (next w t') (omega arith) (hyp w t t' near));
      steady = f;
      apart = apart;
      reads = reads;
      owned = owned_none z.own;
      length = omega arith;
      room = omega arith;
      grows = omega arith;
    }

    unless_held : (b : Bool) (x : Tx) → IsFlat x → (b ≡ true → IsSteady x) → (b ≡ true → (i : ℕ) → Occurs i x → p.least ≤ i → p.greatest < i) →
        (b ≡ false → holdable z.own x ≡ 1) → ((i : ℕ) → Occurs i x → IsIn z.own low from i) → Held x (hold_unless b x from)
    unless_held true x f steady apart once reads = whole_held x (steady refl) (apart refl) reads
    unless_held false x f steady apart once reads = hold_held x (flat_or_effect x f) (once refl)

    commutes_held : (x : Tx) → IsFlat x → ((i : ℕ) → Occurs i x → IsIn z.own low from i) → Held x (hold_unless (commutes p x) x from)
    commutes_held x f reads = unless_held (commutes p x) x f (commutes_steady p x) (commutes_apart p x) (held_once z.own p owned x) reads

    -- a sum with an offset, of which the left side is held
    offset_held : (op : Bin) (x y : Tx) → is_sum op ≡ true → is_constant y ≡ true → (d : Drawn Hoisted) → Held x d →
        Held (Binary op x y) (record { it = record { front = d.it.front; rest = Binary op d.it.rest y }; next = d.next })
    offset_held op x (Const c) e q d h = record {
      runs = λ J r a o o' b b' go next kept hyp w t t' near.
          let k = expression_units Canonical (Binary op x (Const c)) in
          pays z.fuel (r + 2) (r + k + 2) k _ _ (omega arith)
          (h.runs J (r + k) a o o' b b' (λ u w1 t1. charged 2 (with_given (operate op u c) w1 (λ v. go v w1 t1))) next kept
          (λ w1 t1 u1 near1. unpaid z.fuel r (r + k) k _ (next w1 u1) (omega arith) (hyp w1 t1 u1 near1)) w t t' near);
      steady = (e, h.steady, refl);
      apart = λ i o le. ⊎_elim (λ a. h.apart i a le) (λ a. absurd a) o;
      reads = λ i o. ⊎_elim (λ a. h.reads i a) (λ a. absurd a) o;
      owned = h.owned;
      length = let l = h.length in omega arith;
      room = let l = h.room in let m = holdable_most z.own x in omega arith;
      grows = h.grows;
    }
    offset_held op x (Address _) e q d h = cc
    offset_held op x (Temp _) e q d h = cc
    offset_held op x FrameAddress e q d h = cc
    offset_held op x (Binary _ _ _) e q d h = cc
    offset_held op x (Load _) e q d h = cc
    offset_held op x (LoadByte _) e q d h = cc
    offset_held op x (Call _ _) e q d h = cc
    offset_held op x (Service _ _) e q d h = cc
    offset_held op x (After _ _) e q d h = cc

    but_offset_held : (b : Bool) (op : Bin) (x y : Tx) → (is_sum op && is_constant y) ≡ b → IsFlat x → IsFlat y →
        ((i : ℕ) → Occurs i x → IsIn z.own low from i) → Held (Binary op x y) (hold_but_offset b p op x y from)
    but_offset_held true op x y e f g reads =
        let q = both_true (is_sum op) (is_constant y) e in
        offset_held op x y q.0 q.1 (hold_unless (commutes p x) x from) (commutes_held x f reads)
    but_offset_held false op x y e f g reads = hold_held (Binary op x y) (f, g) refl

    pub held : (x : Tx) → IsFlat x → ((i : ℕ) → Occurs i x → IsIn z.own low from i) → Held x (hold_for p x from)
    held (Binary op x y) f reads = but_offset_held (is_sum op && is_constant y) op x y refl f.0 f.1 (λ i o. reads i (inl o))
    held (Const n) f reads = commutes_held (Const n) f reads
    held (Address n) f reads = commutes_held (Address n) f reads
    held (Temp i) f reads = commutes_held (Temp i) f reads
    held FrameAddress f reads = commutes_held FrameAddress f reads
    held (Load x) f reads = commutes_held (Load x) f reads
    held (LoadByte x) f reads = commutes_held (LoadByte x) f reads
    held (Call g xs) f reads = absurd f
    held (Service n x) f reads = absurd f
    held (After s x) f reads = absurd f
