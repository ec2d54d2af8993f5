-- What it is that a part is carried: what lies in front of its rest, and then the rest, do what the part did.
use Rattle.std.proofs.Common.{◌≡◌, ℕ, ◌+◌, ◌<◌, ◌≤◌, Bool, true, false, if◌then◌else◌, refl, sym, ap, ◌∙◌, arith, ⊎_elim}
use Rattle.std.specs.Prelude.{Some}
use Rattle.std.proofs.lemmas.Bool.Decides.{eqb_tells}
use Rattle.tg_tree.specs.Tree.{Ts, Seq, no_stms, stm, Move, Store, StoreByte, Do, If, Loop, Break, Fault, Return}
use Rattle.tg_tree.specs.Actions.{World, Temps, set_temp, Activation, Around, Acts, Go, Next, Out, Back}
use Rattle.tg_tree.specs.Carrying.{BacksSimulate}
use Rattle.tg_canon.specs.mirror.Canon.{Part, is_nothing, pair, first_then, ◌before◌}
use Rattle.tg_canon.proofs.Paying.{Sim, credit, free}
use Rattle.tg_canon.proofs.Fixed.{Scene, around, then_does}

-- A temporary that is set, and another one.
pub set_same : (i v : ℕ) (t : Temps) → set_temp i v t i ≡ Some v
set_same i v t = ⊎_elim (λ e. ap (λ b. if b then Some v else t i) e.0) (λ e. absurd (e.1 refl)) (eqb_tells i i)

pub set_other : (i v : ℕ) (t : Temps) (j : ℕ) → (j ≡ i → ⊥) → set_temp i v t j ≡ t j
set_other i v t j n = ⊎_elim (λ e. absurd (n e.1)) (λ e. ap (λ b. if b then Some v else t j) e.0) (eqb_tells j i)

set_both : (i v : ℕ) (t t' : Temps) (j : ℕ) → t' j ≡ t j → set_temp i v t' j ≡ set_temp i v t j
set_both i v t t' j h =
    ⊎_elim
    (λ e. ap (λ b. if b then Some v else t' j) e.0 ∙ sym (ap (λ b. if b then Some v else t j) e.0))
    (λ e. ap (λ b. if b then Some v else t' j) e.0 ∙ (h ∙ sym (ap (λ b. if b then Some v else t j) e.0)))
    (eqb_tells j i)

-- What is known at a moment of the world and of the temporaries on both sides, besides that the body's own are the same.
abbrev pub Known : Type 1
Known = World → Temps → Temps → Type 0

pub record Beside (own : ℕ) (J : Known) (w : World) (t t' : Temps) : Type 0 where
  pub agree : (i : ℕ) → i < own → t' i ≡ t i
  pub holds : J w t t'

-- It stays so in any world, where one of the body's own temporaries from the least to the greatest is set on both sides, and where one
-- that is drawn is set after the pass.
pub record StaysKnown (J : Known) (least greatest from to : ℕ) : Type 0 where
  pub world : (w x : World) (t t' : Temps) → J w t t' → J x t t'
  pub assigned : (i v : ℕ) (w : World) (t t' : Temps) → least ≤ i → i ≤ greatest → J w t t' → J w (set_temp i v t) (set_temp i v t')
  pub drawn : (i v : ℕ) (w : World) (t t' : Temps) → from ≤ i → i < to → J w t t' → J w t (set_temp i v t')

-- a part that does anything keeps it so
abbrev pub KeptBy : Known → Part → (from to : ℕ) → Type 0
KeptBy J p from to = is_nothing p.statement ≡ false → StaysKnown J p.least p.greatest from to

pub kept_within : (J : Known) (p q : Part) (from to k l : ℕ) → (is_nothing p.statement ≡ false → is_nothing q.statement ≡ false) → q.least ≤ p.least →
    p.greatest ≤ q.greatest → from ≤ k → l ≤ to → KeptBy J q from to → KeptBy J p k l
kept_within J p q from to k l some low high lo hi h e =
    let s = h (some e) in
    record {
      world = s.world;
      assigned = λ i v w t t' a b j. s.assigned i v w t t' (omega arith) (omega arith) j;
      drawn = λ i v w t t' a b j. s.drawn i v w t t' (omega arith) (omega arith) j;
    }

-- what a sequence of two has that is something
if_false : (b : Bool) (s t : Ts) → is_nothing s ≡ false → is_nothing t ≡ false → is_nothing (if b then s else t) ≡ false
if_false true s t p q = p
if_false false s t p q = q

pub first_some : (s t : Ts) → is_nothing s ≡ false → is_nothing (first_then s t) ≡ false
first_some s t e = ap (λ b. is_nothing (if b then t else if is_nothing t then s else pair s t)) e ∙ if_false (is_nothing t) s (pair s t) e refl

pub second_some : (s t : Ts) → is_nothing t ≡ false → is_nothing (first_then s t) ≡ false
second_some s t e =
    ap (λ b. is_nothing (if is_nothing s then t else if b then s else pair s t)) e ∙ if_false (is_nothing s) t (pair s t) e refl

pub kept_first : (J : Known) (p q : Part) (from to k l : ℕ) → from ≤ k → l ≤ to → KeptBy J (p before q) from to → KeptBy J p k l
kept_first J p q from to k l lo hi h =
    kept_within J p (p before q) from to k l (first_some p.statement q.statement) (omega arith) (omega arith) lo hi h

pub kept_second : (J : Known) (p q : Part) (from to k l : ℕ) → from ≤ k → l ≤ to → KeptBy J (p before q) from to → KeptBy J q k l
kept_second J p q from to k l lo hi h =
    kept_within J q (p before q) from to k l (second_some p.statement q.statement) (omega arith) (omega arith) lo hi h

module _ (own : ℕ) (J : Known) where
  pub beside_world : (w x : World) (t t' : Temps) (least greatest from to : ℕ) → StaysKnown J least greatest from to → Beside own J w t t' → Beside own J x t t'
  beside_world w x t t' least greatest from to s h = record { agree = h.agree; holds = s.world w x t t' h.holds }

  pub beside_assigned : (i v : ℕ) (w : World) (t t' : Temps) (least greatest from to : ℕ) → StaysKnown J least greatest from to → least ≤ i → i ≤ greatest →
      Beside own J w t t' → Beside own J w (set_temp i v t) (set_temp i v t')
  beside_assigned i v w t t' least greatest from to s lo hi h =
      record { agree = λ j lt. set_both i v t t' j (h.agree j lt); holds = s.assigned i v w t t' lo hi h.holds }

  pub beside_drawn : (i v : ℕ) (w : World) (t t' : Temps) (least greatest from to : ℕ) → StaysKnown J least greatest from to → own ≤ i → from ≤ i → i < to →
      Beside own J w t t' → Beside own J w t (set_temp i v t')
  beside_drawn i v w t t' least greatest from to s le lo hi h =
      record { agree = λ j lt. set_other i v t' j (λ e. omega (arith, e)) ∙ h.agree j lt; holds = s.drawn i v w t t' lo hi h.holds }

pub beside_less : (own : ℕ) (J K : Known) (w : World) (t t' : Temps) → (K w t t' → J w t t') → Beside own K w t t' → Beside own J w t t'
beside_less own J K w t t' f h = record { agree = h.agree; holds = f h.holds }

-- one moment alone
pub data Only (w : World) (t t' : Temps) : World → Temps → Temps → Type 0 where
  only : Only w t t' w t t'

module _ (z : Scene) where
  -- breaks and returns lead to where they led; a break out of so many loops is one out of others after the pass
  abbrev pub OutsAre : Known → (credit : ℕ) → (out : ℕ → ℕ) → Out → Out → Type 0
  OutsAre J r out o o' = (k : ℕ) (w : World) (t t' : Temps) → Beside z.own J w t t' → Sim r z.fuel (o k w t) (o' (out k) w t')

  abbrev pub BacksAre : (credit : ℕ) → Back → Back → Type 0
  BacksAre r b b' = BacksSimulate 1 r z.fuel b b'

  pub outs_more : (J : Known) (r s : ℕ) (out : ℕ → ℕ) (o o' : Out) → r ≤ s → OutsAre J r out o o' → OutsAre J s out o o'
  outs_more J r s out o o' le h k w t t' x = credit z.fuel r s (o k w t) (o' (out k) w t') le (h k w t t' x)

  pub outs_less : (J K : Known) (r : ℕ) (out : ℕ → ℕ) (o o' : Out) → ((w : World) (t t' : Temps) → K w t t' → J w t t') → OutsAre J r out o o' →
      OutsAre K r out o o'
  outs_less J K r out o o' f h k w t t' x = h k w t t' (beside_less z.own J K w t t' (f w t t') x)

  pub outs_only : (J : Known) (r : ℕ) (out : ℕ → ℕ) (o o' : Out) (w : World) (t t' : Temps) → Beside z.own J w t t' → OutsAre J r out o o' →
      OutsAre (Only w t t') r out o o'
  outs_only J r out o o' w t t' x h k w1 t1 u1 y = by w1 t1 u1 y.holds
    where
      by : (w1 : World) (t1 u1 : Temps) → Only w t t' w1 t1 u1 → Sim r z.fuel (o k w1 t1) (o' (out k) w1 u1)
      by w1 t1 u1 only = h k w t t' x

  pub backs_more : (r s : ℕ) (b b' : Back) → r ≤ s → BacksAre r b b' → BacksAre s b b'
  backs_more r s b b' le h v w = credit z.fuel r s (b v w) (b' v w) le (h v w)

  -- What acts is split into a front and a rest: with what the front does and then the rest does what is done, and what the rest spares
  -- is credit.
  pub record IsSplit {B : Type 0} (out : ℕ → ℕ) (entire : Acts (Go B)) (spare : ℕ) (front : Part) (rest : Acts (Go B)) (from to : ℕ) : Type 1 where
    pub runs :
        (J : Known) (r : ℕ) (a : Activation) (o o' : Out) (b b' : Back) (go : Go B) (next : Next) →
        KeptBy J front from to → OutsAre J r out o o' → BacksAre r b b' →
        ((w : World) (t t' : Temps) → Beside z.own J w t t' → Sim (r + spare) z.fuel (rest (around a o b) (λ v w1 t1. go v w1 t) w t') (next w t')) →
        (w : World) (t t' : Temps) → Beside z.own J w t t' →
        Sim r z.fuel (entire (around a o b) go w t) (then_does z front.statement (around a o' b') next w t')

  -- a statement is done by a part
  pub record IsDone (out : ℕ → ℕ) (entire : Acts Next) (part : Part) (from to : ℕ) : Type 1 where
    pub runs :
        (J : Known) (r : ℕ) (a : Activation) (o o' : Out) (b b' : Back) (next next' : Next) →
        KeptBy J part from to → OutsAre J r out o o' → BacksAre r b b' →
        ((w : World) (t t' : Temps) → Beside z.own J w t t' → Sim r z.fuel (next w t) (next' w t')) →
        (w : World) (t t' : Temps) → Beside z.own J w t t' →
        Sim r z.fuel (entire (around a o b) next w t) (then_does z part.statement (around a o' b') next' w t')

  -- Statements after the pass, put together.
  pub does_nothing : (s : Ts) (e : Around) (next : Next) (w : World) (t : Temps) → is_nothing s ≡ true → then_does z s e next w t ≡ next w t
  does_nothing (Seq no_stms) e next w t p = free (next w t)
  does_nothing (Seq (stm s ss)) e next w t p = cc
  does_nothing (Move i x) e next w t p = cc
  does_nothing (Store x y) e next w t p = cc
  does_nothing (StoreByte x y) e next w t p = cc
  does_nothing (Do x) e next w t p = cc
  does_nothing (If c s s') e next w t p = cc
  does_nothing (Loop s) e next w t p = cc
  does_nothing (Break k) e next w t p = cc
  does_nothing (Fault k) e next w t p = cc
  does_nothing (Return x) e next w t p = cc

  pub does_in_turn : (s t : Ts) (e : Around) (next : Next) (w : World) (u : Temps) →
      then_does z (first_then s t) e next w u ≡ then_does z s e (λ w1 u1. then_does z t e next w1 u1) w u
  does_in_turn s t e next w u = by (is_nothing s) (is_nothing t) refl refl
    where
      by : (a b : Bool) → is_nothing s ≡ a → is_nothing t ≡ b →
          then_does z (if a then t else if b then s else pair s t) e next w u ≡ then_does z s e (λ w1 u1. then_does z t e next w1 u1) w u
      by true b p q = sym (does_nothing s e (λ w1 u1. then_does z t e next w1 u1) w u p)
      by false true p q = sym (λ i. then_does z s e (λ w1 u1. does_nothing t e next w1 u1 q i) w u)
      by false false p q = free (then_does z s e (λ w1 u1. then_does z t e next w1 u1) w u)
