-- Conditions: whole ones, and those that are tested part by part.
use Rattle.std.proofs.Common.{◌≡◌, ℕ, suc, ◌+◌, ◌≤◌, min, max, Bool, true, false, not, ◌&&◌, if◌then◌else◌, refl, sym, ap, ◌∙◌, arith, subst}
use Rattle.tg_tree.specs.declared.operators.Rel.{Rel}
use Rattle.tg_tree.specs.Tree.{Tx, Cond, Compare, Not, Both, Either, Ts, If, Loop, Break}
use Rattle.tg_tree.specs.Operators.{holds}
use Rattle.tg_tree.specs.Units.{Trees, Canonical, hoisted_units, joined_units}
use Rattle.tg_tree.specs.Sizes.{condition_length, condition_needs, in_trees, in_canonical}
use Rattle.tg_tree.specs.Shapes.{IsFlatCond, is_flat, is_flat_condition}
use Rattle.tg_tree.specs.Actions.{World, Temps, Activation, Around, Acts, Go, Next, Out, Back, give, over, charged, leaving}
use Rattle.tg_canon.specs.mirror.Canon.{Part, still, is_nothing, nothing, first_then, ◌before◌, block, as_part, Hoisted, is_whole, Tested, opposite, joined}
use Rattle.tg_canon.specs.mirror.Canon.{exit_where, wide_choice, deeper}
use Rattle.tg_canon.proofs.Sizing.{size, takes, in_turn_counts}
use Rattle.tg_canon.proofs.Paying.{Sim, trade, pays, worked, reworked, unpaid, credit, along, free, charged_add}
use Rattle.tg_canon.proofs.Fixed.{Scene, around, tree_value, tree_test, tree_does, mixed_value, mixed_test, then_test, then_does, IsFixed, gives}
use Rattle.tg_canon.proofs.Fixed.{stops, fixed_test}
use Rattle.tg_canon.proofs.Splits.{Known, Beside, KeptBy, kept_within, kept_first, kept_second, Only, only, OutsAre, BacksAre, outs_more, outs_only}
use Rattle.tg_canon.proofs.Splits.{backs_more, IsSplit, IsDone, does_nothing, does_in_turn}
use Rattle.tg_canon.proofs.Helds.{IsOwned, owned_both, owned_none, fixed_runs}
use Rattle.tg_canon.proofs.Words.{WordIs, PairIs, both_nothing}
use Rattle.tg_canon.proofs.Dones.{leaving_more}

both_true : (a b : Bool) → (a && b) ≡ true → (a ≡ true) × (b ≡ true)
both_true true b e = (refl, e)
both_true false b e = cc

-- A flat right side is there at once.
pub data Turns (D DR : Acts (Go Bool)) : Acts (Go Bool) → Acts (Go Bool) → Type 0 where
  goes_on : Turns D DR D DR
  stays : (v : Bool) → Turns D DR (give v) (give v)

module _ (z : Scene) (out : ℕ → ℕ) where
  -- a whole condition
  pub record TestIs (c : Cond) (from : ℕ) (t : Tested) (to : ℕ) : Type 1 where
    pub split : IsSplit z out (tree_test z c) 0 t.front (mixed_test z t.condition) from to
    pub flat : IsFlatCond t.condition
    pub none : is_flat_condition c ≡ true → is_nothing t.front.statement ≡ true
    pub owned : IsOwned z.own t.front.least t.front.greatest
    pub length : size t.front.statement + condition_length Canonical t.condition ≤ condition_length Trees c
    pub room : takes t.front.statement + condition_needs in_canonical t.condition + to ≤ condition_needs in_trees c + from
    pub grows : from ≤ to

  pub not_is : (c : Cond) (from : ℕ) (t : Tested) (to : ℕ) → TestIs c from t to → TestIs (Not c) from (opposite t) to
  not_is c from t to h = record {
    split = record {
      runs = λ J r a o o' b b' go next kept outs backs hyp w u u' near.
          pays z.fuel r r 0 _ _ (omega arith)
          (h.split.runs J r a o o' b b' (λ q w1 t1. go (not q) w1 t1) next kept outs backs
          (λ w1 t1 u1 near1. unpaid z.fuel (r + 0) (r + 0) 0 _ (next w1 u1) (omega arith) (hyp w1 t1 u1 near1)) w u u' near);
    };
    flat = h.flat;
    none = h.none;
    owned = h.owned;
    length = let n = h.length in omega arith;
    room = let n = h.room in omega arith;
    grows = h.grows;
  }

  module _ (c : Cond) (from : ℕ) (t : Tested) (to : ℕ) (test : TestIs c from t to)
      (D DR : Acts (Go Bool)) (part : Part) (first : ℕ) (right : IsSplit z out D 0 part DR first from) (e : is_nothing part.statement ≡ true)
      (F FR : Bool → Acts (Go Bool)) (turns : (q : Bool) → Turns D DR (F q) (FR q)) (u : ℕ) (grows : first ≤ from) where
    abbrev joins : Acts (Go Bool)
    joins e0 go w t1 = charged u (tree_test z c e0 (λ q w1 t2. F q e0 go w1 t2) w t1)

    abbrev joins_rest : Acts (Go Bool)
    joins_rest e0 go w t1 = charged 0 (mixed_test z t.condition e0 (λ q w1 t2. FR q e0 go w1 t2) w t1)

    module _ (r : ℕ) (a : Activation) (o o' : Out) (b b' : Back) (go : Go Bool) (next : Next) (w : World) (s s' : Temps)
        (J : Known) (outs : OutsAre z J r out o o') (backs : BacksAre z r b b') (near : Beside z.own J w s s') where
      after_it : (k : ℕ) (G GR : Acts (Go Bool)) → Turns D DR G GR → r ≤ k → Sim k z.fuel (GR (around a o b) (λ v w1 t1. go v w1 s) w s') (next w s') →
          Sim k z.fuel (G (around a o b) go w s) (then_does z part.statement (around a o' b') next w s')
      after_it k G GR goes_on le h =
          right.runs (Only w s s') k a o o' b b' go next (λ f. let q : true ≡ false = sym e ∙ f in cc)
          (outs_more z (Only w s s') r k out o o' le (outs_only z J r out o o' w s s' near outs)) (backs_more z r k b b' le backs)
          (λ w1 t1 u1 near1. by w1 t1 u1 near1.holds) w s s' (record { agree = near.agree; holds = only })
        where
          by : (w1 : World) (t1 u1 : Temps) → Only w s s' w1 t1 u1 → Sim (k + 0) z.fuel (DR (around a o b) (λ v w2 t2. go v w2 t1) w1 u1) (next w1 u1)
          by w1 t1 u1 only = credit z.fuel k (k + 0) _ (next w s') (omega arith) h
      after_it k G GR (stays v) le h = along z.fuel k (go v w s) _ (next w s') _ refl (does_nothing z part.statement (around a o' b') next w s' e) h

      at_once : Sim (r + 0) z.fuel (joins_rest (around a o b) (λ v w1 t1. go v w1 s) w s') (next w s') →
          IsFixed (mixed_test z t.condition) (then_test z t.condition) (around a o b) (around a o b) w s' →
          Sim (r + u + 0) z.fuel (mixed_test z t.condition (around a o b) (λ q w1 t1. F q (around a o b) go w1 s) w s')
          (then_does z part.statement (around a o' b') next w s')
      at_once hyp (gives k q g g') =
          let rests : Go Bool = λ q w1 t2. FR q (around a o b) (λ v w2 t3. go v w2 s) w1 t2 in
          along z.fuel (r + u + 0) (charged k (F q (around a o b) go w s)) _ _ _ (g (λ q w1 t1. F q (around a o b) go w1 s)) refl
          (pays z.fuel (r + u + 0) (r + u + k) k _ _ (omega arith)
          (after_it (r + u + k) (F q) (FR q) (turns q) (omega arith)
          (unpaid z.fuel (r + 0) (r + u + k) k (rests q w s') (next w s') (omega arith)
          (along z.fuel (r + 0) _ _ (next w s') _ (sym (g rests)) refl (unpaid z.fuel (r + 0) (r + 0) 0 _ (next w s') (omega arith) hyp)))))
      at_once hyp (stops k how g g') =
          let rests : Go Bool = λ q w1 t2. FR q (around a o b) (λ v w2 t3. go v w2 s) w1 t2 in
          along z.fuel (r + u + 0) (charged k (over how w)) _ (next w s') _ (g (λ q w1 t1. F q (around a o b) go w1 s))
          (does_nothing z part.statement (around a o' b') next w s' e)
          (credit z.fuel (r + 0) (r + u + 0) _ (next w s') (omega arith)
          (along z.fuel (r + 0) _ _ (next w s') _ (sym (g rests)) refl (unpaid z.fuel (r + 0) (r + 0) 0 _ (next w s') (omega arith) hyp)))

    pub joined_split : IsSplit z out joins 0 (t.front before part) joins_rest first to
    joined_split = record {
      runs = λ J r a o o' b b' go next kept outs backs hyp w s s' near.
          pays z.fuel r (r + u) u _ _ (omega arith)
          (along z.fuel (r + u) _ _ (then_does z t.front.statement (around a o' b')
          (λ w1 u1. then_does z part.statement (around a o' b') next w1 u1) w s') _ refl
          (does_in_turn z t.front.statement part.statement (around a o' b') next w s')
          (test.split.runs J (r + u) a o o' b b' (λ q w1 t1. F q (around a o b) go w1 t1) (λ w1 u1. then_does z part.statement (around a o' b') next w1 u1)
          (kept_first J t.front part first to from to grows (omega arith) kept) (outs_more z J r (r + u) out o o' (omega arith) outs)
          (backs_more z r (r + u) b b' (omega arith) backs)
          (λ w1 t1 u1 near1. at_once r a o o' b b' go next w1 t1 u1 J outs backs near1 (hyp w1 t1 u1 near1)
          (fixed_test z a o o b b w1 u1 t.condition test.flat)) w s s' near));
    }

  pub and_is : (c d : Cond) (first from to : ℕ) (t s : Tested) → is_flat_condition d ≡ true → TestIs c from t to → TestIs d first s from →
      TestIs (Both c d) first (joined Both t s) to
  and_is c d first from to t s e h k = record {
    split = joined_split c from t to h (tree_test z d) (mixed_test z s.condition) s.front first k.split (k.none e)
        (λ q. if q then tree_test z d else give false) (λ q. if q then mixed_test z s.condition else give false) turn
        (joined_units Trees (is_flat_condition d)) k.grows;
    flat = (h.flat, k.flat);
    none = λ f. both_nothing t.front.statement s.front.statement (h.none (both_true (is_flat_condition c) (is_flat_condition d) f).0) (k.none e);
    owned = owned_both z.own t.front.least t.front.greatest s.front.least s.front.greatest h.owned k.owned;
    length = let n = h.length in let n' = k.length in let q = (in_turn_counts t.front.statement s.front.statement).0 in omega arith;
    room = let n = h.room in let n' = k.room in let q = (in_turn_counts t.front.statement s.front.statement).1 in omega arith;
    grows = let g = h.grows in let g' = k.grows in omega arith;
  }
    where
      turn : (q : Bool) →
          Turns (tree_test z d) (mixed_test z s.condition) (if q then tree_test z d else give false) (if q then mixed_test z s.condition else give false)
      turn true = goes_on
      turn false = stays false

  pub or_is : (c d : Cond) (first from to : ℕ) (t s : Tested) → is_flat_condition d ≡ true → TestIs c from t to → TestIs d first s from →
      TestIs (Either c d) first (joined Either t s) to
  or_is c d first from to t s e h k =
      let both = and_is c d first from to t s e h k in
      record {
        split = joined_split c from t to h (tree_test z d) (mixed_test z s.condition) s.front first k.split (k.none e)
            (λ q. if q then give true else tree_test z d) (λ q. if q then give true else mixed_test z s.condition) turn
            (joined_units Trees (is_flat_condition d)) k.grows;
        flat = both.flat;
        none = both.none;
        owned = both.owned;
        length = both.length;
        room = both.room;
        grows = both.grows;
      }
    where
      turn : (q : Bool) →
          Turns (tree_test z d) (mixed_test z s.condition) (if q then give true else tree_test z d) (if q then give true else mixed_test z s.condition)
      turn true = stays true
      turn false = goes_on

  pub compare_is : (rel : Rel) (x y : Tx) (b h : Hoisted) (first from to : ℕ) →
      PairIs z out x (tree_value z y) (mixed_value z b.rest) b.front (4 + hoisted_units Trees (is_flat y)) 4 first from h to → WordIs z out y first b from →
      TestIs (Compare rel x y) first (record { front = h.front before b.front; condition = Compare rel h.rest b.rest }) to
  compare_is rel x y b h first from to pairs right = record {
    split = record {
      runs = λ J r a o o' c c' go next kept outs backs hyp. pairs.split.runs J r a o o' c c' (λ q w1 t1. go (holds rel q.0 q.1) w1 t1) next kept outs backs hyp;
    };
    flat = (pairs.flat, right.flat);
    none = λ f. let g = both_true (is_flat x) (is_flat y) f in pairs.none g.0 (right.none g.1);
    owned = pairs.owned;
    length = let n = pairs.length in let n' = right.length in let c = (in_turn_counts h.front.statement b.front.statement).0 in omega arith;
    room = let n = pairs.room in let n' = right.room in let c = (in_turn_counts h.front.statement b.front.statement).1 in omega arith;
    grows = pairs.grows;
  }

-- What the joins of a condition count where it is tested part by part: 14 each, and 17 more for one whose right side isn't flat.
pub record JoinsPay : Type 0 where
  pub flat : 14 ≤ joined_units Trees true
  pub hoisted : 31 ≤ joined_units Trees false

pub joins_are_paid : JoinsPay
joins_are_paid = record { flat = omega arith; hoisted = omega arith }

-- what is left over of a condition that isn't whole
abbrev pub extra : Cond → ℕ
extra (Compare _ _ _) = 0
extra (Not c) = extra c
extra (Both c d) = if is_flat_condition d then extra c else 17
extra (Either c d) = if is_flat_condition d then extra c else 17

not_both : (a b : Bool) → (a && b) ≡ false → b ≡ true → a ≡ false
not_both true b e f = let g : true ≡ false = sym f ∙ e in cc
not_both false b e f = refl

extra_joined : (b : Bool) (c : Cond) (n : ℕ) → (b ≡ true → extra c ≡ 17) → (if b then extra c else 17) ≡ 17
extra_joined true c n h = h refl
extra_joined false c n h = refl

pub extra_there : (c : Cond) → is_whole c ≡ false → extra c ≡ 17
extra_there (Compare rel x y) e = cc
extra_there (Not c) e = extra_there c e
extra_there (Both c d) e = extra_joined (is_flat_condition d) c 0 (λ f. extra_there c (not_both (is_whole c) (is_flat_condition d) e f))
extra_there (Either c d) e = extra_joined (is_flat_condition d) c 0 (λ f. extra_there c (not_both (is_whole c) (is_flat_condition d) e f))

-- what of it the left side has, and what this join pays
joins_pay : JoinsPay → (c : Cond) (b : Bool) (m : ℕ) → m ≤ (if b then extra c else 17) →
    (k : ℕ) × (l : ℕ) × (k ≤ extra c) × (m ≤ k + l) × (14 + l ≤ joined_units Trees b)
joins_pay pay c true m le = (m, 0, le, omega arith, pay.flat)
joins_pay pay c false m le = (0, m, omega arith, omega arith, let h = pay.hoisted in omega arith)

joins_last : JoinsPay → (c : Cond) (b : Bool) → (if b then extra c else 17) + 14 ≤ extra c + joined_units Trees b
joins_last pay c true = let h = pay.flat in omega arith
joins_last pay c false = let h = pay.hoisted in omega arith

-- Breaks out of one loop more, and of two.
pub outs_deeper : (z : Scene) (out : ℕ → ℕ) (J : Known) (r : ℕ) (o o' : Out) (next : Next) → OutsAre z J r out o o' →
    OutsAre z J r (deeper 1 out) o (leaving next o')
outs_deeper z out J r o o' next outs k w t t' near =
    along z.fuel r (o k w t) _ (o' (out k) w t') _ refl (ap (λ (n : Next). n w t') (leaving_more next o' (out k))) (outs k w t t' near)

pub outs_deeper_two : (z : Scene) (out : ℕ → ℕ) (J : Known) (r : ℕ) (o o' : Out) (next next1 : Next) → OutsAre z J r out o o' →
    OutsAre z J r (deeper 2 out) o (leaving next1 (leaving next o'))
outs_deeper_two z out J r o o' next next1 outs k w t t' near =
    let e : out k + 2 ≡ suc (suc (out k)) = omega arith in
    along z.fuel r (o k w t) _ (o' (out k) w t') _ refl (ap (λ n. leaving next1 (leaving next o') n w t') e) (outs k w t t' near)

module _ (z : Scene) where
  -- Any condition, tested part by part: it leaves loops where it comes out so, and goes on where it doesn't.
  pub record LeftIs (out : ℕ → ℕ) (when : Bool) (k : ℕ) (c : Cond) (from : ℕ) (p : Part) (to : ℕ) : Type 1 where
    pub runs :
        (J : Known) (r : ℕ) (a : Activation) (o o' : Out) (b b' : Back) (go : Go Bool) (next : Next) →
        KeptBy J p from to → OutsAre z J r out o o' → BacksAre z r b b' →
        ((w : World) (t t' : Temps) → Beside z.own J w t t' → Sim r z.fuel (go when w t) (o' k w t')) →
        ((w : World) (t t' : Temps) → Beside z.own J w t t' → Sim r z.fuel (go (not when) w t) (next w t')) →
        (m : ℕ) → m ≤ extra c → (w : World) (t t' : Temps) → Beside z.own J w t t' →
        Sim (r + 7) z.fuel (tree_test z c (around a o b) go w t) (charged m (then_does z p.statement (around a o' b') next w t'))
    pub owned : IsOwned z.own p.least p.greatest
    pub length : size p.statement + extra c ≤ condition_length Trees c + 7
    pub room : takes p.statement + to ≤ condition_needs in_trees c + from
    pub grows : from ≤ to

  -- a comparison
  module _ (out : ℕ → ℕ) (c : Cond) (from : ℕ) (test : Tested) (to : ℕ) (none : extra c ≡ 0) (h : TestIs z out c from test to) where
    exits_by : (p q : Ts) (J : Known) (r : ℕ) (a : Activation) (o o' : Out) (b b' : Back) (go : Go Bool) (next : Next) →
        KeptBy J (test.front before as_part (still p) (still q) (If test.condition p q)) from to → OutsAre z J r out o o' → BacksAre z r b b' →
        ((d : Bool) (w : World) (t t' : Temps) → Beside z.own J w t t' →
        Sim (r + 3) z.fuel (go d w t) ((if d then then_does z p else then_does z q) (around a o' b') next w t')) →
        (m : ℕ) → m ≤ extra c → (w : World) (t t' : Temps) → Beside z.own J w t t' →
        Sim (r + 7) z.fuel (tree_test z c (around a o b) go w t)
        (charged m (then_does z (first_then test.front.statement (If test.condition p q)) (around a o' b') next w t'))
    exits_by p q J r a o o' b b' go next kept outs backs leads m le w t t' near =
        let e1 = around a o' b' in
        worked z.fuel (r + 7) (r + 7) m _ _ (let n = none in omega arith)
        (along z.fuel (r + 7) _ _ (then_does z test.front.statement e1 (λ w1 u1. then_does z (If test.condition p q) e1 next w1 u1) w t') _ refl
        (does_in_turn z test.front.statement (If test.condition p q) e1 next w t')
        (h.split.runs J (r + 7) a o o' b b' go (λ w1 u1. then_does z (If test.condition p q) e1 next w1 u1)
        (kept_first J test.front (as_part (still p) (still q) (If test.condition p q)) from to from to (omega arith) (omega arith) kept)
        (outs_more z J r (r + 7) out o o' (omega arith) outs) (backs_more z r (r + 7) b b' (omega arith) backs)
        (λ w1 t1 u1 near1. worked z.fuel (r + 7 + 0) (r + 3) 4 _ _ (omega arith)
        (fixed_runs z (r + 3) a o o' b b' w1 u1 (mixed_test z test.condition) (then_test z test.condition) (λ d w2 t2. go d w2 t1)
        (λ d w2 t2. (if d then then_does z p else then_does z q) e1 next w2 t2)
        (fixed_test z a o o' b b' w1 u1 test.condition h.flat) (λ d. leads d w1 t1 u1 near1))) w t t' near))

    part_owned : (s : Ts) → IsOwned z.own (min test.front.least (min 4294967295 4294967295)) (max test.front.greatest (max 0 0))
    part_owned s = owned_both z.own test.front.least test.front.greatest (min 4294967295 4294967295) (max 0 0) h.owned
        (owned_both z.own 4294967295 0 4294967295 0 (owned_none z.own) (owned_none z.own))

    part_length : (p q : Ts) → size p + size q ≤ 3 → size (first_then test.front.statement (If test.condition p q)) + extra c ≤ condition_length Trees c + 7
    part_length p q le = let n = h.length in let c1 = (in_turn_counts test.front.statement (If test.condition p q)).0 in let e = none in omega arith

    part_needs : (p q : Ts) → takes p ≡ 0 → takes q ≡ 0 →
        takes (first_then test.front.statement (If test.condition p q)) + to ≤ condition_needs in_trees c + from
    part_needs p q e f = let n = h.room in let c1 = (in_turn_counts test.front.statement (If test.condition p q)).1 in omega (arith, e, f)

    pub exit_left : (when : Bool) (k : ℕ) → LeftIs out when k c from (exit_where when k test) to
    exit_left true k = record {
      runs = λ J r a o o' b b' go next kept outs backs exits on.
          exits_by (Break k) nothing J r a o o' b b' go next kept outs backs (λ d w t t' near. by J r a o' b' go next exits on d w t t' near);
      owned = part_owned nothing;
      length = part_length (Break k) nothing (omega arith);
      room = part_needs (Break k) nothing refl refl;
      grows = h.grows;
    }
      where
        by : (J : Known) (r : ℕ) (a : Activation) (o' : Out) (b' : Back) (go : Go Bool) (next : Next) →
            ((w : World) (t t' : Temps) → Beside z.own J w t t' → Sim r z.fuel (go true w t) (o' k w t')) →
            ((w : World) (t t' : Temps) → Beside z.own J w t t' → Sim r z.fuel (go false w t) (next w t')) →
            (d : Bool) (w : World) (t t' : Temps) → Beside z.own J w t t' →
            Sim (r + 3) z.fuel (go d w t) ((if d then then_does z (Break k) else then_does z nothing) (around a o' b') next w t')
        by J r a o' b' go next exits on true w t t' near = worked z.fuel (r + 3) r 3 _ _ (omega arith) (exits w t t' near)
        by J r a o' b' go next exits on false w t t' near = worked z.fuel (r + 3) r 0 _ _ (omega arith) (on w t t' near)
    exit_left false k = record {
      runs = λ J r a o o' b b' go next kept outs backs exits on.
          exits_by nothing (Break k) J r a o o' b b' go next kept outs backs (λ d w t t' near. by J r a o' b' go next exits on d w t t' near);
      owned = part_owned nothing;
      length = part_length nothing (Break k) (omega arith);
      room = part_needs nothing (Break k) refl refl;
      grows = h.grows;
    }
      where
        by : (J : Known) (r : ℕ) (a : Activation) (o' : Out) (b' : Back) (go : Go Bool) (next : Next) →
            ((w : World) (t t' : Temps) → Beside z.own J w t t' → Sim r z.fuel (go false w t) (o' k w t')) →
            ((w : World) (t t' : Temps) → Beside z.own J w t t' → Sim r z.fuel (go true w t) (next w t')) →
            (d : Bool) (w : World) (t t' : Temps) → Beside z.own J w t t' →
            Sim (r + 3) z.fuel (go d w t) ((if d then then_does z nothing else then_does z (Break k)) (around a o' b') next w t')
        by J r a o' b' go next exits on true w t t' near = worked z.fuel (r + 3) r 0 _ _ (omega arith) (on w t t' near)
        by J r a o' b' go next exits on false w t t' near = worked z.fuel (r + 3) r 3 _ _ (omega arith) (exits w t t' near)

  -- Two conditions that are joined.
  module _ (pay : JoinsPay) (out : ℕ → ℕ) (c d j : Cond) (F : Bool → Acts (Go Bool))
      (is : (e : Around) (go : Go Bool) (w : World) (t : Temps) → tree_test z j e go w t ≡ charged (joined_units Trees (is_flat_condition d))
      (tree_test z c e (λ q w1 t1. F q e go w1 t1) w t))
      (extra_is : extra j ≡ (if is_flat_condition d then extra c else 17))
      (length_is : condition_length Trees j ≡ joined_units Trees (is_flat_condition d) + (condition_length Trees c + condition_length Trees d))
      (room_is : condition_needs in_trees j ≡ 6 + (condition_needs in_trees c + condition_needs in_trees d))
      (when : Bool) (k first from to : ℕ) (p q : Part) where
    abbrev J' : ℕ
    J' = joined_units Trees (is_flat_condition d)

    -- what lengths ask of a join
    length_pays : extra j + 14 ≤ extra c + J'
    length_pays = subst (λ n. n + 14 ≤ extra c + J') (sym extra_is) (joins_last pay c (is_flat_condition d))

    -- both leave where they come out so
    pub chain_left : F when ≡ give when → F (not when) ≡ tree_test z d → LeftIs out when k c from p to → LeftIs out when k d first q from →
        LeftIs out when k j first (p before q) to
    chain_left ends goes h l = record {
      runs = λ J r a o o' b b' go next kept outs backs exits on m le w t t' near.
          let e0 = around a o b in
          let e1 = around a o' b' in
          let x = joins_pay pay c (is_flat_condition d) m (subst (λ n. m ≤ n) extra_is le) in
          along z.fuel (r + 7) _ _ _ _ (is e0 go w t) refl
          (pays z.fuel (r + 7) (r + 7 + J') J' _ _ (omega arith)
          (reworked z.fuel (r + 7 + J') (r + 7 + 7) x.0 m _ _ (let f = x.3 in let g = x.4 in omega arith)
          (along z.fuel (r + 7 + 7) _ _ (charged x.0 (then_does z p.statement e1 (λ w1 u1. then_does z q.statement e1 next w1 u1) w t')) _ refl
          (ap (charged x.0) (does_in_turn z p.statement q.statement e1 next w t'))
          (h.runs J (r + 7) a o o' b b' (λ v w1 t1. F v e0 go w1 t1) (λ w1 u1. then_does z q.statement e1 next w1 u1)
          (kept_first J p q first to from to l.grows (omega arith) kept)
          (outs_more z J r (r + 7) out o o' (omega arith) outs) (backs_more z r (r + 7) b b' (omega arith) backs)
          (λ w1 t1 u1 near1. along z.fuel (r + 7) (go when w1 t1) _ (o' k w1 u1) _ (ap (λ (f : Acts (Go Bool)). f e0 go w1 t1) ends) refl
          (credit z.fuel r (r + 7) (go when w1 t1) (o' k w1 u1) (omega arith) (exits w1 t1 u1 near1)))
          (λ w1 t1 u1 near1. along z.fuel (r + 7) (tree_test z d e0 go w1 t1) _ (charged 0 (then_does z q.statement e1 next w1 u1)) _
          (ap (λ (f : Acts (Go Bool)). f e0 go w1 t1) goes) (sym (free (then_does z q.statement e1 next w1 u1)))
          (l.runs J r a o o' b b' go next (kept_second J p q first to first from (omega arith) h.grows kept) outs backs exits on 0
          (omega arith) w1 t1 u1 near1))
          x.0 x.2 w t t' near))));
      owned = owned_both z.own p.least p.greatest q.least q.greatest h.owned l.owned;
      length = let n = h.length in let n' = l.length in let q' = (in_turn_counts p.statement q.statement).0 in let m = length_pays in let e = length_is in
          omega arith;
      room = let n = h.room in let n' = l.room in let q' = (in_turn_counts p.statement q.statement).1 in let e = room_is in omega arith;
      grows = let f = h.grows in let g = l.grows in omega arith;
    }

    -- the first goes on where it leaves a loop of its own
    pub block_left : F (not when) ≡ give (not when) → F (not (not when)) ≡ tree_test z d → LeftIs (deeper 1 out) (not when) 0 c from p to →
        LeftIs (deeper 1 out) when (k + 1) d first q from → LeftIs out when k j first (block (p before q)) to
    block_left ends goes h l = record {
      runs = λ J r a o o' b b' go next kept outs backs exits on m le w t t' near.
          let e0 = around a o b in
          let o2 = leaving next o' in
          let e2 = around a o2 b' in
          let next3 : Next = λ w1 u1. charged 3 (next w1 u1) in
          let x = joins_pay pay c (is_flat_condition d) m (subst (λ n. m ≤ n) extra_is le) in
          let Y = then_does z (first_then p.statement q.statement) e2 next3 w t' in
          along z.fuel (r + 7) _ _ _ _ (is e0 go w t) (ap (charged m) (charged_add 4 0 Y) ∙ charged_add m (4 + 0) Y)
          (pays z.fuel (r + 7) (r + 7 + J') J' _ _ (omega arith)
          (reworked z.fuel (r + 7 + J') (r + 10 + 7) x.0 (m + (4 + 0)) _ Y (let f = x.3 in let g = x.4 in omega arith)
          (along z.fuel (r + 10 + 7) _ _ (charged x.0 (then_does z p.statement e2 (λ w1 u1. then_does z q.statement e2 next3 w1 u1) w t')) _ refl
          (ap (charged x.0) (does_in_turn z p.statement q.statement e2 next3 w t'))
          (h.runs J (r + 10) a o o2 b b' (λ v w1 t1. F v e0 go w1 t1) (λ w1 u1. then_does z q.statement e2 next3 w1 u1)
          (kept_within J p (block (p before q)) first to from to (λ f. refl) (omega arith) (omega arith) l.grows (omega arith) kept)
          (outs_deeper z out J (r + 10) o o' next (outs_more z J r (r + 10) out o o' (omega arith) outs)) (backs_more z r (r + 10) b b' (omega arith) backs)
          (λ w1 t1 u1 near1. along z.fuel (r + 10) (go (not when) w1 t1) _ (next w1 u1) _ (ap (λ (f : Acts (Go Bool)). f e0 go w1 t1) ends) refl
          (credit z.fuel r (r + 10) (go (not when) w1 t1) (next w1 u1) (omega arith) (on w1 t1 u1 near1)))
          (λ w1 t1 u1 near1. along z.fuel (r + 10) (tree_test z d e0 go w1 t1) _ (charged 0 (then_does z q.statement e2 next3 w1 u1)) _
          (ap (λ (f : Acts (Go Bool)). f e0 go w1 t1) goes) (sym (free (then_does z q.statement e2 next3 w1 u1)))
          (credit z.fuel (r + 3 + 7) (r + 10) _ _ (omega arith)
          (l.runs J (r + 3) a o o2 b b' go next3 (kept_within J q (block (p before q)) first to first from (λ f. refl) (omega arith) (omega arith)
          (omega arith) h.grows kept)
          (outs_deeper z out J (r + 3) o o' next (outs_more z J r (r + 3) out o o' (omega arith) outs)) (backs_more z r (r + 3) b b' (omega arith) backs)
          (λ w2 t2 u2 near2. along z.fuel (r + 3) (go when w2 t2) _ (o' k w2 u2) _ refl (ap (λ (n : Next). n w2 u2) (leaving_more next o' k))
          (credit z.fuel r (r + 3) (go when w2 t2) (o' k w2 u2) (omega arith) (exits w2 t2 u2 near2)))
          (λ w2 t2 u2 near2. worked z.fuel (r + 3) r 3 _ (next w2 u2) (omega arith) (on w2 t2 u2 near2))
          0 (omega arith) w1 t1 u1 near1)))
          x.0 x.2 w t t' near))));
      owned = owned_both z.own p.least p.greatest q.least q.greatest h.owned l.owned;
      length = let n = h.length in let n' = l.length in let q' = (in_turn_counts p.statement q.statement).0 in let m = length_pays in let e = length_is in
          omega arith;
      room = let n = h.room in let n' = l.room in let q' = (in_turn_counts p.statement q.statement).1 in let e = room_is in omega arith;
      grows = let f = h.grows in let g = l.grows in omega arith;
    }

  pub left_opposite : (out : ℕ → ℕ) (when : Bool) (k : ℕ) (c : Cond) (from : ℕ) (p : Part) (to : ℕ) → LeftIs out (not when) k c from p to →
      LeftIs out when k (Not c) from p to
  left_opposite out true k c from p to h = record {
    runs = λ J r a o o' b b' go next kept outs backs exits on m le w t t' near.
        pays z.fuel (r + 7) (r + 7) 0 _ _ (omega arith) (h.runs J r a o o' b b' (λ v w1 t1. go (not v) w1 t1) next kept outs backs exits on m le w t t' near);
    owned = h.owned;
    length = let n = h.length in omega arith;
    room = let n = h.room in omega arith;
    grows = h.grows;
  }
  left_opposite out false k c from p to h = record {
    runs = λ J r a o o' b b' go next kept outs backs exits on m le w t t' near.
        pays z.fuel (r + 7) (r + 7) 0 _ _ (omega arith) (h.runs J r a o o' b b' (λ v w1 t1. go (not v) w1 t1) next kept outs backs exits on m le w t t' near);
    owned = h.owned;
    length = let n = h.length in omega arith;
    room = let n = h.room in omega arith;
    grows = h.grows;
  }

  -- A statement after a condition that is tested part by part, and the other one.
  pub wide_done : (out : ℕ → ℕ) (c : Cond) (s t : Ts) (test p q : Part) (first k l to : ℕ) → extra c ≡ 17 → LeftIs (deeper 2 out) false 0 c l test to →
      IsDone z (deeper 2 out) (tree_does z s) p k l → IsDone z (deeper 1 out) (tree_does z t) q first k → first ≤ k → k ≤ l →
      IsDone z out (tree_does z (If c s t)) (wide_choice test p q) first to
  wide_done out c s t test p q first k l to more h this other lo mid = record {
    runs = λ J r a o o' b b' next next' kept outs backs nexts w u u' near.
        let e0 = around a o b in
        let o2 = leaving next' o' in
        let e2 = around a o2 b' in
        let next3 : Next = λ w1 u1. charged 3 (next' w1 u1) in
        let behind : Next = λ w1 u1. then_does z q.statement e2 next3 w1 u1 in
        let e3 = around a (leaving behind o2) b' in
        let within : Next = λ w1 u1. then_does z p.statement e3 next3 w1 u1 in
        let inner = first_then (first_then test.statement p.statement) (Break 1) in
        let again : Next = λ w1 u1. z.later' (record { statement = Loop inner; around = e2; next = behind; world = w1; temps = u1 }) in
        trade z.fuel r r 4 4 _ _ (omega arith)
        (worked z.fuel r r 0 _ _ (omega arith)
        (along z.fuel r _ _ (charged 4 (then_does z test.statement e3 within w u')) _ refl
        (does_in_turn z (Loop inner) q.statement e2 next3 w u' ∙
        ap (charged 4) (does_in_turn z (first_then test.statement p.statement) (Break 1) e3 again w u' ∙
        does_in_turn z test.statement p.statement e3 next3 w u'))
        (reworked z.fuel r (r + 3 + 7) 14 4 _ _ (omega arith)
        (h.runs J (r + 3) a o (leaving behind o2) b b' (λ d w1 t1. (if d then tree_does z s else tree_does z t) e0 next w1 t1) within
        (kept_within J test (wide_choice test p q) first to l to (λ f. refl) (omega arith) (omega arith) (omega arith) (omega arith) kept)
        (outs_deeper_two z out J (r + 3) o o' next' behind (outs_more z J r (r + 3) out o o' (omega arith) outs))
        (backs_more z r (r + 3) b b' (omega arith) backs)
        (λ w1 t1 u1 near1. other.runs J (r + 3) a o o2 b b' next next3
        (kept_within J q (wide_choice test p q) first to first k (λ f. refl) (omega arith) (omega arith) (omega arith) (let g = h.grows in omega arith) kept)
        (outs_deeper z out J (r + 3) o o' next' (outs_more z J r (r + 3) out o o' (omega arith) outs)) (backs_more z r (r + 3) b b' (omega arith) backs)
        (λ w2 t2 u2 near2. worked z.fuel (r + 3) r 3 _ (next' w2 u2) (omega arith) (nexts w2 t2 u2 near2)) w1 t1 u1 near1)
        (λ w1 t1 u1 near1. this.runs J (r + 3) a o (leaving behind o2) b b' next next3
        (kept_within J p (wide_choice test p q) first to k l (λ f. refl) (omega arith) (omega arith) lo h.grows kept)
        (outs_deeper_two z out J (r + 3) o o' next' behind (outs_more z J r (r + 3) out o o' (omega arith) outs))
        (backs_more z r (r + 3) b b' (omega arith) backs)
        (λ w2 t2 u2 near2. worked z.fuel (r + 3) r 3 _ (next' w2 u2) (omega arith) (nexts w2 t2 u2 near2)) w1 t1 u1 near1)
        14 (let e = more in omega arith) w u u' near))));
  }
