-- Expressions that are hoisted, words, and a word beside another part.
use Rattle.std.proofs.Common.{◌≡◌, ℕ, ◌+◌, ◌≤◌, min, max, Bool, true, false, if◌then◌else◌, refl, sym, ap, ◌∙◌, arith}
use Rattle.tg_simulation.proofs.Simulations.{simulates_wrong}
use Rattle.tg_tree.specs.declared.operators.Bin.{Bin}
use Rattle.tg_tree.specs.declared.operators.Bin.TheVariants.{Add, Sub, Mul, Div, And, Or, Xor, ShiftLeft, ShiftRight, ShiftSigned, AddTrap, SubTrap, MulHigh}
use Rattle.tg_tree.specs.Tree.{Tx, Const, Address, Temp, FrameAddress, Binary, Load, LoadByte, Call, Service, After, Ts, Move}
use Rattle.tg_tree.specs.Units.{Trees, Canonical, shift_units, operator_units}
use Rattle.tg_tree.specs.Sizes.{expression_length, expression_needs, in_trees, in_canonical}
use Rattle.tg_tree.specs.Shapes.{IsFlat, IsFlatOrEffect, is_flat}
use Rattle.tg_tree.specs.Actions.{World, Temps, Activation, Acts, Go, Next, Out, Back, over, charged}
use Rattle.tg_tree.proofs.Flatness.{tested_flat}
use Rattle.tg_canon.specs.mirror.Drawing.{Drawn}
use Rattle.tg_canon.specs.mirror.Canon.{Part, still, is_nothing, pair, first_then, ◌before◌, Hoisted, behind, is_constant, is_effect, hold_effect, hold_for}
use Rattle.tg_canon.specs.mirror.Canon.{hold_before, in_front_of}
use Rattle.tg_canon.proofs.Sizing.{size, takes, holdable, holdable_most, drawn_held, in_turn_counts}
use Rattle.tg_canon.proofs.Paying.{Sim, pays, unpaid, credit, along}
use Rattle.tg_canon.proofs.Fixed.{Scene, around, tree_value, mixed_value, then_value, then_does, IsFixed, gives, stops, fixed_value}
use Rattle.tg_canon.proofs.Steady.{Occurs, IsSteady, ComesTo, one_word, no_word, steady_comes}
use Rattle.tg_canon.proofs.Splits.{set_other, Known, Beside, StaysKnown, KeptBy, kept_first, kept_second, beside_less, Only, only, OutsAre, BacksAre}
use Rattle.tg_canon.proofs.Splits.{outs_more, outs_less, outs_only, backs_more, IsSplit, does_nothing, does_in_turn}
use Rattle.tg_canon.proofs.Sides.{flat_without_effect}
use Rattle.tg_canon.proofs.Helds.{IsIn, IsOwned, owned_both, owned_none, IsHeld, held, move_runs}

-- what a call or service spares: its word is held in front of what follows it
abbrev pub spare : Tx → ℕ
spare (Call _ _) = 2
spare (Service _ _) = 2
spare _ = 0

spare_effect : (x : Tx) → is_effect x ≡ true → spare x ≡ 2
spare_effect (Const _) e = cc
spare_effect (Address _) e = cc
spare_effect (Temp _) e = cc
spare_effect FrameAddress e = cc
spare_effect (Binary _ _ _) e = cc
spare_effect (Load _) e = cc
spare_effect (LoadByte _) e = cc
spare_effect (Call _ _) e = refl
spare_effect (Service _ _) e = refl
spare_effect (After _ _) e = cc

-- a shift by what isn't constant counts most
most : (y : Tx) → shift_units y ≤ 21
most (Const _) = omega arith
most (Address _) = omega arith
most (Temp _) = omega arith
most FrameAddress = omega arith
most (Binary _ _ _) = omega arith
most (Load _) = omega arith
most (LoadByte _) = omega arith
most (Call _ _) = omega arith
most (Service _ _) = omega arith
most (After _ _) = omega arith

shift_most : (x y : Tx) → is_constant x ≡ false → shift_units y ≤ shift_units x
shift_most (Const _) y e = cc
shift_most (Address _) y e = most y
shift_most (Temp _) y e = most y
shift_most FrameAddress y e = most y
shift_most (Binary _ _ _) y e = most y
shift_most (Load _) y e = most y
shift_most (LoadByte _) y e = most y
shift_most (Call _ _) y e = most y
shift_most (Service _ _) y e = most y
shift_most (After _ _) y e = most y

pub units_most : (op : Bin) (x y : Tx) → is_constant x ≡ false → operator_units op y ≤ operator_units op x
units_most Add x y e = omega arith
units_most Sub x y e = omega arith
units_most Mul x y e = omega arith
units_most Div x y e = omega arith
units_most And x y e = omega arith
units_most Or x y e = omega arith
units_most Xor x y e = omega arith
units_most ShiftLeft x y e = shift_most x y e
units_most ShiftRight x y e = shift_most x y e
units_most ShiftSigned x y e = shift_most x y e
units_most AddTrap x y e = omega arith
units_most SubTrap x y e = omega arith
units_most MulHigh x y e = omega arith

constant_flat : (x : Tx) → is_constant x ≡ true → is_flat x ≡ true
constant_flat (Const _) e = refl
constant_flat (Address _) e = refl
constant_flat (Temp _) e = refl
constant_flat FrameAddress e = refl
constant_flat (Binary _ _ _) e = cc
constant_flat (Load _) e = cc
constant_flat (LoadByte _) e = cc
constant_flat (Call _ _) e = cc
constant_flat (Service _ _) e = cc
constant_flat (After _ _) e = cc

not_constant : (x : Tx) → (is_flat x ≡ true → ⊥) → is_constant x ≡ false
not_constant x h = by (is_constant x) refl
  where
    by : (b : Bool) → is_constant x ≡ b → b ≡ false
    by true e = absurd (h (constant_flat x e))
    by false e = refl

steady_flat : (x : Tx) → IsSteady x → IsFlat x
steady_flat (Const _) h = tt
steady_flat (Address _) h = tt
steady_flat (Temp _) h = tt
steady_flat FrameAddress h = tt
steady_flat (Binary _ x y) h = (steady_flat x h.1, tested_flat y (constant_flat y h.2))
steady_flat (Load _) h = absurd h
steady_flat (LoadByte _) h = absurd h
steady_flat (Call _ _) h = absurd h
steady_flat (Service _ _) h = absurd h
steady_flat (After _ _) h = absurd h

pub both_nothing : (s t : Ts) → is_nothing s ≡ true → is_nothing t ≡ true → is_nothing (first_then s t) ≡ true
both_nothing s t p q = ap (λ b. is_nothing (if b then t else if is_nothing t then s else pair s t)) p ∙ q

module _ (z : Scene) where
  -- what is hoisted of an expression; a word
  pub record HoistIs (out : ℕ → ℕ) (x : Tx) (from : ℕ) (a : Hoisted) (to : ℕ) : Type 1 where
    pub split : IsSplit z out (tree_value z x) (spare a.rest) a.front (mixed_value z a.rest) from to
    pub side : IsFlatOrEffect a.rest
    pub none : is_flat x ≡ true → is_nothing a.front.statement ≡ true
    pub plain : is_flat x ≡ true → is_effect a.rest ≡ false
    pub units : (op : Bin) → operator_units op a.rest ≤ operator_units op x
    pub owned : IsOwned z.own a.front.least a.front.greatest
    pub reads : (i : ℕ) → Occurs i a.rest → IsIn z.own from to i
    pub length : size a.front.statement + expression_length Canonical a.rest + spare a.rest ≤ expression_length Trees x
    pub room : takes a.front.statement + expression_needs in_canonical a.rest + 1 + to ≤ expression_needs in_trees x + from
    pub grows : from ≤ to

  pub record WordIs (out : ℕ → ℕ) (x : Tx) (from : ℕ) (a : Hoisted) (to : ℕ) : Type 1 where
    pub split : IsSplit z out (tree_value z x) 0 a.front (mixed_value z a.rest) from to
    pub flat : IsFlat a.rest
    pub none : is_flat x ≡ true → is_nothing a.front.statement ≡ true
    pub units : (op : Bin) → operator_units op a.rest ≤ operator_units op x
    pub owned : IsOwned z.own a.front.least a.front.greatest
    pub reads : (i : ℕ) → Occurs i a.rest → IsIn z.own from to i
    pub length : size a.front.statement + expression_length Canonical a.rest ≤ expression_length Trees x
    pub room : takes a.front.statement + expression_needs in_canonical a.rest + holdable z.own a.rest + to ≤ expression_needs in_trees x + from
    pub grows : from ≤ to

  module _ (out : ℕ → ℕ) (x : Tx) (from : ℕ) (a : Hoisted) (to : ℕ) (above : z.own ≤ from) (l : HoistIs out x from a to) where
    effect_word : (d : Drawn Hoisted) (b : Bool) → is_effect a.rest ≡ b → d ≡ hold_effect b a to →
        WordIs out x from (hold_effect b a to).it (hold_effect b a to).next
    effect_word d false e p = record {
      split = record {
        runs = λ J r act o o' b b' go next kept outs backs hyp.
            l.split.runs J r act o o' b b' go next kept outs backs
            (λ w t t' near. credit z.fuel (r + 0) (r + spare a.rest) _ (next w t') (omega arith) (hyp w t t' near));
      };
      flat = flat_without_effect a.rest e l.side;
      none = l.none;
      units = l.units;
      owned = l.owned;
      reads = l.reads;
      length = let n = l.length in omega arith;
      room = let n = l.room in let m = holdable_most z.own a.rest in omega arith;
      grows = l.grows;
    }
    effect_word d true e p = record {
      split = record {
        runs = λ J r act o o' b b' go next kept outs backs hyp w t t' near.
            along z.fuel r _ _ (then_does z a.front.statement (around act o' b')
            (λ w1 u1. then_does z (Move to a.rest) (around act o' b') next w1 u1) w t') _ refl
            (does_in_turn z a.front.statement (Move to a.rest) (around act o' b') next w t')
            (l.split.runs J r act o o' b b' go (λ w1 u1. then_does z (Move to a.rest) (around act o' b') next w1 u1)
            (kept_first J a.front (still (Move to a.rest)) from (to + 1) from to (omega arith) (omega arith) kept) outs backs
            (λ w1 t1 u1 near1. credit z.fuel (r + 2) (r + spare a.rest) _ _ (let q = spare_effect a.rest e in omega arith)
            (move_runs z a.rest to l.side (let g = l.grows in omega arith) J r act o o' b b' go next
            (kept_second J a.front (still (Move to a.rest)) from (to + 1) to (to + 1) l.grows (omega arith) kept)
            (λ w2 t2 u2 near2. credit z.fuel (r + 0) r _ (next w2 u2) (omega arith) (hyp w2 t2 u2 near2)) w1 t1 u1 near1)) w t t' near);
      };
      flat = tt;
      none = λ f. let p = l.plain f in let q : true ≡ false = sym e ∙ p in cc;
      units = λ op. units_most op x (Temp to) (not_constant x (λ f. let p = l.plain f in let q : true ≡ false = sym e ∙ p in cc));
      owned = owned_both z.own a.front.least a.front.greatest 4294967295 0 l.owned (owned_none z.own);
      reads = λ i o. record { low = λ lo. let g = l.grows in omega (arith, o); high = λ lo. omega (arith, o) };
      length = let n = l.length in let q = spare_effect a.rest e in let c = (in_turn_counts a.front.statement (Move to a.rest)).0 in omega arith;
      room = let n = l.room in let c = (in_turn_counts a.front.statement (Move to a.rest)).1 in
          let d = drawn_held z.own to (let g = l.grows in omega arith) in omega arith;
      grows = let g = l.grows in omega arith;
    }

    pub word_is : WordIs out x from (hold_effect (is_effect a.rest) a to).it (hold_effect (is_effect a.rest) a to).next
    word_is = effect_word (hold_effect (is_effect a.rest) a to) (is_effect a.rest) refl refl

-- A word and then another part.
abbrev pub both_before : (z : Scene) {B : Type 0} (u : ℕ) (x : Tx) (entire : Acts (Go B)) → Acts (Go (ℕ × B))
both_before z u x entire e go w t = charged u (tree_value z x e (λ p w1 t1. entire e (λ q w2 t2. go (p, q) w2 t2) w1 t1) w t)

abbrev pub both_rest : (z : Scene) {B : Type 0} (u : ℕ) (x : Tx) (rest : Acts (Go B)) → Acts (Go (ℕ × B))
both_rest z u x rest e go w t = charged u (mixed_value z x e (λ p w1 t1. rest e (λ q w2 t2. go (p, q) w2 t2) w1 t1) w t)

module _ (z : Scene) {B : Type 0} (out : ℕ → ℕ) (x : Tx) (entire rest : Acts (Go B)) (part : Part) (u v : ℕ) (first : ℕ) where
  pub record PairIs (from : ℕ) (h : Hoisted) (to : ℕ) : Type 1 where
    pub split : IsSplit z out (both_before z u x entire) 0 (h.front before part) (both_rest z v h.rest rest) first to
    pub flat : IsFlat h.rest
    pub none : is_flat x ≡ true → is_nothing part.statement ≡ true → is_nothing (first_then h.front.statement part.statement) ≡ true
    pub owned : IsOwned z.own (min h.front.least part.least) (max h.front.greatest part.greatest)
    pub reads : (i : ℕ) → Occurs i h.rest → IsIn z.own first to i
    pub length : v + (size h.front.statement + expression_length Canonical h.rest) ≤ u + expression_length Trees x
    pub room : takes h.front.statement + expression_needs in_canonical h.rest + to ≤ expression_needs in_trees x + from
    pub grows : first ≤ to

  module _ (from : ℕ) (a : Hoisted) (to : ℕ) (word : WordIs z out x from a to) (other : IsSplit z out entire 0 part rest first from)
      (owned : IsOwned z.own part.least part.greatest) (above : z.own ≤ first) (grows : first ≤ from) where
    -- where nothing is in front of the other part, the word stands in place
    module _ (e : is_nothing part.statement ≡ true) (enough : v ≤ u) where
      module _ (r : ℕ) (act : Activation) (o o' : Out) (b b' : Back) (go : Go (ℕ × B)) (next : Next) (w : World) (t t' : Temps)
          (J : Known) (outs : OutsAre z J r out o o') (backs : BacksAre z r b b') (near : Beside z.own J w t t')
          (hyp : Sim (r + 0) z.fuel (both_rest z v a.rest rest (around act o b) (λ q w1 t1. go q w1 t) w t') (next w t')) where
        in_place : IsFixed (mixed_value z a.rest) (then_value z a.rest) (around act o b) (around act o b) w t' →
            Sim (r + u + 0) z.fuel (mixed_value z a.rest (around act o b) (λ p w1 t1. entire (around act o b) (λ q w2 t2. go (p, q) w2 t2) w1 t) w t')
            (then_does z part.statement (around act o' b') next w t')
        in_place (gives s p g g') =
            let after : Go ℕ = λ p w1 t1. entire (around act o b) (λ q w2 t2. go (p, q) w2 t2) w1 t in
            let rests : Go ℕ = λ p w1 t1. rest (around act o b) (λ q w2 t2. go (p, q) w2 t) w1 t1 in
            along z.fuel (r + u + 0) (charged s (after p w t')) _ _ _ (g after) refl
            (pays z.fuel (r + u + 0) (r + u + s) s (after p w t') _ (omega arith)
            (other.runs (Only w t t') (r + u + s) act o o' b b' (λ q w2 t2. go (p, q) w2 t2) next (λ f. let q : true ≡ false = sym e ∙ f in cc)
            (outs_more z (Only w t t') r (r + u + s) out o o' (omega arith) (outs_only z J r out o o' w t t' near outs))
            (backs_more z r (r + u + s) b b' (omega arith) backs)
            (λ w1 t1 u1 near1. by w1 t1 u1 near1.holds) w t t' (record { agree = near.agree; holds = only })))
          where
            by : (w1 : World) (t1 u1 : Temps) → Only w t t' w1 t1 u1 →
                Sim (r + u + s + 0) z.fuel (rest (around act o b) (λ q w2 t2. go (p, q) w2 t1) w1 u1) (next w1 u1)
            by w1 t1 u1 only =
                let rests : Go ℕ = λ p w1 t1. rest (around act o b) (λ q w2 t2. go (p, q) w2 t) w1 t1 in
                unpaid z.fuel (r + 0 + v) (r + u + s + 0) s (rests p w t') (next w t') (omega arith)
                (along z.fuel (r + 0 + v) _ _ (next w t') _ (sym (g rests)) refl
                (unpaid z.fuel (r + 0) (r + 0 + v) v _ (next w t') (omega arith) hyp))
        in_place (stops s how g g') =
            let after : Go ℕ = λ p w1 t1. entire (around act o b) (λ q w2 t2. go (p, q) w2 t2) w1 t in
            let rests : Go ℕ = λ p w1 t1. rest (around act o b) (λ q w2 t2. go (p, q) w2 t) w1 t1 in
            along z.fuel (r + u + 0) (charged s (over how w)) _ (next w t') _ (g after) (does_nothing z part.statement (around act o' b') next w t' e)
            (credit z.fuel (r + 0 + v) (r + u + 0) (charged s (over how w)) (next w t') (omega arith)
            (along z.fuel (r + 0 + v) _ _ (next w t') _ (sym (g rests)) refl
            (unpaid z.fuel (r + 0) (r + 0 + v) v _ (next w t') (omega arith) hyp)))

      placed_pair : PairIs from a to
      placed_pair = record {
        split = record {
          runs = λ J r act o o' b b' go next kept outs backs hyp w t t' near.
              pays z.fuel r (r + u) u _ _ (omega arith)
              (along z.fuel (r + u) _ _ (then_does z a.front.statement (around act o' b')
              (λ w1 u1. then_does z part.statement (around act o' b') next w1 u1) w t') _ refl
              (does_in_turn z a.front.statement part.statement (around act o' b') next w t')
              (word.split.runs J (r + u) act o o' b b' (λ p w1 t1. entire (around act o b) (λ q w2 t2. go (p, q) w2 t2) w1 t1)
              (λ w1 u1. then_does z part.statement (around act o' b') next w1 u1)
              (kept_first J a.front part first to from to grows (omega arith) kept) (outs_more z J r (r + u) out o o' (omega arith) outs)
              (backs_more z r (r + u) b b' (omega arith) backs)
              (λ w1 t1 u1 near1. in_place r act o o' b b' go next w1 t1 u1 J outs backs near1 (hyp w1 t1 u1 near1)
              (fixed_value z act o o b b w1 u1 a.rest word.flat)) w t t' near));
        };
        flat = word.flat;
        none = λ f g. both_nothing a.front.statement part.statement (word.none f) g;
        owned = owned_both z.own a.front.least a.front.greatest part.least part.greatest word.owned owned;
        reads = λ i o. let h = word.reads i o in record { low = λ lo. let k = h.low lo in omega arith; high = h.high };
        length = let n = word.length in omega arith;
        room = let n = word.room in omega arith;
        grows = let g = word.grows in omega arith;
      }

    -- where something is, the word is held unless it commutes
    module _ (e : is_nothing part.statement ≡ false) (enough : v + 2 ≤ u) (d : Drawn Hoisted) (h : IsHeld z part a.rest from to d.it d.next) where
      -- its temporaries are as they were
      abbrev Then : Known → Temps → Known
      Then J t' w1 t1 u1 = J w1 t1 u1 × ((i : ℕ) → Occurs i d.it.rest → u1 i ≡ t' i)

      then_kept : (J : Known) (t' : Temps) → StaysKnown J part.least part.greatest first from → KeptBy (Then J t') part first from
      then_kept J t' s f = record {
        world = λ w x t1 u1 k. (s.world w x t1 u1 k.0, k.1);
        assigned = λ i n w t1 u1 lo hi k. (
          s.assigned i n w t1 u1 lo hi k.0,
          λ j o. set_other i n u1 j
              (λ q. let l = h.apart j o (omega arith) in omega arith) ∙ k.1 j o,
        );
        drawn = λ i n w t1 u1 lo hi k. (
          s.drawn i n w t1 u1 lo hi k.0,
          λ j o. set_other i n u1 j
              (λ q. let l = (h.reads j o).low (omega arith) in omega arith) ∙ k.1 j o,
        );
      }

      module _ (r : ℕ) (act : Activation) (o o' : Out) (b b' : Back) (go : Go (ℕ × B)) (next : Next) (J : Known)
          (kept : KeptBy J part first from) (outs : OutsAre z J r out o o') (backs : BacksAre z r b b')
          (hyp : (w : World) (t t' : Temps) → Beside z.own J w t t' → Sim (r + 0) z.fuel
          (both_rest z v d.it.rest rest (around act o b) (λ q w1 t1. go q w1 t) w t') (next w t')) where
        behind_it : (w : World) (t t' : Temps) → Beside z.own J w t t' → ComesTo z (around act o b) t' d.it.rest (mixed_value z d.it.rest) w →
            Sim (r + v) z.fuel (mixed_value z d.it.rest (around act o b) (λ p w1 t1. entire (around act o b) (λ q w2 t2. go (p, q) w2 t2) w1 t) w t')
            (then_does z part.statement (around act o' b') next w t')
        behind_it w t t' near (no_word w0 k) =
            simulates_wrong 1 (r + v) z.fuel _ _ (λ n. k (λ p w1 t1. entire (around act o b) (λ q w2 t2. go (p, q) w2 t2) w1 t) n)
        behind_it w t t' near (one_word w0 s p k) =
            let after : Go ℕ = λ p w1 t1. entire (around act o b) (λ q w2 t2. go (p, q) w2 t2) w1 t in
            along z.fuel (r + v) (charged s (after p w t')) _ _ _ (k w t' (λ i q. refl) after) refl
            (pays z.fuel (r + v) (r + v + s) s (after p w t') _ (omega arith)
            (other.runs (Then J t') (r + v + s) act o o' b b' (λ q w2 t2. go (p, q) w2 t2) next (then_kept J t' (kept e))
            (outs_more z (Then J t') r (r + v + s) out o o' (omega arith) (outs_less z J (Then J t') r out o o' (λ w1 t1 u1 q. q.0) outs))
            (backs_more z r (r + v + s) b b' (omega arith) backs)
            (λ w1 t1 u1 near1.
            let rests : Go ℕ = λ p w2 t2. rest (around act o b) (λ q w3 t3. go (p, q) w3 t1) w2 t2 in
            unpaid z.fuel (r + 0 + v) (r + v + s + 0) s (rests p w1 u1) (next w1 u1) (omega arith)
            (along z.fuel (r + 0 + v) _ _ (next w1 u1) _ (sym (k w1 u1 near1.holds.1 rests)) refl
            (unpaid z.fuel (r + 0) (r + 0 + v) v _ (next w1 u1) (omega arith) (hyp w1 t1 u1 (beside_less z.own J (Then J t') w1 t1 u1 (λ q. q.0) near1)))))
            w t t' (record { agree = near.agree; holds = (near.holds, λ i q. refl) })))

      held_pair : PairIs from (behind a.front d.it) d.next
      held_pair = record {
        split = record {
          runs = λ J r act o o' b b' go next kept outs backs hyp w t t' near.
              let e0 = around act o b in
              let e1 = around act o' b' in
              let all : KeptBy J (a.front before d.it.front) from d.next =
              kept_first J (a.front before d.it.front) part first d.next from d.next grows (omega arith) kept in
              pays z.fuel r (r + u) u _ _ (omega arith)
              (along z.fuel (r + u) _ _ (then_does z a.front.statement e1
              (λ w1 u1. then_does z d.it.front.statement e1 (λ w2 u2. then_does z part.statement e1 next w2 u2) w1 u1) w t') _ refl
              (does_in_turn z (first_then a.front.statement d.it.front.statement) part.statement e1 next w t' ∙
              does_in_turn z a.front.statement d.it.front.statement e1 (λ w2 u2. then_does z part.statement e1 next w2 u2) w t')
              (word.split.runs J (r + u) act o o' b b' (λ p w1 t1. entire e0 (λ q w2 t2. go (p, q) w2 t2) w1 t1)
              (λ w1 u1. then_does z d.it.front.statement e1 (λ w2 u2. then_does z part.statement e1 next w2 u2) w1 u1)
              (kept_first J a.front d.it.front from d.next from to (omega arith) h.grows all) (outs_more z J r (r + u) out o o' (omega arith) outs)
              (backs_more z r (r + u) b b' (omega arith) backs)
              (λ w1 t1 u1 near1. credit z.fuel (r + v + 2) (r + u + 0) _ _ (omega arith)
              (h.runs J (r + v) act o o' b b' (λ p w1 t1. entire e0 (λ q w2 t2. go (p, q) w2 t2) w1 t1) (λ w2 u2. then_does z part.statement e1 next w2 u2)
              (kept_second J a.front d.it.front from d.next to d.next word.grows (omega arith) all)
              (λ w2 t2 u2 near2. behind_it r act o o' b b' go next J
              (kept_second J (a.front before d.it.front) part first d.next first from (omega arith)
              (let g = word.grows in let g' = h.grows in omega arith) kept) outs backs hyp
              w2 t2 u2 near2 (steady_comes z e0 w2 u2 d.it.rest h.steady)) w1 t1 u1 near1)) w t t' near));
        };
        flat = steady_flat d.it.rest h.steady;
        none = λ f g. let q : true ≡ false = sym g ∙ e in cc;
        owned = owned_both z.own (min a.front.least d.it.front.least) (max a.front.greatest d.it.front.greatest) part.least part.greatest
            (owned_both z.own a.front.least a.front.greatest d.it.front.least d.it.front.greatest word.owned h.owned) owned;
        reads = λ i o. let k = h.reads i o in record { low = λ lo. let l = k.low lo in omega arith; high = k.high };
        length = let n = word.length in let n' = h.length in let c = (in_turn_counts a.front.statement d.it.front.statement).0 in omega arith;
        room = let n = word.room in let n' = h.room in let c = (in_turn_counts a.front.statement d.it.front.statement).1 in omega arith;
        grows = let g = word.grows in let g' = h.grows in omega arith;
      }

    pair_by : (b : Bool) → is_nothing part.statement ≡ b → (b ≡ true → v ≤ u) → (b ≡ false → v + 2 ≤ u) →
        PairIs from (hold_before b part a to).it (hold_before b part a to).next
    pair_by true e f g = placed_pair e (f refl)
    pair_by false e f g =
        held_pair e (g refl) (hold_for part a.rest to) (held z part owned from to (let k = grows in omega arith) word.grows a.rest word.flat word.reads)

    pub pair_is : (is_nothing part.statement ≡ true → v ≤ u) → (is_nothing part.statement ≡ false → v + 2 ≤ u) →
        PairIs from (in_front_of part a to).it (in_front_of part a to).next
    pair_is f g = pair_by (is_nothing part.statement) refl f g
