-- Statements that are done by parts, construct by construct.
use Rattle.std.proofs.Common.{◌≡◌, ℕ, zero, suc, ◌+◌, ◌≤◌, Bool, true, false, Option, Some, None, if◌then◌else◌, refl, sym, ap, ◌∙◌, arith}
use Rattle.tg_machine_state.specs.declared.ends.RunEnd.TheVariants.{Break as Broken}
use Rattle.tg_simulation.specs.Ran.{Ended, Wrong}
use Rattle.tg_simulation.proofs.Simulations.{simulates_stopping, simulates_wrong}
use Rattle.tg_tree.specs.Tree.{Tx, Const, Address, Temp, FrameAddress, Binary, Load, LoadByte, Call, Service, After, Cond, Ts, Move, Do, If, Loop}
use Rattle.tg_tree.specs.Tree.{Break, Fault, Seq, Return, Stms, no_stms, stm}
use Rattle.tg_tree.specs.Memory.{Memory}
use Rattle.tg_tree.specs.Units.{Trees, Canonical}
use Rattle.tg_tree.specs.Shapes.{IsFlat, IsFlatCond}
use Rattle.tg_tree.specs.Actions.{World, Temps, set_temp, Activation, Around, Acts, Go, Next, Out, Back, ◌>>◌, charged, pay, with_memory, leaving}
use Rattle.tg_tree.specs.Meaning.{run_all}
use Rattle.tg_canon.specs.mirror.Canon.{Part, still, assigning, is_nothing, nothing, as_part, ◌before◌, loop_of, Parts, no_parts, in_front, in_turn, Hoisted}
use Rattle.tg_canon.specs.mirror.Canon.{is_effect, acts, dropped, Tested, choice, inside}
use Rattle.tg_canon.proofs.Paying.{Sim, trade, pays, worked, unpaid, credit, along}
use Rattle.tg_canon.proofs.Fixed.{Scene, around, tree_value, tree_test, tree_does, mixed_value, mixed_test, then_value, then_test, then_does}
use Rattle.tg_canon.proofs.Fixed.{fixed_value, fixed_test}
use Rattle.tg_canon.proofs.Steady.{IsQuiet, quiet_word, quiet_wrong, quiet_value}
use Rattle.tg_canon.proofs.Splits.{Known, Beside, KeptBy, kept_within, kept_first, kept_second, beside_world, beside_assigned, OutsAre, BacksAre}
use Rattle.tg_canon.proofs.Splits.{outs_more, backs_more, IsSplit, IsDone, does_nothing, does_in_turn}
use Rattle.tg_canon.proofs.Sides.{flat_or_effect, flat_without_effect}
use Rattle.tg_canon.proofs.Helds.{fixed_runs, effect_runs}
use Rattle.tg_canon.proofs.Words.{spare, HoistIs, WordIs, both_before, both_rest, PairIs}

no_effect : (x : Tx) → acts x ≡ false → is_effect x ≡ false
no_effect (Const _) e = refl
no_effect (Address _) e = refl
no_effect (Temp _) e = refl
no_effect FrameAddress e = refl
no_effect (Binary _ _ _) e = refl
no_effect (Load _) e = refl
no_effect (LoadByte _) e = refl
no_effect (Call _ _) e = cc
no_effect (Service _ _) e = cc
no_effect (After _ _) e = refl

module _ (z : Scene) (out : ℕ → ℕ) where
  -- a statement, and then what is split
  pub after_split : {B : Type 0} (s : Ts) (p : Part) (entire rest : Acts (Go B)) (extra : ℕ) (front : Part) (first from to : ℕ) →
      IsSplit z out entire extra front rest first from → IsDone z out (tree_does z s) p from to → first ≤ from → from ≤ to →
      IsSplit z out (pay 0 >> (tree_does z s >> entire)) extra (p before front) rest first to
  after_split s p entire rest extra front first from to split done lo hi = record {
    runs = λ J r a o o' b b' go next kept outs backs hyp w t t' near.
        pays z.fuel r r 0 _ _ (omega arith)
        (along z.fuel r _ _ (then_does z p.statement (around a o' b') (λ w1 u1. then_does z front.statement (around a o' b') next w1 u1) w t') _ refl
        (does_in_turn z p.statement front.statement (around a o' b') next w t')
        (done.runs J r a o o' b b' (λ w1 t1. entire (around a o b) go w1 t1) (λ w1 u1. then_does z front.statement (around a o' b') next w1 u1)
        (kept_first J p front first to from to lo (omega arith) kept) outs backs
        (λ w1 t1 u1 near1. split.runs J r a o o' b b' go next
        (kept_second J p front first to first from (omega arith) hi kept) outs backs hyp w1 t1 u1 near1) w t t' near));
  }

  -- what is split pays for itself
  pub paid_split : {B : Type 0} (entire rest : Acts (Go B)) (extra less : ℕ) (front : Part) (from to u v : ℕ) → v + less ≤ u + extra →
      IsSplit z out entire extra front rest from to → IsSplit z out (pay u >> entire) less front (pay v >> rest) from to
  paid_split entire rest extra less front from to u v le split = record {
    runs = λ J r a o o' b b' go next kept outs backs hyp w t t' near.
        pays z.fuel r (r + u) u _ _ (omega arith)
        (split.runs J (r + u) a o o' b b' go next kept (outs_more z J r (r + u) out o o' (omega arith) outs) (backs_more z r (r + u) b b' (omega arith) backs)
        (λ w1 t1 u1 near1. unpaid z.fuel (r + less) (r + u + extra) v _ (next w1 u1) (omega arith) (hyp w1 t1 u1 near1)) w t t' near);
  }

  -- A last part does something with what the rest gives.
  pub closes : {B : Type 0} (entire rest rest' : Acts (Go B)) (extra : ℕ) (front last : Part) (from to : ℕ) (end : B → Acts Next) →
      IsSplit z out entire extra front rest from to → from ≤ to →
      ((e : Around) (next : Next) (w : World) (t : Temps) → then_does z last.statement e next w t ≡ rest' e (λ v w1 t1. end v e next w1 t1) w t) →
      ((r : ℕ) (a : Activation) (o o' : Out) (b b' : Back) (w : World) (t : Temps) (g g' : Go B) →
      ((v : B) (w1 : World) → Sim r z.fuel (g v w1 t) (g' v w1 t)) → Sim r z.fuel (rest (around a o b) g w t) (rest' (around a o' b') g' w t)) →
      ((J : Known) (r : ℕ) (a : Activation) (o o' : Out) (b b' : Back) (next next' : Next) → KeptBy J last to to → OutsAre z J r out o o' → BacksAre z r b b' →
      ((w : World) (t t' : Temps) → Beside z.own J w t t' → Sim r z.fuel (next w t) (next' w t')) →
      (v : B) (w w1 : World) (t t' : Temps) → Beside z.own J w t t' → Sim r z.fuel (end v (around a o b) next w1 t) (end v (around a o' b') next' w1 t')) →
      IsDone z out (λ e next w t. entire e (λ v w1 t1. end v e next w1 t1) w t) (front before last) from to
  closes entire rest rest' extra front last from to end split grows does rests ends = record {
    runs = λ J r a o o' b b' next next' kept outs backs nexts w t t' near.
        along z.fuel r _ _ (then_does z front.statement (around a o' b') (λ w1 u1. then_does z last.statement (around a o' b') next' w1 u1) w t') _ refl
        (does_in_turn z front.statement last.statement (around a o' b') next' w t')
        (split.runs J r a o o' b b' (λ v w1 t1. end v (around a o b) next w1 t1) (λ w1 u1. then_does z last.statement (around a o' b') next' w1 u1)
        (kept_first J front last from to from to (omega arith) (omega arith) kept) outs backs
        (λ w1 t1 u1 near1. credit z.fuel r (r + extra) _ _ (omega arith)
        (along z.fuel r _ _ (rest' (around a o' b') (λ v w2 t2. end v (around a o' b') next' w2 t2) w1 u1) _ refl (does (around a o' b') next' w1 u1)
        (rests r a o o' b b' w1 u1 (λ v w2 t2. end v (around a o b) next w2 t1) (λ v w2 t2. end v (around a o' b') next' w2 t2)
        (λ v w2. ends J r a o o' b b' next next' (kept_second J front last from to to to grows
        (omega arith) kept) outs backs nexts v w1 w2 t1 u1 near1)))) w t t' near);
  }

  -- Moves, returns and what isn't wanted, of what is hoisted.
  module _ (x : Tx) (from : ℕ) (a : Hoisted) (to : ℕ) (l : HoistIs z out x from a to) where
    sides : (k : ℕ) (r : ℕ) (act : Activation) (o o' : Out) (b b' : Back) (w : World) (t : Temps) (g g' : Go ℕ) →
        ((v : ℕ) (w1 : World) → Sim r z.fuel (g v w1 t) (g' v w1 t)) →
        Sim r z.fuel ((pay k >> mixed_value z a.rest) (around act o b) g w t) ((pay k >> then_value z a.rest) (around act o' b') g' w t)
    sides k r act o o' b b' w t g g' h = trade z.fuel r r k k _ _ (omega arith) (effect_runs z r act o o' b b' w t g g' h a.rest l.side)

    pub move_done : (i : ℕ) → IsDone z out (tree_does z (Move i x)) (a.front before assigning i (Move i a.rest)) from to
    move_done i =
        closes (pay 2 >> tree_value z x) (pay 2 >> mixed_value z a.rest) (pay 2 >> then_value z a.rest) (spare a.rest) a.front
        (assigning i (Move i a.rest)) from to (λ v e next w t. next w (set_temp i v t))
        (paid_split (tree_value z x) (mixed_value z a.rest) (spare a.rest) (spare a.rest) a.front from to 2 2 (omega arith) l.split) l.grows
        (λ e next w t. refl) (sides 2)
        (λ J r act o o' b b' next next' kept outs backs nexts v w w1 t t' near. nexts w1 (set_temp i v t) (set_temp i v t')
        (beside_assigned z.own J i v w1 t t' i i to to (kept refl) (omega arith) (omega arith) (beside_world z.own J w w1 t t' i i to to (kept refl) near)))

    do_done : IsDone z out (tree_does z (Do x)) (a.front before still (Do a.rest)) from to
    do_done =
        closes (pay 0 >> tree_value z x) (pay 0 >> mixed_value z a.rest) (pay 0 >> then_value z a.rest) (spare a.rest) a.front (still (Do a.rest)) from to
        (λ v e next w t. next w t)
        (paid_split (tree_value z x) (mixed_value z a.rest) (spare a.rest) (spare a.rest) a.front from to 0 0 (omega arith) l.split) l.grows
        (λ e next w t. refl) (sides 0)
        (λ J r act o o' b b' next next' kept outs backs nexts v w w1 t t' near. nexts w1 t t'
        (beside_world z.own J w w1 t t' 4294967295 0 to to (kept refl) near))

    -- a word that isn't wanted, of an expression that does nothing else
    quiet_done : acts a.rest ≡ false → IsDone z out (tree_does z (Do x)) (a.front before still nothing) from to
    quiet_done e = record {
      runs = λ J r act o o' b b' next next' kept outs backs nexts w t t' near.
          pays z.fuel r r 0 _ _ (omega arith)
          (along z.fuel r _ _ (then_does z a.front.statement (around act o' b') (λ w1 u1. then_does z nothing (around act o' b') next' w1 u1) w t') _ refl
          (does_in_turn z a.front.statement nothing (around act o' b') next' w t')
          (l.split.runs J r act o o' b b' (λ v w1 t1. next w1 t1) (λ w1 u1. then_does z nothing (around act o' b') next' w1 u1)
          (kept_first J a.front (still nothing) from to from to (omega arith) (omega arith) kept) outs backs
          (λ w1 t1 u1 near1. credit z.fuel r (r + spare a.rest) _ _ (omega arith)
          (along z.fuel r _ _ (next' w1 u1) _ refl (does_nothing z nothing (around act o' b') next' w1 u1 refl)
          (by r (around act o b) w1 t1 u1 next next' (nexts w1 t1 u1 near1)
          (quiet_value z (around act o b) w1 u1 a.rest (flat_without_effect a.rest (no_effect a.rest e) l.side) e)))) w t t' near));
    }
      where
        by : (r : ℕ) (e0 : Around) (w : World) (t t' : Temps) (next next' : Next) → Sim r z.fuel (next w t) (next' w t') →
            IsQuiet (mixed_value z a.rest) e0 w t' → Sim r z.fuel (mixed_value z a.rest e0 (λ v w1 t1. next w1 t) w t') (next' w t')
        by r e0 w t t' next next' h (quiet_word s v p) =
            along z.fuel r (charged s (next w t)) _ (next' w t') _ (p (λ v w1 t1. next w1 t)) refl (pays z.fuel r r s (next w t) (next' w t') (omega arith) h)
        by r e0 w t t' next next' h (quiet_wrong k) = simulates_wrong 1 r z.fuel _ _ (λ n. k (λ v w1 t1. next w1 t) n)

    dropped_by : (b : Bool) → acts a.rest ≡ b → IsDone z out (tree_does z (Do x)) (a.front before still (if b then Do a.rest else nothing)) from to
    dropped_by true e = do_done
    dropped_by false e = quiet_done e

    pub dropped_done : IsDone z out (tree_does z (Do x)) (a.front before dropped a.rest) from to
    dropped_done = dropped_by (acts a.rest) refl

  -- A word is returned.
  pub return_done : (x : Tx) (from : ℕ) (a : Hoisted) (to : ℕ) → WordIs z out x from a to →
      IsDone z out (tree_does z (Return x)) (a.front before still (Return a.rest)) from to
  return_done x from a to l =
      closes (pay 16 >> tree_value z x) (pay 16 >> mixed_value z a.rest) (pay 16 >> then_value z a.rest) 0 a.front (still (Return a.rest)) from to
      (λ v e next w t. e.back v w)
      (paid_split (tree_value z x) (mixed_value z a.rest) 0 0 a.front from to 16 16 (omega arith) l.split) l.grows (λ e next w t. refl)
      (λ r act o o' b b' w t g g' h. trade z.fuel r r 16 16 _ _ (omega arith) (effect_runs z r act o o' b b' w t g g' h a.rest (flat_or_effect a.rest l.flat)))
      (λ J r act o o' b b' next next' kept outs backs nexts v w w1 t t' near. backs v w1)

  -- Two words are stored.
  module _ (x y : Tx) (from middle : ℕ) (h b : Hoisted) (to u v : ℕ)
      (pairs : PairIs z out x (tree_value z y) (mixed_value z b.rest) b.front u v from middle h to) (flat : IsFlat b.rest) where
    abbrev both_then : Acts (Go (ℕ × ℕ))
    both_then e go w t = charged v (then_value z h.rest e (λ p w1 t1. then_value z b.rest e (λ q w2 t2. go (p, q) w2 t2) w1 t1) w t)

    both_runs : (r : ℕ) (a : Activation) (o o' : Out) (c c' : Back) (w : World) (t : Temps) (g g' : Go (ℕ × ℕ)) →
        ((q : ℕ × ℕ) (w1 : World) → Sim r z.fuel (g q w1 t) (g' q w1 t)) →
        Sim r z.fuel (both_rest z v h.rest (mixed_value z b.rest) (around a o c) g w t) (both_then (around a o' c') g' w t)
    both_runs r a o o' c c' w t g g' does =
        trade z.fuel r r v v _ _ (omega arith)
        (fixed_runs z r a o o' c c' w t (mixed_value z h.rest) (then_value z h.rest)
        (λ p w1 t1. mixed_value z b.rest (around a o c) (λ q w2 t2. g (p, q) w2 t2) w1 t1)
        (λ p w1 t1. then_value z b.rest (around a o' c') (λ q w2 t2. g' (p, q) w2 t2) w1 t1)
        (fixed_value z a o o' c c' w t h.rest pairs.flat)
        (λ p. fixed_runs z r a o o' c c' w t (mixed_value z b.rest) (then_value z b.rest) (λ q w2 t2. g (p, q) w2 t2) (λ q w2 t2. g' (p, q) w2 t2)
        (fixed_value z a o o' c c' w t b.rest flat) (λ q. does (p, q) w)))

    stored : (J : Known) (r : ℕ) (next next' : Next) (w1 : World) (t t' : Temps) → ((w2 : World) → Sim r z.fuel (next w2 t) (next' w2 t')) →
        (o : Option Memory) → Sim r z.fuel (with_memory o w1 (λ w2. next w2 t)) (with_memory o w1 (λ w2. next' w2 t'))
    stored J r next next' w1 t t' nexts None = simulates_stopping 1 r z.fuel w1.input Wrong
    stored J r next next' w1 t t' nexts (Some m) = nexts (record w1 { memory = m })

    pub stores_done : (put : Memory → ℕ → ℕ → Option Memory) (last : Ts) → is_nothing last ≡ false →
        ((e : Around) (next : Next) (w : World) (t : Temps) → then_does z last e next w t ≡ both_then e
        (λ q w1 t1. with_memory (put w1.memory q.0 q.1) w1 (λ w2. next w2 t1)) w t) →
        IsDone z out (λ e next w t. both_before z u x (tree_value z y) e (λ q w1 t1. with_memory (put w1.memory q.0 q.1) w1 (λ w2. next w2 t1)) w t)
        (h.front before b.front before still last) from to
    stores_done put last some is =
        closes (both_before z u x (tree_value z y)) (both_rest z v h.rest (mixed_value z b.rest)) both_then 0 (h.front before b.front) (still last) from to
        (λ q e next w1 t1. with_memory (put w1.memory q.0 q.1) w1 (λ w2. next w2 t1))
        pairs.split pairs.grows is both_runs
        (λ J r a o o' c c' next next' kept outs backs nexts q w w1 t t' near. stored J r next next' w1 t t'
        (λ w2. nexts w2 t t' (beside_world z.own J w w2 t t' 4294967295 0 to to (kept some) near)) (put w1.memory q.0 q.1))

  -- One of two statements.
  module _ (c : Cond) (s t : Ts) (test : Tested) (p q : Part) (first k l to : ℕ) (flat : IsFlatCond test.condition)
      (split : IsSplit z out (tree_test z c) 0 test.front (mixed_test z test.condition) l to)
      (this : IsDone z out (tree_does z s) p k l) (other : IsDone z out (tree_does z t) q first k) (lo : first ≤ k) (mid : k ≤ l) (hi : l ≤ to) where
    abbrev chosen : Part
    chosen = as_part p q (If test.condition p.statement q.statement)

    chosen_runs : (J : Known) (r : ℕ) (a : Activation) (o o' : Out) (b b' : Back) (next next' : Next) → KeptBy J chosen first to → OutsAre z J r out o o' →
        BacksAre z r b b' →
        ((w : World) (u u' : Temps) → Beside z.own J w u u' → Sim r z.fuel (next w u) (next' w u')) →
        (w : World) (u u' : Temps) → Beside z.own J w u u' → (d : Bool) →
        Sim r z.fuel ((if d then tree_does z s else tree_does z t) (around a o b) next w u)
        ((if d then then_does z p.statement else then_does z q.statement) (around a o' b') next' w u')
    chosen_runs J r a o o' b b' next next' kept outs backs nexts w u u' near true =
        this.runs J r a o o' b b' next next' (kept_within J p chosen first to k l (λ e. refl) (omega arith)
        (omega arith) lo hi kept) outs backs nexts w u u' near
    chosen_runs J r a o o' b b' next next' kept outs backs nexts w u u' near false =
        other.runs J r a o o' b b' next next' (kept_within J q chosen first to first k (λ e. refl) (omega arith) (omega arith) (omega arith)
        (omega arith) kept) outs backs nexts w u u' near

    pub choice_done : IsDone z out (tree_does z (If c s t)) (choice test p q) first to
    choice_done = record {
      runs = λ J r a o o' b b' next next' kept outs backs nexts w u u' near.
          let e0 = around a o b in
          let e1 = around a o' b' in
          pays z.fuel r (r + 4) 4 _ _ (omega arith)
          (along z.fuel (r + 4) _ _ (then_does z test.front.statement e1 (λ w1 u1. then_does z chosen.statement e1 next' w1 u1) w u') _ refl
          (does_in_turn z test.front.statement chosen.statement e1 next' w u')
          (split.runs J (r + 4) a o o' b b' (λ d w1 t1. (if d then tree_does z s else tree_does z t) e0 next w1 t1)
          (λ w1 u1. then_does z chosen.statement e1 next' w1 u1)
          (kept_first J test.front chosen first to l to (omega arith) (omega arith) kept) (outs_more z J r (r + 4) out o o' (omega arith) outs)
          (backs_more z r (r + 4) b b' (omega arith) backs)
          (λ w1 t1 u1 near1. worked z.fuel (r + 4 + 0) r 4 _ _ (omega arith)
          (fixed_runs z r a o o' b b' w1 u1 (mixed_test z test.condition) (then_test z test.condition)
          (λ d w2 t2. (if d then tree_does z s else tree_does z t) e0 next w2 t1)
          (λ d w2 t2. (if d then then_does z p.statement else then_does z q.statement) e1 next' w2 t2)
          (fixed_test z a o o' b b' w1 u1 test.condition flat)
          (λ d. chosen_runs J r a o o' b b' next next' (kept_second J test.front chosen first to first to (omega arith)
          (omega arith) kept) outs backs nexts w1 t1 u1 near1 d))) w u u' near));
    }

  -- A break, and a fault.
  pub break_done : (k from : ℕ) → IsDone z out (tree_does z (Break k)) (still (Break (out k))) from from
  break_done k from = record {
    runs = λ J r a o o' b b' next next' kept outs backs nexts w t t' near. trade z.fuel r r 3 3 _ _ (omega arith) (outs k w t t' near);
  }

  pub fault_done : (k from : ℕ) → IsDone z out (tree_does z (Fault k)) (still (Fault k)) from from
  fault_done k from = record {
    runs = λ J r a o o' b b' next next' kept outs backs nexts w t t' near. trade z.fuel r r 3 3 _ _ (omega arith)
        (simulates_stopping 1 r z.fuel w.input (Ended (Broken k)));
  }

  -- Statements in turn.
  abbrev pub tree_all : Stms → Acts Next
  tree_all ss = run_all Trees z.room z.literals z.enter z.later ss

  abbrev pub then_all : Stms → Acts Next
  then_all ss = run_all Canonical z.room z.literals z.enter' z.later' ss

  pub record AllDone (ss : Stms) (all : Parts) (from to : ℕ) : Type 1 where
    pub runs :
        (J : Known) (r : ℕ) (a : Activation) (o o' : Out) (b b' : Back) (next next' : Next) →
        KeptBy J (in_turn all) from to → OutsAre z J r out o o' → BacksAre z r b b' →
        ((w : World) (t t' : Temps) → Beside z.own J w t t' → Sim r z.fuel (next w t) (next' w t')) →
        (w : World) (t t' : Temps) → Beside z.own J w t t' → Sim r z.fuel (tree_all ss (around a o b) next w t) (then_all all.list (around a o' b') next' w t')

  pub none_done : (from : ℕ) → AllDone no_stms no_parts from from
  none_done from = record { runs = λ J r a o o' b b' next next' kept outs backs nexts w t t' near. nexts w t t' near }

  module _ (s : Ts) (ss : Stms) (p : Part) (all : Parts) (first from to : ℕ) (done : IsDone z out (tree_does z s) p from to)
      (rest : AllDone ss all first from) (lo : first ≤ from) (hi : from ≤ to) where
    abbrev with_it : Bool → Stms
    with_it b = if b then all.list else stm p.statement all.list

    some_first : (b : Bool) → is_nothing p.statement ≡ b → is_nothing p.statement ≡ false → is_nothing (Seq (with_it b)) ≡ false
    some_first true e f = let g : true ≡ false = sym e ∙ f in cc
    some_first false e f = refl

    some_rest : (b : Bool) → is_nothing (Seq all.list) ≡ false → is_nothing (Seq (with_it b)) ≡ false
    some_rest true f = f
    some_rest false f = refl

    listed : (b : Bool) → is_nothing p.statement ≡ b → (e : Around) (next : Next) (w : World) (t : Temps) →
        then_all (with_it b) e next w t ≡ then_does z p.statement e (λ w1 t1. then_all all.list e next w1 t1) w t
    listed true q e next w t = sym (does_nothing z p.statement e (λ w1 t1. then_all all.list e next w1 t1) w t q)
    listed false q e next w t = refl

    pub more_done : AllDone (stm s ss) (in_front p all) first to
    more_done = record {
      runs = λ J r a o o' b b' next next' kept outs backs nexts w t t' near.
          let q = is_nothing p.statement in
          along z.fuel r _ _ (then_does z p.statement (around a o' b') (λ w1 t1. then_all all.list (around a o' b') next' w1 t1) w t') _ refl
          (listed q refl (around a o' b') next' w t')
          (done.runs J r a o o' b b' (λ w1 t1. tree_all ss (around a o b) next w1 t1) (λ w1 t1. then_all all.list (around a o' b') next' w1 t1)
          (kept_within J p (in_turn (in_front p all)) first to from to (some_first q refl) (omega arith) (omega arith) lo (omega arith) kept) outs backs
          (λ w1 t1 u1 near1. rest.runs J r a o o' b b' next next'
          (kept_within J (in_turn all) (in_turn (in_front p all)) first to first from (some_rest q) (omega arith) (omega arith)
          (omega arith) hi kept) outs backs nexts w1 t1 u1 near1) w t t' near);
    }

  pub sequence_done : (ss : Stms) (all : Parts) (from to : ℕ) → AllDone ss all from to → IsDone z out (tree_does z (Seq ss)) (in_turn all) from to
  sequence_done ss all from to h = record {
    runs = λ J r a o o' b b' next next' kept outs backs nexts w t t' near. trade z.fuel r r 0 0 _ _ (omega arith)
        (h.runs J r a o o' b b' next next' kept outs backs nexts w t t' near);
  }

  -- A loop, where going on from its head does what it did.
  abbrev pub GoesOn : Ts → Part → (from to : ℕ) → Type 1
  GoesOn s p from to =
      (J : Known) (r : ℕ) (a : Activation) (o o' : Out) (b b' : Back) (next next' : Next) →
      KeptBy J (loop_of p) from to → OutsAre z J r out o o' → BacksAre z r b b' →
      ((w : World) (t t' : Temps) → Beside z.own J w t t' → Sim r z.fuel (next w t) (next' w t')) →
      (w : World) (t t' : Temps) → Beside z.own J w t t' →
      Sim r z.fuel (z.later (record { statement = Loop s; around = around a o b; next = next; world = w; temps = t }))
      (z.later' (record { statement = Loop p.statement; around = around a o' b'; next = next'; world = w; temps = t' }))

pub leaving_more : (next : Next) (o : Out) (k : ℕ) → leaving next o (k + 1) ≡ o k
leaving_more next o k = let e : k + 1 ≡ suc k = omega arith in ap (leaving next o) e

pub outs_inside : (z : Scene) (out : ℕ → ℕ) (J : Known) (r : ℕ) (o o' : Out) (next next' : Next) → OutsAre z J r out o o' →
    ((w : World) (t t' : Temps) → Beside z.own J w t t' → Sim r z.fuel (next w t) (next' w t')) →
    OutsAre z J r (inside out) (leaving next o) (leaving next' o')
outs_inside z out J r o o' next next' outs nexts zero w t t' near = nexts w t t' near
outs_inside z out J r o o' next next' outs nexts (suc k) w t t' near =
    along z.fuel r (o k w t) _ (o' (out k) w t') _ refl (ap (λ (n : Next). n w t') (leaving_more next' o' (out k))) (outs k w t t' near)

pub loop_done : (z : Scene) (out : ℕ → ℕ) (s : Ts) (p : Part) (from to : ℕ) → IsDone z (inside out) (tree_does z s) p from to → GoesOn z out s p from to →
    IsDone z out (tree_does z (Loop s)) (loop_of p) from to
loop_done z out s p from to done again = record {
  runs = λ J r a o o' b b' next next' kept outs backs nexts w t t' near.
      trade z.fuel r r 4 4 _ _ (omega arith)
      (done.runs J r a (leaving next o) (leaving next' o') b b'
      (λ w1 t1. z.later (record { statement = Loop s; around = around a o b; next = next; world = w1; temps = t1 }))
      (λ w1 t1. z.later' (record { statement = Loop p.statement; around = around a o' b'; next = next'; world = w1; temps = t1 }))
      (kept_within J p (loop_of p) from to from to (λ e. refl) (omega arith) (omega arith) (omega arith) (omega arith) kept)
      (outs_inside z out J r o o' next next' outs nexts) backs
      (λ w1 t1 u1 near1. again J r a o o' b b' next next' kept outs backs nexts w1 t1 u1 near1) w t t' near);
}
