-- Each construct is carried, by one induction over trees.
use Rattle.std.proofs.Common.{◌≡◌, ⊎_elim, ℕ, ◌+◌, ◌-◌, ◌<◌, ◌≤◌, min, max, [], ◌∷◌, Bool, true, false, not, ◌&&◌, if◌then◌else◌, refl, sym, ap, ◌∙◌, arith}
use Rattle.std.proofs.lemmas.Bool.{ltb-true}
use Rattle.tg_tree.specs.declared.operators.Bin.{Bin}
use Rattle.tg_tree.specs.declared.operators.Rel.{Rel}
use Rattle.tg_tree.specs.Tree.{Tx, Const, Address, Temp, FrameAddress, Binary, Load, LoadByte, Call, Service, After, Txs, no_txs, tx, Cond, Compare}
use Rattle.tg_tree.specs.Tree.{Not, Both, Either, Ts, Move, Store, StoreByte, Do, If, Loop, Break, Fault, Seq, Return, Stms, no_stms, stm}
use Rattle.tg_tree.specs.Operators.{operate}
use Rattle.tg_tree.specs.Memory.{load, load_byte, store, store_byte}
use Rattle.tg_tree.specs.Units.{Trees, Canonical, hoisted_units, operator_units, argument_units}
use Rattle.tg_tree.specs.Sizes.{expression_length, arguments_length, statement_length, statements_length, expression_needs, arguments_needs}
use Rattle.tg_tree.specs.Sizes.{statement_needs, statements_needs, in_trees, in_canonical}
use Rattle.tg_tree.specs.Shapes.{IsFlat, AreFlat, is_flat, are_flat, is_flat_condition}
use Rattle.tg_tree.specs.Actions.{World, Temps, Around, Acts, Go, charged, with_word, with_given, read_memory, ask, give as acts_give}
use Rattle.tg_tree.proofs.NamesPassing.{TxPasses, TxsPass, CondPasses, TsPasses, StmsPass}
use Rattle.tg_canon.specs.mirror.Drawing.{Draws, Drawn, give, ◌>>=◌}
use Rattle.tg_canon.specs.mirror.Canon.{Part, still, nothing, is_nothing, first_then, ◌before◌, Parts, in_front, Hoisted, Arguments, no_arguments, whole}
use Rattle.tg_canon.specs.mirror.Canon.{is_effect, word, in_front_of, acts, dropped, is_whole, choice, wide_choice, deeper, inside, choose, hoist, hoist_all}
use Rattle.tg_canon.specs.mirror.Canon.{condition, leave, linear, linear_all}
use Rattle.tg_canon.proofs.Naming.{IsBelow}
use Rattle.tg_canon.proofs.Growing.{in_front_grows}
use Rattle.tg_canon.proofs.Sizing.{size, takes, in_turn_counts}
use Rattle.tg_canon.proofs.Paying.{pays, unpaid, credit, along}
use Rattle.tg_canon.proofs.Fixed.{Scene, around, tree_value, tree_values, tree_test, tree_does, mixed_value, mixed_values}
use Rattle.tg_canon.proofs.Steady.{Occurs}
use Rattle.tg_canon.proofs.Splits.{outs_more, backs_more, IsSplit, IsDone, does_nothing}
use Rattle.tg_canon.proofs.Sides.{flat_or_effect}
use Rattle.tg_canon.proofs.Helds.{IsOwned, owned_both, owned_none, owned_one}
use Rattle.tg_canon.proofs.Words.{spare, units_most, HoistIs, WordIs, word_is, PairIs, pair_is}
use Rattle.tg_canon.proofs.Dones.{after_split, move_done, dropped_done, return_done, stores_done, choice_done, break_done, fault_done, AllDone}
use Rattle.tg_canon.proofs.Dones.{none_done, more_done, sequence_done, GoesOn, loop_done}
use Rattle.tg_canon.proofs.Tests.{TestIs, not_is, and_is, or_is, compare_is, JoinsPay, extra, extra_there, LeftIs, exit_left, chain_left, block_left}
use Rattle.tg_canon.proofs.Tests.{left_opposite, wide_done}

both_true : (a b : Bool) → (a && b) ≡ true → (a ≡ true) × (b ≡ true)
both_true true b e = (refl, e)
both_true false b e = cc

-- what is hoisted in front of a part that isn't flat is counted
hoisted_counts : (part flat : Bool) → (flat ≡ true → part ≡ true) → part ≡ false → hoisted_units Trees flat ≡ 2
hoisted_counts part true h e = let g : true ≡ false = sym (h refl) ∙ e in cc
hoisted_counts part false h e = refl

-- what isn't wanted, and what is put in front of a list
dropped_counts : (x : Tx) → (size (dropped x).statement ≤ expression_length Canonical x) × (takes (dropped x).statement ≤ expression_needs in_canonical x)
dropped_counts x = by (acts x)
  where
    by : (b : Bool) →
        (size (if b then Do x else nothing) ≤ expression_length Canonical x) × (takes (if b then Do x else nothing) ≤ expression_needs in_canonical x)
    by true = (omega arith, omega arith)
    by false = (omega arith, omega arith)

in_front_counts : (p : Part) (all : Parts) →
    (statements_length Canonical (in_front p all).list ≤ size p.statement + statements_length Canonical all.list) ×
    (statements_needs in_canonical (in_front p all).list ≤ takes p.statement + statements_needs in_canonical all.list)
in_front_counts p all = by (is_nothing p.statement)
  where
    by : (b : Bool) →
        (statements_length Canonical (if b then all.list else stm p.statement all.list) ≤ size p.statement + statements_length Canonical all.list) ×
        (statements_needs in_canonical (if b then all.list else stm p.statement all.list) ≤ takes p.statement + statements_needs in_canonical all.list)
    by true = (omega arith, omega arith)
    by false = (omega arith, omega arith)

flat_whole : (c : Cond) → is_flat_condition c ≡ true → is_whole c ≡ true
flat_whole (Compare rel x y) e = refl
flat_whole (Not c) e = flat_whole c e
flat_whole (Both c d) e = let f = both_true (is_flat_condition c) (is_flat_condition d) e in rw (flat_whole c f.0, f.1) refl
flat_whole (Either c d) e = let f = both_true (is_flat_condition c) (is_flat_condition d) e in rw (flat_whole c f.0, f.1) refl

module _ (z : Scene) (out : ℕ → ℕ) where
  -- an expression that stands for itself
  leaf : (x : Tx) (k : ℕ) → IsFlat x → spare x ≡ 0 → is_effect x ≡ false → ((i : ℕ) → Occurs i x → i < z.own) →
      ((e : Around) (go : Go ℕ) (w : World) (t t' : Temps) → ((i : ℕ) → i < z.own → t' i ≡ t i) → tree_value z x e go w t ≡ mixed_value z x e
      (λ v w1 t1. go v w1 t) w t') →
      expression_length Canonical x ≤ expression_length Trees x → expression_needs in_canonical x + 1 ≤ expression_needs in_trees x →
      HoistIs z out x k (whole x) k
  leaf x k f s p reads same long large = record {
    split = record {
      runs = λ J r a o o' b b' go next kept outs backs hyp w t t' near.
          along z.fuel r (mixed_value z x (around a o b) (λ v w1 t1. go v w1 t) w t') _ (next w t') _ (same (around a o b) go w t t' near.agree)
          (does_nothing z nothing (around a o' b') next w t' refl)
          (credit z.fuel (r + spare x) r _ (next w t') (let q = s in omega arith) (hyp w t t' near));
    };
    side = flat_or_effect x f;
    none = λ g. refl;
    plain = λ g. p;
    units = λ op. omega arith;
    owned = owned_none z.own;
    reads = λ i o. let lt = reads i o in record { low = λ lo. absurd (omega arith); high = λ lo. absurd (omega arith) };
    length = let q = s in let n = long in omega arith;
    room = let n = large in omega arith;
    grows = omega arith;
  }

  -- something is done with what an expression or arguments give
  under : {A : Type 0} (entire rest : Acts (Go A)) (front : Part) (from to k l extra : ℕ) (f : A → Acts (Go ℕ)) → l + extra ≤ k →
      ((v : A) (e : Around) (go : Go ℕ) (w : World) (t t1 : Temps) → f v e (λ u w2 t2. go u w2 t) w t1 ≡ f v e go w t) →
      IsSplit z out entire 0 front rest from to → IsSplit z out (λ e go w t. charged k (entire e (λ v w1 t1. f v e go w1 t1) w t)) extra front
      (λ e go w t. charged l (rest e (λ v w1 t1. f v e go w1 t1) w t)) from to
  under entire rest front from to k l extra f le same split = record {
    runs = λ J r a o o' b b' go next kept outs backs hyp w t t' near.
        let e0 = around a o b in
        pays z.fuel r (r + k) k _ _ (omega arith)
        (split.runs J (r + k) a o o' b b' (λ v w1 t1. f v e0 go w1 t1) next kept (outs_more z J r (r + k) out o o' (omega arith) outs)
        (backs_more z r (r + k) b b' (omega arith) backs)
        (λ w1 t1 u1 near1. unpaid z.fuel (r + extra) (r + k + 0) l _ (next w1 u1) (omega arith)
        (along z.fuel (r + extra) _ _ (next w1 u1) _ (sym (λ i. charged l (rest e0 (λ v w2 t2. same v e0 go w2 t1 t2 i) w1 u1))) refl
        (hyp w1 t1 u1 near1))) w t t' near);
  }

  record ArgumentsAre (xs : Txs) (from : ℕ) (a : Arguments) (to : ℕ) : Type 1 where
    split : IsSplit z out (tree_values z xs) 0 a.front (mixed_values z a.rest) from to
    flat : AreFlat a.rest
    none : are_flat xs ≡ true → is_nothing a.front.statement ≡ true
    owned : IsOwned z.own a.front.least a.front.greatest
    length : size a.front.statement + arguments_length Canonical a.rest ≤ arguments_length Trees xs
    room : takes a.front.statement + arguments_needs in_canonical a.rest + to ≤ arguments_needs in_trees xs + from
    grows : from ≤ to

  pub record PartIs (s : Ts) (from : ℕ) (p : Part) (to : ℕ) : Type 1 where
    pub done : IsDone z out (tree_does z s) p from to
    pub owned : IsOwned z.own p.least p.greatest
    pub length : size p.statement ≤ statement_length Trees s
    pub room : takes p.statement + to ≤ statement_needs in_trees s + from
    pub grows : from ≤ to

  record PartsAre (ss : Stms) (from : ℕ) (all : Parts) (to : ℕ) : Type 1 where
    done : AllDone z out ss all from to
    owned : IsOwned z.own all.least all.greatest
    length : statements_length Canonical all.list ≤ statements_length Trees ss
    room : statements_needs in_canonical all.list + to ≤ statements_needs in_trees ss + from
    grows : from ≤ to

  -- two words are stored
  stored : (s : Ts) (x y : Tx) (last : Ts) (first from : ℕ) (b h : Hoisted) (to : ℕ) → WordIs z out y first b from →
      PairIs z out x (tree_value z y) (mixed_value z b.rest) b.front (1 + hoisted_units Trees (is_flat y)) 1 first from h to →
      IsDone z out (tree_does z s) (h.front before b.front before still last) first to →
      size last ≡ 1 + (expression_length Canonical h.rest + expression_length Canonical b.rest) →
      takes last ≡ expression_needs in_canonical h.rest + expression_needs in_canonical b.rest →
      statement_length Trees s ≡ 1 + hoisted_units Trees (is_flat y) + (expression_length Trees x + expression_length Trees y) →
      statement_needs in_trees s ≡ expression_needs in_trees x + expression_needs in_trees y →
      PartIs s first (h.front before b.front before still last) to
  stored s x y last first from b h to right pairs done l l' m m' =
      let c = in_turn_counts (first_then h.front.statement b.front.statement) last in
      let d = in_turn_counts h.front.statement b.front.statement in
      record {
        done = done;
        owned = owned_both z.own (min h.front.least b.front.least) (max h.front.greatest b.front.greatest) 4294967295 0 pairs.owned (owned_none z.own);
        length = let n = pairs.length in let n' = right.length in omega (arith, c.0, d.0);
        room = let n = pairs.room in let n' = right.room in omega (arith, c.1, d.1);
        grows = pairs.grows;
      }

  binary_hoist : (op : Bin) (x y : Tx) (first from : ℕ) (b h : Hoisted) (to : ℕ) → WordIs z out y first b from → from ≤ to →
      PairIs z out x (tree_value z y) (mixed_value z b.rest) b.front (operator_units op y + hoisted_units Trees (is_flat y))
      (operator_units op b.rest + 0) first from h to →
      HoistIs z out (Binary op x y) first (record { front = h.front before b.front; rest = Binary op h.rest b.rest }) to
  binary_hoist op x y first from b h to right le pairs = record {
    split = record {
      runs = λ J r a o o' c c' go next kept outs backs hyp. pairs.split.runs J r a o o' c c'
          (λ q w1 t1. with_given (operate op q.0 q.1) w1 (λ v. go v w1 t1)) next kept outs backs hyp;
    };
    side = (pairs.flat, right.flat);
    none = λ f. let g = both_true (is_flat x) (is_flat y) f in pairs.none g.0 (right.none g.1);
    plain = λ f. refl;
    units = λ op1. units_most op1 (Binary op x y) (Binary op h.rest b.rest) refl;
    owned = pairs.owned;
    reads = λ i o. ⊎_elim (λ p. pairs.reads i p) (λ p. let q = right.reads i p in record { low = q.low; high = λ lo. let l = q.high lo in omega arith }) o;
    length = let n = pairs.length in let n' = right.length in let c = (in_turn_counts h.front.statement b.front.statement).0 in omega arith;
    room = let n = pairs.room in let n' = right.room in let c = (in_turn_counts h.front.statement b.front.statement).1 in omega arith;
    grows = pairs.grows;
  }

  load_hoist : (x : Tx) (from : ℕ) (a : Hoisted) (to : ℕ) → WordIs z out x from a to →
      HoistIs z out (Load x) from (record { front = a.front; rest = Load a.rest }) to
  load_hoist x from a to h = record {
    split = under (tree_value z x) (mixed_value z a.rest) a.front from to 1 1 0 (λ u. read_memory (λ m. load m u)) (omega arith)
        (λ v e go w t t1. refl) h.split;
    side = h.flat;
    none = h.none;
    plain = λ f. refl;
    units = λ op1. units_most op1 (Load x) (Load a.rest) refl;
    owned = h.owned;
    reads = h.reads;
    length = let n = h.length in omega arith;
    room = let n = h.room in omega arith;
    grows = h.grows;
  }

  load_byte_hoist : (x : Tx) (from : ℕ) (a : Hoisted) (to : ℕ) → WordIs z out x from a to →
      HoistIs z out (LoadByte x) from (record { front = a.front; rest = LoadByte a.rest }) to
  load_byte_hoist x from a to h = record {
    split = under (tree_value z x) (mixed_value z a.rest) a.front from to 1 1 0 (λ u. read_memory (λ m. load_byte m u)) (omega arith)
        (λ v e go w t t1. refl) h.split;
    side = h.flat;
    none = h.none;
    plain = λ f. refl;
    units = λ op1. units_most op1 (LoadByte x) (LoadByte a.rest) refl;
    owned = h.owned;
    reads = h.reads;
    length = let n = h.length in omega arith;
    room = let n = h.room in omega arith;
    grows = h.grows;
  }

  service_hoist : (n : ℕ) (x : Tx) (from : ℕ) (a : Hoisted) (to : ℕ) → WordIs z out x from a to →
      HoistIs z out (Service n x) from (record { front = a.front; rest = Service n a.rest }) to
  service_hoist n x from a to h = record {
    split = under (tree_value z x) (mixed_value z a.rest) a.front from to 7 5 2 (λ u. ask z.room n u) (omega arith) (λ v e go w t t1. refl) h.split;
    side = h.flat;
    none = λ f. cc;
    plain = λ f. cc;
    units = λ op1. units_most op1 (Service n x) (Service n a.rest) refl;
    owned = h.owned;
    reads = λ i o. absurd o;
    length = let n = h.length in omega arith;
    room = let n = h.room in omega arith;
    grows = h.grows;
  }

  call_hoist : (label : ℕ) (xs : Txs) (from : ℕ) (a : Arguments) (to : ℕ) → ArgumentsAre xs from a to →
      HoistIs z out (Call label xs) from (record { front = a.front; rest = Call label a.rest }) to
  call_hoist label xs from a to h = record {
    split = under (tree_values z xs) (mixed_values z a.rest) a.front from to 4 2 2
        (λ vs e go w t. z.enter label vs (e.activation.base - e.activation.size) (λ v w1. go v w1 t) w) (omega arith) (λ v e go w t t1. refl) h.split;
    side = h.flat;
    none = λ f. cc;
    plain = λ f. cc;
    units = λ op1. units_most op1 (Call label xs) (Call label a.rest) refl;
    owned = h.owned;
    reads = λ i o. absurd o;
    length = let n = h.length in omega arith;
    room = let n = h.room in omega arith;
    grows = h.grows;
  }

  after_hoist : (s : Ts) (x : Tx) (first from : ℕ) (a : Hoisted) (p : Part) (to : ℕ) → HoistIs z out x first a from → PartIs s from p to →
      HoistIs z out (After s x) first (record { front = p before a.front; rest = a.rest }) to
  after_hoist s x first from a p to h l = record {
    split = after_split z out s p (tree_value z x) (mixed_value z a.rest) (spare a.rest) a.front first from to h.split l.done h.grows l.grows;
    side = h.side;
    none = λ f. cc;
    plain = λ f. cc;
    units = λ op1. units_most op1 (After s x) a.rest refl;
    owned = owned_both z.own p.least p.greatest a.front.least a.front.greatest l.owned h.owned;
    reads = λ i o. let q = h.reads i o in record { low = q.low; high = λ lo. let k = q.high lo in let g = l.grows in omega arith };
    length = let n = h.length in let n' = l.length in let c = (in_turn_counts p.statement a.front.statement).0 in omega arith;
    room = let n = h.room in let n' = l.room in let c = (in_turn_counts p.statement a.front.statement).1 in omega arith;
    grows = let f = h.grows in let g = l.grows in omega arith;
  }

  no_arguments_are : (k : ℕ) → ArgumentsAre no_txs k no_arguments k
  no_arguments_are k = record {
    split = record {
      runs = λ J r a o o' b b' go next kept outs backs hyp w t t' near.
          along z.fuel r (go [] w t) _ (next w t') _ refl (does_nothing z nothing (around a o' b') next w t' refl)
          (credit z.fuel (r + 0) r _ (next w t') (omega arith) (hyp w t t' near));
    };
    flat = tt;
    none = λ f. refl;
    owned = owned_none z.own;
    length = omega arith;
    room = omega arith;
    grows = omega arith;
  }

  more_arguments : (x : Tx) (xs : Txs) (first from : ℕ) (all : Arguments) (h : Hoisted) (to : ℕ) → ArgumentsAre xs first all from →
      PairIs z out x (tree_values z xs) (mixed_values z all.rest) all.front (argument_units Trees xs) 4 first from h to → ArgumentsAre (tx x xs) first
      (record { front = h.front before all.front; rest = tx h.rest all.rest }) to
  more_arguments x xs first from all h to rest pairs = record {
    split = record {
      runs = λ J r a o o' c c' go next kept outs backs hyp. pairs.split.runs J r a o o' c c' (λ q w1 t1. go (q.0 ∷ q.1) w1 t1) next kept outs backs hyp;
    };
    flat = (pairs.flat, rest.flat);
    none = λ f. let g = both_true (is_flat x) (are_flat xs) f in pairs.none g.0 (rest.none g.1);
    owned = pairs.owned;
    length = let n = pairs.length in let n' = rest.length in let c = (in_turn_counts h.front.statement all.front.statement).0 in omega arith;
    room = let n = pairs.room in let n' = rest.room in let c = (in_turn_counts h.front.statement all.front.statement).1 in omega arith;
    grows = pairs.grows;
  }

module _ (z : Scene) (pay : JoinsPay) (again : (out : ℕ → ℕ) (s : Ts) (k : ℕ) → TsPasses (IsBelow z.own) s → z.own ≤ k →
    GoesOn z out s (linear (inside out) s k).it k (linear (inside out) s k).next) where
  abbrev HoistedAt : (out : ℕ → ℕ) → Tx → ℕ → Type 1
  HoistedAt out x k = HoistIs z out x k (hoist out x k).it (hoist out x k).next

  abbrev WordAt : (out : ℕ → ℕ) → Tx → ℕ → Type 1
  WordAt out x k = WordIs z out x k (word (hoist out x) k).it (word (hoist out x) k).next

  word_at : (out : ℕ → ℕ) (x : Tx) (k : ℕ) → z.own ≤ k → HoistedAt out x k → WordAt out x k
  word_at out x k le h = word_is z out x k (hoist out x k).it (hoist out x k).next le h

  abbrev ArgumentsAt : (out : ℕ → ℕ) → Txs → ℕ → Type 1
  ArgumentsAt out xs k = ArgumentsAre z out xs k (hoist_all out xs k).it (hoist_all out xs k).next

  abbrev PartAt : (out : ℕ → ℕ) → Ts → ℕ → Type 1
  PartAt out s k = PartIs z out s k (linear out s k).it (linear out s k).next

  abbrev PartsAt : (out : ℕ → ℕ) → Stms → ℕ → Type 1
  PartsAt out ss k = PartsAre z out ss k (linear_all out ss k).it (linear_all out ss k).next

  abbrev TestAt : (out : ℕ → ℕ) → Cond → ℕ → Type 1
  TestAt out c k = TestIs z out c k (condition out c k).it (condition out c k).next

  abbrev LeftAt : (out : ℕ → ℕ) → (when : Bool) → (loops : ℕ) → Cond → ℕ → Type 1
  LeftAt out when n c k = LeftIs z out when n c k (leave out when n c k).it (leave out when n c k).next

  -- two words, side by side, where the second is drawn first
  module _ (out : ℕ → ℕ) (x y : Tx) (k : ℕ) (le : z.own ≤ k) (ly : HoistedAt out y k) (lx : (j : ℕ) → z.own ≤ j → HoistedAt out x j) where
    abbrev second : Drawn Hoisted
    second = word (hoist out y) k

    abbrev first : Drawn Hoisted
    first = word (hoist out x) second.next

    abbrev beside : Drawn Hoisted
    beside = in_front_of second.it.front first.it first.next

    second_is : WordAt out y k
    second_is = word_at out y k le ly

    first_is : WordAt out x second.next
    first_is = let up : z.own ≤ second.next = (let h = second_is in let g = h.grows in omega arith) in word_at out x second.next up (lx second.next up)

    pairs_grow : second.next ≤ beside.next
    pairs_grow = let h = first_is in let f = h.grows in let g = (in_front_grows second.it.front first.it).at first.next in omega arith

    pair_at : (u v : ℕ) → v ≤ u → (hoisted_units Trees (is_flat y) ≡ 2 → v + 2 ≤ u) →
        PairIs z out x (tree_value z y) (mixed_value z second.it.rest) second.it.front u v k second.next beside.it beside.next
    pair_at u v f g =
        let h = second_is in
        pair_is z out x (tree_value z y) (mixed_value z second.it.rest) second.it.front u v k second.next first.it first.next first_is
        h.split h.owned le h.grows (λ e. f)
        (λ e. g (hoisted_counts (is_nothing second.it.front.statement) (is_flat y) h.none e))

    binary_at : (op : Bin) → HoistedAt out (Binary op x y) k
    binary_at op =
        let h = second_is in
        let n = h.units op in
        binary_hoist z out op x y k second.next second.it beside.it beside.next h pairs_grow
        (pair_at (operator_units op y + hoisted_units Trees (is_flat y)) (operator_units op second.it.rest + 0) (omega arith) (λ e. omega arith))

    compare_at : (rel : Rel) → TestAt out (Compare rel x y) k
    compare_at rel =
        compare_is z out rel x y second.it beside.it k second.next beside.next
        (pair_at (4 + hoisted_units Trees (is_flat y)) 4 (omega arith) (λ e. omega arith)) second_is

    stored_pair :
        PairIs z out x (tree_value z y) (mixed_value z second.it.rest) second.it.front (1 + hoisted_units Trees (is_flat y)) 1
        k second.next beside.it beside.next
    stored_pair = pair_at (1 + hoisted_units Trees (is_flat y)) 1 (omega arith) (λ e. omega arith)

    store_at : PartAt out (Store x y) k
    store_at =
        let h = second_is in
        stored z out (Store x y) x y (Store beside.it.rest second.it.rest) k second.next second.it beside.it beside.next h stored_pair
        (stores_done z out x y k second.next beside.it second.it beside.next (1 + hoisted_units Trees (is_flat y)) 1 stored_pair h.flat store
        (Store beside.it.rest second.it.rest) refl (λ e next w t. refl)) refl refl refl refl

    store_byte_at : PartAt out (StoreByte x y) k
    store_byte_at =
        let h = second_is in
        stored z out (StoreByte x y) x y (StoreByte beside.it.rest second.it.rest) k second.next second.it beside.it beside.next h stored_pair
        (stores_done z out x y k second.next beside.it second.it beside.next (1 + hoisted_units Trees (is_flat y)) 1 stored_pair h.flat store_byte
        (StoreByte beside.it.rest second.it.rest) refl (λ e next w t. refl)) refl refl refl refl

  call_at : (out : ℕ → ℕ) (label : ℕ) (xs : Txs) (k : ℕ) → ArgumentsAre z out xs k (hoist_all out xs k).it (hoist_all out xs k).next →
      HoistedAt out (Call label xs) k
  call_at out label xs k h = call_hoist z out label xs k (hoist_all out xs k).it (hoist_all out xs k).next h

  arguments_at : (out : ℕ → ℕ) (x : Tx) (xs : Txs) (k : ℕ) → z.own ≤ k → ArgumentsAt out xs k → ((j : ℕ) → z.own ≤ j → HoistedAt out x j) →
      ArgumentsAt out (tx x xs) k
  arguments_at out x xs k le rest lx =
      let all = hoist_all out xs k in
      let up : z.own ≤ all.next = (let g = rest.grows in omega arith) in
      let a = word (hoist out x) all.next in
      let hx = word_at out x all.next up (lx all.next up) in
      let d = in_front_of all.it.front a.it a.next in
      let pairs = pair_is z out x (tree_values z xs) (mixed_values z all.it.rest) all.it.front (argument_units Trees xs) 4
      k all.next a.it a.next hx rest.split rest.owned le rest.grows (λ e. omega arith)
      (λ e. let n = hoisted_counts (is_nothing all.it.front.statement) (are_flat xs) rest.none e in omega arith) in
      more_arguments z out x xs k all.next all.it d.it d.next rest pairs

  after_at : (out : ℕ → ℕ) (s : Ts) (x : Tx) (k : ℕ) → z.own ≤ k → HoistedAt out x k → ((j : ℕ) → z.own ≤ j → PartAt out s j) → HoistedAt out (After s x) k
  after_at out s x k le h hs =
      let a = hoist out x k in
      let up : z.own ≤ a.next = (let g = h.grows in omega arith) in
      let p = linear out s a.next in
      after_hoist z out s x k a.next a.it p.it p.next h (hs a.next up)

  sequence_at : (out : ℕ → ℕ) (ss : Stms) (k : ℕ) → PartsAt out ss k → PartAt out (Seq ss) k
  sequence_at out ss k h =
      let all = linear_all out ss k in
      record {
        done = sequence_done z out ss all.it k all.next h.done;
        owned = h.owned;
        length = let n = h.length in omega arith;
        room = let n = h.room in omega arith;
        grows = h.grows;
      }

  -- statements
  move_at : (out : ℕ → ℕ) (i : ℕ) (x : Tx) (k : ℕ) → i < z.own → HoistedAt out x k → PartAt out (Move i x) k
  move_at out i x k lt l =
      let a = hoist out x k in
      record {
        done = move_done z out x k a.it a.next l i;
        owned = owned_both z.own a.it.front.least a.it.front.greatest i i l.owned (owned_one z.own i lt);
        length = let n = l.length in let c = (in_turn_counts a.it.front.statement (Move i a.it.rest)).0 in omega arith;
        room = let n = l.room in
            let c = (in_turn_counts a.it.front.statement (Move i a.it.rest)).1 in omega arith;
        grows = l.grows;
      }

  do_at : (out : ℕ → ℕ) (x : Tx) (k : ℕ) → HoistedAt out x k → PartAt out (Do x) k
  do_at out x k l =
      let a = hoist out x k in
      let f = dropped_counts a.it.rest in
      let c = in_turn_counts a.it.front.statement (dropped a.it.rest).statement in
      record {
        done = dropped_done z out x k a.it a.next l;
        owned = owned_both z.own a.it.front.least a.it.front.greatest 4294967295 0 l.owned (owned_none z.own);
        length = let n = l.length in omega (arith, f.0, c.0);
        room = let n = l.room in omega (arith, f.1, c.1);
        grows = l.grows;
      }

  return_at : (out : ℕ → ℕ) (x : Tx) (k : ℕ) → WordAt out x k → PartAt out (Return x) k
  return_at out x k l =
      let a = word (hoist out x) k in
      record {
        done = return_done z out x k a.it a.next l;
        owned = owned_both z.own a.it.front.least a.it.front.greatest 4294967295 0 l.owned (owned_none z.own);
        length = let n = l.length in let c = (in_turn_counts a.it.front.statement (Return a.it.rest)).0 in omega arith;
        room = let n = l.room in
            let c = (in_turn_counts a.it.front.statement (Return a.it.rest)).1 in omega arith;
        grows = l.grows;
      }

  abbrev whole_draws : (out : ℕ → ℕ) → Cond → Ts → Ts → Draws Part
  whole_draws out c s t = linear out t >>= λ q. linear out s >>= λ p. condition out c >>= λ test. give (choice test p q)

  abbrev wide_draws : (out : ℕ → ℕ) → Cond → Ts → Ts → Draws Part
  wide_draws out c s t = linear (deeper 1 out) t >>= λ q. linear (deeper 2 out) s >>= λ p. leave (deeper 2 out) false 0 c >>= λ test. give
      (wide_choice test p q)

  whole_if : (out : ℕ → ℕ) (c : Cond) (s t : Ts) (k : ℕ) → z.own ≤ k → PartAt out t k → ((j : ℕ) → z.own ≤ j → PartAt out s j) →
      ((j : ℕ) → z.own ≤ j → TestAt out c j) → PartIs z out (If c s t) k (whole_draws out c s t k).it (whole_draws out c s t k).next
  whole_if out c s t k le ht hs hc =
      let q = linear out t k in
      let up : z.own ≤ q.next = (let g = ht.grows in omega arith) in
      let p = linear out s q.next in
      let h = hs q.next up in
      let more : z.own ≤ p.next = (let g = h.grows in omega arith) in
      let d = condition out c p.next in
      let test = hc p.next more in
      record {
        done = choice_done z out c s t d.it p.it q.it k q.next p.next d.next test.flat test.split h.done ht.done ht.grows h.grows test.grows;
        owned = owned_both z.own d.it.front.least d.it.front.greatest (min p.it.least q.it.least) (max p.it.greatest q.it.greatest) test.owned
            (owned_both z.own p.it.least p.it.greatest q.it.least q.it.greatest h.owned ht.owned);
        length = let n = ht.length in let m = h.length in let l = test.length in
            let c1 = (in_turn_counts d.it.front.statement (If d.it.condition p.it.statement q.it.statement)).0 in omega arith;
        room = let n = ht.room in let m = h.room in let l = test.room in
            let c1 = (in_turn_counts d.it.front.statement (If d.it.condition p.it.statement q.it.statement)).1 in omega arith;
        grows = let f = ht.grows in let g = h.grows in let l = test.grows in omega arith;
      }

  wide_if : (out : ℕ → ℕ) (c : Cond) (s t : Ts) (k : ℕ) → z.own ≤ k → extra c ≡ 17 → PartAt (deeper 1 out) t k →
      ((j : ℕ) → z.own ≤ j → PartAt (deeper 2 out) s j) → ((j : ℕ) → z.own ≤ j → LeftAt (deeper 2 out) false 0 c j) →
      PartIs z out (If c s t) k (wide_draws out c s t k).it (wide_draws out c s t k).next
  wide_if out c s t k le e ht hs hc =
      let q = linear (deeper 1 out) t k in
      let up : z.own ≤ q.next = (let g = ht.grows in omega arith) in
      let p = linear (deeper 2 out) s q.next in
      let h = hs q.next up in
      let more : z.own ≤ p.next = (let g = h.grows in omega arith) in
      let d = leave (deeper 2 out) false 0 c p.next in
      let test = hc p.next more in
      record {
        done = wide_done z out c s t d.it p.it q.it k q.next p.next d.next e test h.done ht.done ht.grows h.grows;
        owned = owned_both z.own (min (min d.it.least p.it.least) 4294967295) (max (max d.it.greatest p.it.greatest) 0) q.it.least q.it.greatest
            (owned_both z.own (min d.it.least p.it.least) (max d.it.greatest p.it.greatest) 4294967295 0
            (owned_both z.own d.it.least d.it.greatest p.it.least p.it.greatest test.owned h.owned) (owned_none z.own)) ht.owned;
        length = let n = ht.length in let m = h.length in let l = test.length in
            let inner = first_then (first_then d.it.statement p.it.statement) (Break 1) in
            let c1 = (in_turn_counts (Loop inner) q.it.statement).0 in
            let c2 = (in_turn_counts (first_then d.it.statement p.it.statement) (Break 1)).0 in
            let c3 = (in_turn_counts d.it.statement p.it.statement).0 in omega (arith, e);
        room = let n = ht.room in let m = h.room in let l = test.room in
            let inner = first_then (first_then d.it.statement p.it.statement) (Break 1) in
            let c1 = (in_turn_counts (Loop inner) q.it.statement).1 in
            let c2 = (in_turn_counts (first_then d.it.statement p.it.statement) (Break 1)).1 in
            let c3 = (in_turn_counts d.it.statement p.it.statement).1 in omega arith;
        grows = let f = ht.grows in let g = h.grows in let l = test.grows in omega arith;
      }

  if_by : (out : ℕ → ℕ) (c : Cond) (s t : Ts) (k : ℕ) (b : Bool) →
      (b ≡ true → PartIs z out (If c s t) k (whole_draws out c s t k).it (whole_draws out c s t k).next) →
      (b ≡ false → PartIs z out (If c s t) k (wide_draws out c s t k).it (wide_draws out c s t k).next) →
      PartIs z out (If c s t) k (choose b (whole_draws out c s t) (wide_draws out c s t) k).it (choose b (whole_draws out c s t) (wide_draws out c s t) k).next
  if_by out c s t k true f g = f refl
  if_by out c s t k false f g = g refl

  loop_at : (out : ℕ → ℕ) (s : Ts) (k : ℕ) → z.own ≤ k → TsPasses (IsBelow z.own) s → PartAt (inside out) s k → PartAt out (Loop s) k
  loop_at out s k le passes h =
      let p = linear (inside out) s k in
      record {
        done = loop_done z out s p.it k p.next h.done (again out s k passes le);
        owned = h.owned;
        length = let n = h.length in omega arith;
        room = let n = h.room in omega arith;
        grows = h.grows;
      }

  more_at : (out : ℕ → ℕ) (s : Ts) (ss : Stms) (k : ℕ) → z.own ≤ k → PartsAt out ss k → ((j : ℕ) → z.own ≤ j → PartAt out s j) → PartsAt out (stm s ss) k
  more_at out s ss k le rest hs =
      let all = linear_all out ss k in
      let up : z.own ≤ all.next = (let g = rest.grows in omega arith) in
      let p = linear out s all.next in
      let h = hs all.next up in
      record {
        done = more_done z out s ss p.it all.it k all.next p.next h.done rest.done rest.grows h.grows;
        owned = owned_both z.own all.it.least all.it.greatest p.it.least p.it.greatest rest.owned h.owned;
        length = let n = rest.length in let m = h.length in omega (arith, (in_front_counts p.it all.it).0);
        room = let n = rest.room in let m = h.room in omega (arith, (in_front_counts p.it all.it).1);
        grows = let f = rest.grows in let g = h.grows in omega arith;
      }

  -- conditions that are joined
  and_at : (out : ℕ → ℕ) (c d : Cond) (k : ℕ) → z.own ≤ k → is_flat_condition d ≡ true → TestAt out d k → ((j : ℕ) → z.own ≤ j → TestAt out c j) →
      TestAt out (Both c d) k
  and_at out c d k le e hd hc =
      let u = condition out d k in
      let up : z.own ≤ u.next = (let g = hd.grows in omega arith) in
      let t = condition out c u.next in
      and_is z out c d k u.next t.next t.it u.it e (hc u.next up) hd

  or_at : (out : ℕ → ℕ) (c d : Cond) (k : ℕ) → z.own ≤ k → is_flat_condition d ≡ true → TestAt out d k → ((j : ℕ) → z.own ≤ j → TestAt out c j) →
      TestAt out (Either c d) k
  or_at out c d k le e hd hc =
      let u = condition out d k in
      let up : z.own ≤ u.next = (let g = hd.grows in omega arith) in
      let t = condition out c u.next in
      or_is z out c d k u.next t.next t.it u.it e (hc u.next up) hd

  -- tested part by part
  and_chain : (out : ℕ → ℕ) (c d : Cond) (n k : ℕ) → z.own ≤ k → LeftAt out false n d k → ((j : ℕ) → z.own ≤ j → LeftAt out false n c j) →
      LeftAt out false n (Both c d) k
  and_chain out c d n k le hd hc =
      let q = leave out false n d k in
      let up : z.own ≤ q.next = (let g = hd.grows in omega arith) in
      let p = leave out false n c q.next in
      chain_left z pay out c d (Both c d) (λ v. if v then tree_test z d else acts_give false)
      (λ e go w t. refl) refl refl refl false n k q.next p.next p.it q.it refl refl (hc q.next up) hd

  and_block : (out : ℕ → ℕ) (c d : Cond) (n k : ℕ) → z.own ≤ k → LeftAt (deeper 1 out) true (n + 1) d k →
      ((j : ℕ) → z.own ≤ j → LeftAt (deeper 1 out) false 0 c j) → LeftAt out true n (Both c d) k
  and_block out c d n k le hd hc =
      let q = leave (deeper 1 out) true (n + 1) d k in
      let up : z.own ≤ q.next = (let g = hd.grows in omega arith) in
      let p = leave (deeper 1 out) false 0 c q.next in
      block_left z pay out c d (Both c d) (λ v. if v then tree_test z d else acts_give false)
      (λ e go w t. refl) refl refl refl true n k q.next p.next p.it q.it refl refl (hc q.next up) hd

  or_chain : (out : ℕ → ℕ) (c d : Cond) (n k : ℕ) → z.own ≤ k → LeftAt out true n d k → ((j : ℕ) → z.own ≤ j → LeftAt out true n c j) →
      LeftAt out true n (Either c d) k
  or_chain out c d n k le hd hc =
      let q = leave out true n d k in
      let up : z.own ≤ q.next = (let g = hd.grows in omega arith) in
      let p = leave out true n c q.next in
      chain_left z pay out c d (Either c d) (λ v. if v then acts_give true else tree_test z d)
      (λ e go w t. refl) refl refl refl true n k q.next p.next p.it q.it refl refl (hc q.next up) hd

  or_block : (out : ℕ → ℕ) (c d : Cond) (n k : ℕ) → z.own ≤ k → LeftAt (deeper 1 out) false (n + 1) d k →
      ((j : ℕ) → z.own ≤ j → LeftAt (deeper 1 out) true 0 c j) → LeftAt out false n (Either c d) k
  or_block out c d n k le hd hc =
      let q = leave (deeper 1 out) false (n + 1) d k in
      let up : z.own ≤ q.next = (let g = hd.grows in omega arith) in
      let p = leave (deeper 1 out) true 0 c q.next in
      block_left z pay out c d (Either c d) (λ v. if v then acts_give true else tree_test z d)
      (λ e go w t. refl) refl refl refl false n k q.next p.next p.it q.it refl refl (hc q.next up) hd

  exit_at : (out : ℕ → ℕ) (when : Bool) (n : ℕ) (rel : Rel) (x y : Tx) (k : ℕ) → TestAt out (Compare rel x y) k → LeftAt out when n (Compare rel x y) k
  exit_at out when n rel x y k h =
      let t = condition out (Compare rel x y) k in
      exit_left z out (Compare rel x y) k t.it t.next refl h when n

  mutual
    hoist_at : (x : Tx) (out : ℕ → ℕ) (k : ℕ) → TxPasses (IsBelow z.own) x → z.own ≤ k → HoistedAt out x k
    hoist_at (Const n) out k h le = leaf z out (Const n) k tt refl refl (λ i o. absurd o) (λ e go w t t' a. refl) (omega arith) (omega arith)
    hoist_at (Address n) out k h le = leaf z out (Address n) k tt refl refl (λ i o. absurd o) (λ e go w t t' a. refl) (omega arith) (omega arith)
    hoist_at (Temp j) out k h le =
        let lt : j < z.own = ltb-true j z.own h in
        leaf z out (Temp j) k tt refl refl (λ i o. omega (arith, o)) (λ e go w t t' a. ap (λ o. charged 0 (with_word o w (λ v. go v w t))) (sym (a j lt)))
        (omega arith) (omega arith)
    hoist_at FrameAddress out k h le = leaf z out FrameAddress k tt refl refl (λ i o. absurd o) (λ e go w t t' a. refl) (omega arith) (omega arith)
    hoist_at (Binary op x y) out k h le = binary_at out x y k le (hoist_at y out k h.1 le) (λ j lj. hoist_at x out j h.0 lj) op
    hoist_at (Load x) out k h le = load_hoist z out x k (word (hoist out x) k).it (word (hoist out x) k).next (word_at out x k le (hoist_at x out k h le))
    hoist_at (LoadByte x) out k h le =
        load_byte_hoist z out x k (word (hoist out x) k).it (word (hoist out x) k).next (word_at out x k le (hoist_at x out k h le))
    hoist_at (Call label xs) out k h le = call_at out label xs k (hoist_all_at xs out k h.1 le)
    hoist_at (Service n x) out k h le =
        service_hoist z out n x k (word (hoist out x) k).it (word (hoist out x) k).next (word_at out x k le (hoist_at x out k h.1 le))
    hoist_at (After s x) out k h le = after_at out s x k le (hoist_at x out k h.1 le) (λ j lj. linear_at s out j h.0 lj)

    hoist_all_at : (xs : Txs) (out : ℕ → ℕ) (k : ℕ) → TxsPass (IsBelow z.own) xs → z.own ≤ k → ArgumentsAt out xs k
    hoist_all_at no_txs out k h le = no_arguments_are z out k
    hoist_all_at (tx x xs) out k h le = arguments_at out x xs k le (hoist_all_at xs out k h.1 le) (λ j lj. hoist_at x out j h.0 lj)

    condition_at : (c : Cond) (out : ℕ → ℕ) (k : ℕ) → CondPasses (IsBelow z.own) c → is_whole c ≡ true → z.own ≤ k → TestAt out c k
    condition_at (Compare rel x y) out k h e le = compare_at out x y k le (hoist_at y out k h.1 le) (λ j lj. hoist_at x out j h.0 lj) rel
    condition_at (Not c) out k h e le = not_is z out c k (condition out c k).it (condition out c k).next (condition_at c out k h e le)
    condition_at (Both c d) out k h e le =
        let f = both_true (is_whole c) (is_flat_condition d) e in
        and_at out c d k le f.1 (condition_at d out k h.1 (flat_whole d f.1) le) (λ j lj. condition_at c out j h.0 f.0 lj)
    condition_at (Either c d) out k h e le =
        let f = both_true (is_whole c) (is_flat_condition d) e in
        or_at out c d k le f.1 (condition_at d out k h.1 (flat_whole d f.1) le) (λ j lj. condition_at c out j h.0 f.0 lj)

    leave_at : (c : Cond) (when : Bool) (out : ℕ → ℕ) (n k : ℕ) → CondPasses (IsBelow z.own) c → z.own ≤ k → LeftAt out when n c k
    leave_at (Compare rel x y) when out n k h le = exit_at out when n rel x y k
        (compare_at out x y k le (hoist_at y out k h.1 le) (λ j lj. hoist_at x out j h.0 lj) rel)
    leave_at (Not c) when out n k h le = left_opposite z out when n c k (leave out (not when) n c k).it (leave out (not when) n c k).next
        (leave_at c (not when) out n k h le)
    leave_at (Both c d) false out n k h le = and_chain out c d n k le (leave_at d false out n k h.1 le) (λ j lj. leave_at c false out n j h.0 lj)
    leave_at (Both c d) true out n k h le = and_block out c d n k le (leave_at d true (deeper 1 out) (n + 1) k h.1 le)
        (λ j lj. leave_at c false (deeper 1 out) 0 j h.0 lj)
    leave_at (Either c d) true out n k h le = or_chain out c d n k le (leave_at d true out n k h.1 le) (λ j lj. leave_at c true out n j h.0 lj)
    leave_at (Either c d) false out n k h le = or_block out c d n k le (leave_at d false (deeper 1 out) (n + 1) k h.1 le)
        (λ j lj. leave_at c true (deeper 1 out) 0 j h.0 lj)

    pub linear_at : (s : Ts) (out : ℕ → ℕ) (k : ℕ) → TsPasses (IsBelow z.own) s → z.own ≤ k → PartAt out s k
    linear_at (Move i x) out k h le = move_at out i x k (ltb-true i z.own h.0) (hoist_at x out k h.1 le)
    linear_at (Store x y) out k h le = store_at out x y k le (hoist_at y out k h.1 le) (λ j lj. hoist_at x out j h.0 lj)
    linear_at (StoreByte x y) out k h le = store_byte_at out x y k le (hoist_at y out k h.1 le) (λ j lj. hoist_at x out j h.0 lj)
    linear_at (Do x) out k h le = do_at out x k (hoist_at x out k h le)
    linear_at (If c s t) out k h le =
        if_by out c s t k (is_whole c) (λ e. whole_if out c s t k le (linear_at t out k h.2 le) (λ j lj. linear_at s out j h.1 lj)
        (λ j lj. condition_at c out j h.0 e lj))
        (λ e. wide_if out c s t k le (extra_there c e) (linear_at t (deeper 1 out) k h.2 le) (λ j lj. linear_at s (deeper 2 out) j h.1 lj)
        (λ j lj. leave_at c false (deeper 2 out) 0 j h.0 lj))
    linear_at (Loop s) out k h le = loop_at out s k le h (linear_at s (inside out) k h le)
    linear_at (Break n) out k h le = record {
      done = break_done z out n k;
      owned = owned_none z.own;
      length = omega arith;
      room = omega arith;
      grows = omega arith;
    }
    linear_at (Fault n) out k h le = record {
      done = fault_done z out n k;
      owned = owned_none z.own;
      length = omega arith;
      room = omega arith;
      grows = omega arith;
    }
    linear_at (Seq ss) out k h le = sequence_at out ss k (linear_all_at ss out k h le)
    linear_at (Return x) out k h le = return_at out x k (word_at out x k le (hoist_at x out k h le))

    linear_all_at : (ss : Stms) (out : ℕ → ℕ) (k : ℕ) → StmsPass (IsBelow z.own) ss → z.own ≤ k → PartsAt out ss k
    linear_all_at no_stms out k h le = record {
      done = none_done z out k;
      owned = owned_none z.own;
      length = omega arith;
      room = omega arith;
      grows = omega arith;
    }
    linear_all_at (stm s ss) out k h le = more_at out s ss k le (linear_all_at ss out k h.1 le) (λ j lj. linear_at s out j h.0 lj)
