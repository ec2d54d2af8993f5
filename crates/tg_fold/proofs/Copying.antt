-- Where two temporaries hold the same word, a statement that assigns neither runs as the one that reads the second wherever it read the first.
use Rattle.std.proofs.Common.{◌≡◌, ℕ, zero, suc, ◌+◌, ◌-◌, List, [], ◌∷◌, Bool, true, false, refl, sym, ap, ◌∙◌, arith}
use Rattle.std.proofs.lemmas.Bool.Decides.{nat_tests}
use Rattle.std.specs.Prelude.{◌==◌, ◌||◌, not, if◌then◌else◌, Option, Some, None}
use Rattle.tg_simulation.specs.Runs.{Run, nested}
use Rattle.tg_simulation.specs.Ran.{Ran, WantsFuel, stops}
use Rattle.tg_tree.specs.declared.operators.Bin.{Bin}
use Rattle.tg_tree.specs.declared.operators.Bin.TheVariants as bin
use Rattle.tg_tree.specs.Tree.{Tx, Const, Address, Temp, FrameAddress, Binary, Load, LoadByte, Call, Service, After, Txs, no_txs, tx, Cond, Compare}
use Rattle.tg_tree.specs.Tree.{Not, Both, Either, Ts, Move, Store, StoreByte, Do, If, Loop, Break, Fault, Seq, Return, Stms, no_stms, stm, Literal, Code}
use Rattle.tg_tree.specs.Operators.{operate, holds}
use Rattle.tg_tree.specs.Memory.{load, load_byte, store, store_byte, literal_address}
use Rattle.tg_tree.specs.Shapes.{is_flat, are_flat, is_flat_condition}
use Rattle.tg_tree.specs.Units.{Trees, hoisted_units, joined_units, shift_units, operator_units}
use Rattle.tg_tree.specs.Actions.{World, Temps, set_temp, Activation, Around, Acts, Go, Next, Out, Back, charged, with_word, with_given, with_memory, leaving}
use Rattle.tg_tree.specs.Actions.{give, service}
use Rattle.tg_tree.specs.Meaning.{Enter, Point, value, values, test, run, run_all}
use Rattle.tg_tree.specs.Running.{with_fuel, enter, step, going}
use Rattle.tg_fold.specs.Copies.{assigns, assigns_stms, assigns_tx, assigns_txs, assigns_cond, copy, takes_copy, instead}
use Rattle.tg_fold.specs.Copies.{renamed, renamed_stms, renamed_tx, renamed_txs, renamed_cond}
use Rattle.tg_fold.specs.mirror.Folding.{passed, passed_on}
use Rattle.tg_fold.proofs.Leaving.{either_false, turned, takes}

abbrev pub around : Activation → Out → Back → Around
around a o b = record { activation = a; out = o; back = b }

abbrev pub loop_at : Ts → Activation → Out → Back → Next → World → Temps → Point
loop_at s act o back next w t = record { statement = Loop s; around = around act o back; next = next; world = w; temps = t }

paid : (k l : ℕ) (c d : Run Ran) → l ≡ k → c ≡ d → charged k c ≡ charged l d
paid k l c d e f = ap (λ i. charged i c) (sym e) ∙ ap (charged l) f

same_number : (i j : ℕ) → (i == j) ≡ true → i ≡ j
same_number i j e = grind (arith, nat_tests)

is_same : (i : ℕ) → (i == i) ≡ true
is_same i = grind (arith, nat_tests)

-- Units.

operator_same : (op : Bin) (y y' : Tx) → shift_units y' ≡ shift_units y → operator_units op y' ≡ operator_units op y
operator_same bin.Add y y' h = refl
operator_same bin.Sub y y' h = refl
operator_same bin.Mul y y' h = refl
operator_same bin.Div y y' h = refl
operator_same bin.And y y' h = refl
operator_same bin.Or y y' h = refl
operator_same bin.Xor y y' h = refl
operator_same bin.ShiftLeft y y' h = h
operator_same bin.ShiftRight y y' h = h
operator_same bin.ShiftSigned y y' h = h
operator_same bin.AddTrap y y' h = refl
operator_same bin.SubTrap y y' h = refl
operator_same bin.MulHigh y y' h = refl

module _ (a b : ℕ) where
  renamed_shift : (x : Tx) → shift_units (renamed_tx a b x) ≡ shift_units x
  renamed_shift (Const n) = refl
  renamed_shift (Address label) = refl
  renamed_shift (Temp i) = refl
  renamed_shift FrameAddress = refl
  renamed_shift (Binary op x y) = refl
  renamed_shift (Load x) = refl
  renamed_shift (LoadByte x) = refl
  renamed_shift (Call label xs) = refl
  renamed_shift (Service n x) = refl
  renamed_shift (After s x) = refl

  renamed_flat : (x : Tx) → is_flat (renamed_tx a b x) ≡ is_flat x
  renamed_flat (Const n) = refl
  renamed_flat (Address label) = refl
  renamed_flat (Temp i) = refl
  renamed_flat FrameAddress = refl
  renamed_flat (Binary op x y) = rw (renamed_flat x, renamed_flat y) refl
  renamed_flat (Load x) = renamed_flat x
  renamed_flat (LoadByte x) = renamed_flat x
  renamed_flat (Call label xs) = refl
  renamed_flat (Service n x) = refl
  renamed_flat (After s x) = refl

  renamed_all_flat : (xs : Txs) → are_flat (renamed_txs a b xs) ≡ are_flat xs
  renamed_all_flat no_txs = refl
  renamed_all_flat (tx x xs) = rw (renamed_flat x, renamed_all_flat xs) refl

  renamed_flat_condition : (c : Cond) → is_flat_condition (renamed_cond a b c) ≡ is_flat_condition c
  renamed_flat_condition (Compare rel x y) = rw (renamed_flat x, renamed_flat y) refl
  renamed_flat_condition (Not c) = renamed_flat_condition c
  renamed_flat_condition (Both c d) = rw (renamed_flat_condition c, renamed_flat_condition d) refl
  renamed_flat_condition (Either c d) = rw (renamed_flat_condition c, renamed_flat_condition d) refl

  binary_same : (op : Bin) (y : Tx) →
      operator_units op (renamed_tx a b y) + hoisted_units Trees (is_flat (renamed_tx a b y)) ≡ operator_units op y + hoisted_units Trees (is_flat y)
  binary_same op y =
      ap (λ k. k + hoisted_units Trees (is_flat (renamed_tx a b y))) (operator_same op y (renamed_tx a b y) (renamed_shift y)) ∙
      ap (λ q. operator_units op y + hoisted_units Trees q) (renamed_flat y)

  side_same : (k : ℕ) (y : Tx) → k + hoisted_units Trees (is_flat (renamed_tx a b y)) ≡ k + hoisted_units Trees (is_flat y)
  side_same k y = ap (λ q. k + hoisted_units Trees q) (renamed_flat y)

  -- both hold the same word
  abbrev Agree : Temps → Type 0
  Agree t = t a ≡ t b

  abbrev SameGo : {A : Type 0} → Go A → Go A → Type 0
  SameGo {A} go go' = (v : A) (w : World) (t : Temps) → Agree t → go v w t ≡ go' v w t

  abbrev SameNext : Next → Next → Type 0
  SameNext next next' = (w : World) (t : Temps) → Agree t → next w t ≡ next' w t

  temps_same : (i : ℕ) (t : Temps) → Agree t → t i ≡ t (instead a b i)
  temps_same i t h = by (i == a) refl
    where
      by : (q : Bool) → (i == a) ≡ q → t i ≡ t (if q then b else i)
      by true e = ap t (same_number i a e) ∙ h
      by false e = refl

  agree_still : (i v : ℕ) (t : Temps) → (a == i) ≡ false → (b == i) ≡ false → Agree t → Agree (set_temp i v t)
  agree_still i v t p q h =
      ap (λ z. if z then Some v else t a) p ∙ (h ∙ sym (ap (λ z. if z then Some v else t b) q))

  leaving_same : (next next' : Next) (o o' : Out) → SameNext next next' → SameGo o o' → SameGo (leaving next o) (leaving next' o')
  leaving_same next next' o o' h k zero w t g = h w t g
  leaving_same next next' o o' h k (suc i) w t g = k i w t g

  -- what comes of loops of such statements is the same
  abbrev LoopsSame : (later : Point → Run Ran) → Type 0
  LoopsSame later =
      (s : Ts) → assigns a s ≡ false → assigns b s ≡ false → (act : Activation) (back : Back) (o o' : Out) (next next' : Next) →
      SameGo o o' → SameNext next next' → (w : World) (t : Temps) → Agree t →
      later (loop_at s act o back next w t) ≡ later (loop_at (renamed a b s) act o' back next' w t)

  module _ (room : ℕ) (literals : List Literal) (enter : Enter) (later : Point → Run Ran) (loops : LoopsSame later) (act : Activation) (back : Back) where
    abbrev val : Tx → Acts (Go ℕ)
    val x = value Trees room literals enter later x

    abbrev vals : Txs → Acts (Go (List ℕ))
    vals xs = values Trees room literals enter later xs

    abbrev tests : Cond → Acts (Go Bool)
    tests c = test Trees room literals enter later c

    abbrev does : Ts → Acts Next
    does s = run Trees room literals enter later s

    abbrev does_all : Stms → Acts Next
    does_all ss = run_all Trees room literals enter later ss

    -- a part gives what another gives
    abbrev SameActs : {A : Type 0} → Acts (Go A) → Acts (Go A) → Type 0
    SameActs {A} m m' =
        (o o' : Out) → SameGo o o' → (go go' : Go A) → SameGo go go' → (w : World) (t : Temps) → Agree t →
        m (around act o back) go w t ≡ m' (around act o' back) go' w t

    -- two words, one after the other
    same_sides : (m l m' l' : Acts (Go ℕ)) → SameActs m m' → SameActs l l' →
        (o o' : Out) → SameGo o o' → (go go' : ℕ → Go ℕ) → ((u : ℕ) → SameGo (go u) (go' u)) → (w : World) (t : Temps) → Agree t →
        m (around act o back) (λ u w1 t1. l (around act o back) (λ v w2 t2. go u v w2 t2) w1 t1) w t ≡
        m' (around act o' back) (λ u w1 t1. l' (around act o' back) (λ v w2 t2. go' u v w2 t2) w1 t1) w t
    same_sides m l m' l' hm hl o o' ho go go' hg w t g =
        hm o o' ho (λ u w1 t1. l (around act o back) (λ v w2 t2. go u v w2 t2) w1 t1) (λ u w1 t1. l' (around act o' back) (λ v w2 t2. go' u v w2 t2) w1 t1)
        (λ u w1 t1 g1. hl o o' ho (go u) (go' u) (hg u) w1 t1 g1) w t g

    both_ways : {K : Type 0} (z : Bool) (m n m' n' : Acts K) (e e' : Around) (k k' : K) (w : World) (t : Temps) →
        m e k w t ≡ m' e' k' w t → n e k w t ≡ n' e' k' w t → (if z then m else n) e k w t ≡ (if z then m' else n') e' k' w t
    both_ways true m n m' n' e e' k k' w t h l = h
    both_ways false m n m' n' e e' k k' w t h l = l

    mutual
      same_value : (x : Tx) → assigns_tx a x ≡ false → assigns_tx b x ≡ false → (o o' : Out) → SameGo o o' → (go go' : Go ℕ) → SameGo go go' →
          (w : World) (t : Temps) → Agree t → val x (around act o back) go w t ≡ val (renamed_tx a b x) (around act o' back) go' w t
      same_value (Const n) p q o o' ho go go' hg w t g = ap (charged 2) (hg n w t g)
      same_value (Address label) p q o o' ho go go' hg w t g =
          ap (λ f. charged 1 (with_word (literal_address literals label) w f)) (λ i v. hg v w t g i)
      same_value (Temp j) p q o o' ho go go' hg w t g =
          ap (λ u. charged 0 (with_word u w (λ v. go v w t))) (temps_same j t g) ∙
          ap (λ f. charged 0 (with_word (t (instead a b j)) w f)) (λ i v. hg v w t g i)
      same_value FrameAddress p q o o' ho go go' hg w t g = ap (charged 1) (hg act.base w t g)
      same_value (Binary op x y) p q o o' ho go go' hg w t g =
          let k = either_false (assigns_tx a x) (assigns_tx a y) p in
          let l = either_false (assigns_tx b x) (assigns_tx b y) q in
          paid _ _ _ _ (binary_same op y)
          (same_sides (val x) (val y) (val (renamed_tx a b x)) (val (renamed_tx a b y)) (same_value x k.0 l.0) (same_value y k.1 l.1) o o' ho
          (λ u v w1 t1. with_given (operate op u v) w1 (λ r. go r w1 t1))
          (λ u v w1 t1. with_given (operate op u v) w1 (λ r. go' r w1 t1))
          (λ u v w1 t1 g1. ap (λ f. with_given (operate op u v) w1 f) (λ i r. hg r w1 t1 g1 i)) w t g)
      same_value (Load x) p q o o' ho go go' hg w t g =
          ap (charged 1) (same_value x p q o o' ho (λ u w1 t1. with_word (load w1.memory u) w1 (λ v. go v w1 t1))
          (λ u w1 t1. with_word (load w1.memory u) w1 (λ v. go' v w1 t1))
          (λ u w1 t1 g1. ap (λ f. with_word (load w1.memory u) w1 f) (λ i v. hg v w1 t1 g1 i)) w t g)
      same_value (LoadByte x) p q o o' ho go go' hg w t g =
          ap (charged 1) (same_value x p q o o' ho (λ u w1 t1. with_word (load_byte w1.memory u) w1 (λ v. go v w1 t1))
          (λ u w1 t1. with_word (load_byte w1.memory u) w1 (λ v. go' v w1 t1))
          (λ u w1 t1 g1. ap (λ f. with_word (load_byte w1.memory u) w1 f) (λ i v. hg v w1 t1 g1 i)) w t g)
      same_value (Call label xs) p q o o' ho go go' hg w t g =
          ap (charged 4) (same_values xs p q o o' ho (λ vs w1 t1. enter label vs (act.base - act.size) (λ v w2. go v w2 t1) w1)
          (λ vs w1 t1. enter label vs (act.base - act.size) (λ v w2. go' v w2 t1) w1)
          (λ vs w1 t1 g1. ap (λ k. enter label vs (act.base - act.size) k w1) (λ i v w2. hg v w2 t1 g1 i)) w t g)
      same_value (Service n x) p q o o' ho go go' hg w t g =
          ap (charged 7) (same_value x p q o o' ho (λ u w1 t1. service room n u w1 (λ v w2. go v w2 t1))
          (λ u w1 t1. service room n u w1 (λ v w2. go' v w2 t1))
          (λ u w1 t1 g1. ap (λ k. service room n u w1 k) (λ i v w2. hg v w2 t1 g1 i)) w t g)
      same_value (After s x) p q o o' ho go go' hg w t g =
          let k = either_false (assigns a s) (assigns_tx a x) p in
          let l = either_false (assigns b s) (assigns_tx b x) q in
          ap (charged 0) (same_run s k.0 l.0 o o' ho (λ w1 t1. val x (around act o back) go w1 t1)
          (λ w1 t1. val (renamed_tx a b x) (around act o' back) go' w1 t1)
          (λ w1 t1 g1. same_value x k.1 l.1 o o' ho go go' hg w1 t1 g1) w t g)

      same_values : (xs : Txs) → assigns_txs a xs ≡ false → assigns_txs b xs ≡ false → (o o' : Out) → SameGo o o' → (go go' : Go (List ℕ)) → SameGo go go' →
          (w : World) (t : Temps) → Agree t → vals xs (around act o back) go w t ≡ vals (renamed_txs a b xs) (around act o' back) go' w t
      same_values no_txs p q o o' ho go go' hg w t g = hg [] w t g
      same_values (tx x xs) p q o o' ho go go' hg w t g =
          let k = either_false (assigns_tx a x) (assigns_txs a xs) p in
          let l = either_false (assigns_tx b x) (assigns_txs b xs) q in
          paid _ _ _ _ (ap (λ z. 4 + hoisted_units Trees z) (renamed_all_flat xs))
          (same_value x k.0 l.0 o o' ho (λ v w1 t1. vals xs (around act o back) (λ vs w2 t2. go (v ∷ vs) w2 t2) w1 t1)
          (λ v w1 t1. vals (renamed_txs a b xs) (around act o' back) (λ vs w2 t2. go' (v ∷ vs) w2 t2) w1 t1)
          (λ v w1 t1 g1. same_values xs k.1 l.1 o o' ho (λ vs w2 t2. go (v ∷ vs) w2 t2) (λ vs w2 t2. go' (v ∷ vs) w2 t2)
          (λ vs w2 t2 g2. hg (v ∷ vs) w2 t2 g2) w1 t1 g1) w t g)

      same_test : (c : Cond) → assigns_cond a c ≡ false → assigns_cond b c ≡ false → (o o' : Out) → SameGo o o' → (go go' : Go Bool) → SameGo go go' →
          (w : World) (t : Temps) → Agree t → tests c (around act o back) go w t ≡ tests (renamed_cond a b c) (around act o' back) go' w t
      same_test (Compare rel x y) p q o o' ho go go' hg w t g =
          let k = either_false (assigns_tx a x) (assigns_tx a y) p in
          let l = either_false (assigns_tx b x) (assigns_tx b y) q in
          paid _ _ _ _ (side_same 4 y)
          (same_sides (val x) (val y) (val (renamed_tx a b x)) (val (renamed_tx a b y)) (same_value x k.0 l.0) (same_value y k.1 l.1) o o' ho
          (λ u v w1 t1. go (holds rel u v) w1 t1) (λ u v w1 t1. go' (holds rel u v) w1 t1)
          (λ u v w1 t1 g1. hg (holds rel u v) w1 t1 g1) w t g)
      same_test (Not c) p q o o' ho go go' hg w t g =
          ap (charged 0) (same_test c p q o o' ho (λ z w1 t1. go (not z) w1 t1) (λ z w1 t1. go' (not z) w1 t1) (λ z w1 t1 g1. hg (not z) w1 t1 g1) w t g)
      same_test (Both c d) p q o o' ho go go' hg w t g =
          let k = either_false (assigns_cond a c) (assigns_cond a d) p in
          let l = either_false (assigns_cond b c) (assigns_cond b d) q in
          let e = around act o back in
          let e' = around act o' back in
          paid _ _ _ _ (ap (λ z. joined_units Trees z) (renamed_flat_condition d))
          (same_test c k.0 l.0 o o' ho (λ z w1 t1. (if z then tests d else give false) e go w1 t1)
          (λ z w1 t1. (if z then tests (renamed_cond a b d) else give false) e' go' w1 t1)
          (λ z w1 t1 g1. both_ways z (tests d) (give false) (tests (renamed_cond a b d)) (give false) e e' go go' w1 t1
          (same_test d k.1 l.1 o o' ho go go' hg w1 t1 g1) (hg false w1 t1 g1)) w t g)
      same_test (Either c d) p q o o' ho go go' hg w t g =
          let k = either_false (assigns_cond a c) (assigns_cond a d) p in
          let l = either_false (assigns_cond b c) (assigns_cond b d) q in
          let e = around act o back in
          let e' = around act o' back in
          paid _ _ _ _ (ap (λ z. joined_units Trees z) (renamed_flat_condition d))
          (same_test c k.0 l.0 o o' ho (λ z w1 t1. (if z then give true else tests d) e go w1 t1)
          (λ z w1 t1. (if z then give true else tests (renamed_cond a b d)) e' go' w1 t1)
          (λ z w1 t1 g1. both_ways z (give true) (tests d) (give true) (tests (renamed_cond a b d)) e e' go go' w1 t1
          (hg true w1 t1 g1) (same_test d k.1 l.1 o o' ho go go' hg w1 t1 g1)) w t g)

      pub same_run : (s : Ts) → assigns a s ≡ false → assigns b s ≡ false → (o o' : Out) → SameGo o o' → (next next' : Next) → SameNext next next' →
          (w : World) (t : Temps) → Agree t → does s (around act o back) next w t ≡ does (renamed a b s) (around act o' back) next' w t
      same_run (Move i x) p q o o' ho next next' hn w t g =
          let k = either_false (a == i) (assigns_tx a x) p in
          let l = either_false (b == i) (assigns_tx b x) q in
          ap (charged 2) (same_value x k.1 l.1 o o' ho (λ v w1 t1. next w1 (set_temp i v t1)) (λ v w1 t1. next' w1 (set_temp i v t1))
          (λ v w1 t1 g1. hn w1 (set_temp i v t1) (agree_still i v t1 k.0 l.0 g1)) w t g)
      same_run (Store x y) p q o o' ho next next' hn w t g =
          let k = either_false (assigns_tx a x) (assigns_tx a y) p in
          let l = either_false (assigns_tx b x) (assigns_tx b y) q in
          paid _ _ _ _ (side_same 1 y)
          (same_sides (val x) (val y) (val (renamed_tx a b x)) (val (renamed_tx a b y)) (same_value x k.0 l.0) (same_value y k.1 l.1) o o' ho
          (λ u v w1 t1. with_memory (store w1.memory u v) w1 (λ w2. next w2 t1))
          (λ u v w1 t1. with_memory (store w1.memory u v) w1 (λ w2. next' w2 t1))
          (λ u v w1 t1 g1. ap (λ f. with_memory (store w1.memory u v) w1 f) (λ i w2. hn w2 t1 g1 i)) w t g)
      same_run (StoreByte x y) p q o o' ho next next' hn w t g =
          let k = either_false (assigns_tx a x) (assigns_tx a y) p in
          let l = either_false (assigns_tx b x) (assigns_tx b y) q in
          paid _ _ _ _ (side_same 1 y)
          (same_sides (val x) (val y) (val (renamed_tx a b x)) (val (renamed_tx a b y)) (same_value x k.0 l.0) (same_value y k.1 l.1) o o' ho
          (λ u v w1 t1. with_memory (store_byte w1.memory u v) w1 (λ w2. next w2 t1))
          (λ u v w1 t1. with_memory (store_byte w1.memory u v) w1 (λ w2. next' w2 t1))
          (λ u v w1 t1 g1. ap (λ f. with_memory (store_byte w1.memory u v) w1 f) (λ i w2. hn w2 t1 g1 i)) w t g)
      same_run (Do x) p q o o' ho next next' hn w t g =
          ap (charged 0) (same_value x p q o o' ho (λ v w1 t1. next w1 t1) (λ v w1 t1. next' w1 t1) (λ v w1 t1 g1. hn w1 t1 g1) w t g)
      same_run (If c s u) p q o o' ho next next' hn w t g =
          let k = either_false (assigns_cond a c) (assigns a s || assigns a u) p in
          let l = either_false (assigns_cond b c) (assigns b s || assigns b u) q in
          let m = either_false (assigns a s) (assigns a u) k.1 in
          let n = either_false (assigns b s) (assigns b u) l.1 in
          let e = around act o back in
          let e' = around act o' back in
          ap (charged 4) (same_test c k.0 l.0 o o' ho (λ z w1 t1. (if z then does s else does u) e next w1 t1)
          (λ z w1 t1. (if z then does (renamed a b s) else does (renamed a b u)) e' next' w1 t1)
          (λ z w1 t1 g1. both_ways z (does s) (does u) (does (renamed a b s)) (does (renamed a b u)) e e' next next' w1 t1
          (same_run s m.0 n.0 o o' ho next next' hn w1 t1 g1) (same_run u m.1 n.1 o o' ho next next' hn w1 t1 g1)) w t g)
      same_run (Loop s) p q o o' ho next next' hn w t g =
          ap (charged 4) (same_run s p q (leaving next o) (leaving next' o') (leaving_same next next' o o' hn ho)
          (λ w1 t1. later (loop_at s act o back next w1 t1)) (λ w1 t1. later (loop_at (renamed a b s) act o' back next' w1 t1))
          (λ w1 t1 g1. loops s p q act back o o' next next' ho hn w1 t1 g1) w t g)
      same_run (Break k) p q o o' ho next next' hn w t g = ap (charged 3) (ho k w t g)
      same_run (Fault k) p q o o' ho next next' hn w t g = refl
      same_run (Seq ss) p q o o' ho next next' hn w t g = ap (charged 0) (same_run_all ss p q o o' ho next next' hn w t g)
      same_run (Return x) p q o o' ho next next' hn w t g =
          ap (charged 16) (same_value x p q o o' ho (λ v w1 t1. back v w1) (λ v w1 t1. back v w1) (λ v w1 t1 g1. refl) w t g)

      same_run_all : (ss : Stms) → assigns_stms a ss ≡ false → assigns_stms b ss ≡ false → (o o' : Out) → SameGo o o' → (next next' : Next) →
          SameNext next next' → (w : World) (t : Temps) → Agree t →
          does_all ss (around act o back) next w t ≡ does_all (renamed_stms a b ss) (around act o' back) next' w t
      same_run_all no_stms p q o o' ho next next' hn w t g = hn w t g
      same_run_all (stm s ss) p q o o' ho next next' hn w t g =
          let k = either_false (assigns a s) (assigns_stms a ss) p in
          let l = either_false (assigns b s) (assigns_stms b ss) q in
          same_run s k.0 l.0 o o' ho (λ w1 t1. does_all ss (around act o back) next w1 t1)
          (λ w1 t1. does_all (renamed_stms a b ss) (around act o' back) next' w1 t1)
          (λ w1 t1 g1. same_run_all ss k.1 l.1 o o' ho next next' hn w1 t1 g1) w t g

-- Loops of such statements, by the units of fuel.
module _ (code : Code Ts) (size : ℕ → ℕ) (floor room : ℕ) where
  abbrev at : ℕ → Point → Run Ran
  at d = nested (stops [] WantsFuel) (step Trees code size floor room) d

  nested_same : (a b d : ℕ) → LoopsSame a b (at d)
  nested_same a b zero s p q act back o o' next next' ho hn w t g = refl
  nested_same a b (suc d) s p q act back o o' next next' ho hn w t g =
      same_run a b room code.literals (enter Trees code size floor room (at d)) (λ x. with_fuel x.world (at d x))
      (λ s1 p1 q1 act1 back1 o1 o1' next1 next1' ho1 hn1 w1 t1 g1.
      ap (λ c. with_fuel w1 c) (nested_same a b d s1 p1 q1 act1 back1 o1 o1' next1 next1' ho1 hn1 w1 t1 g1))
      act back (Loop s) p q o o' ho next next' hn w t g

  abbrev pub goes : Point → Run Ran
  goes = going Trees code size floor room

  abbrev pub later : Point → Run Ran
  later x = with_fuel x.world (goes x)

  pub loops_same : (a b : ℕ) → LoopsSame a b later
  loops_same a b s p q act back o o' next next' ho hn w t g =
      ap (λ c. with_fuel w c) (λ i n. nested_same a b (suc n) s p q act back o o' next next' ho hn w t g i n)

  abbrev pub then_does : Ts → Acts Next
  then_does s = run Trees room code.literals (enter Trees code size floor room goes) later s

  abbrev pub then_all : Stms → Acts Next
  then_all ss = run_all Trees room code.literals (enter Trees code size floor room goes) later ss

  -- a statement after one that copies, or doesn't
  data IsCopy : Ts → Type 0 where
    copies : (a b : ℕ) → IsCopy (Move a (Temp b))
    copies_not : (s : Ts) → copy s ≡ None → IsCopy s

  move_is : (i : ℕ) (x : Tx) → IsCopy (Move i x)
  move_is i (Const n) = copies_not _ refl
  move_is i (Address label) = copies_not _ refl
  move_is i (Temp j) = copies i j
  move_is i FrameAddress = copies_not _ refl
  move_is i (Binary op x y) = copies_not _ refl
  move_is i (Load x) = copies_not _ refl
  move_is i (LoadByte x) = copies_not _ refl
  move_is i (Call label xs) = copies_not _ refl
  move_is i (Service n x) = copies_not _ refl
  move_is i (After s x) = copies_not _ refl

  is_copy : (s : Ts) → IsCopy s
  is_copy (Move i x) = move_is i x
  is_copy (Store x y) = copies_not _ refl
  is_copy (StoreByte x y) = copies_not _ refl
  is_copy (Do x) = copies_not _ refl
  is_copy (If c s t) = copies_not _ refl
  is_copy (Loop s) = copies_not _ refl
  is_copy (Break k) = copies_not _ refl
  is_copy (Fault n) = copies_not _ refl
  is_copy (Seq ss) = copies_not _ refl
  is_copy (Return x) = copies_not _ refl

  copied_run : (a b : ℕ) (s : Ts) (e : Around) (next : Next) (w : World) (t : Temps) →
      then_does (Move a (Temp b)) e (λ w1 t1. then_does s e next w1 t1) w t ≡
      then_does (Move a (Temp b)) e (λ w1 t1. then_does (passed (Some (a, b)) s) e next w1 t1) w t
  copied_run a b s e next w t = by (takes_copy a b s) refl
    where
      by : (z : Bool) → takes_copy a b s ≡ z →
          then_does (Move a (Temp b)) e (λ w1 t1. then_does s e next w1 t1) w t ≡
          then_does (Move a (Temp b)) e (λ w1 t1. then_does (if z then renamed a b s else s) e next w1 t1) w t
      by false f = refl
      by true f = on (t b) refl
        where
          holds_both : (v : ℕ) → t b ≡ Some v → set_temp a v t a ≡ set_temp a v t b
          holds_both v g =
              ap (λ z. if z then Some v else t a) (is_same a) ∙
              sym (ap (λ z. if z then Some v else t b) (turned a b (takes a b s f).apart) ∙ g)

          on : (u : Option ℕ) → t b ≡ u →
              charged 2 (charged 0 (with_word u w (λ v. then_does s e next w (set_temp a v t)))) ≡
              charged 2 (charged 0 (with_word u w (λ v. then_does (renamed a b s) e next w (set_temp a v t))))
          on None g = refl
          on (Some v) g =
              let h = takes a b s f in
              ap (λ c. charged 2 (charged 0 c))
              (same_run a b room code.literals (enter Trees code size floor room goes) later (loops_same a b) e.activation e.back s h.keeps_to h.keeps_from
              e.out e.out (λ k w1 t1 g1. refl) next next (λ w1 t1 g1. refl) w (set_temp a v t) (holds_both v g))

  passed_run : (before s : Ts) (e : Around) (next : Next) (w : World) (t : Temps) →
      then_does before e (λ w1 t1. then_does s e next w1 t1) w t ≡ then_does before e (λ w1 t1. then_does (passed (copy before) s) e next w1 t1) w t
  passed_run before s e next w t = by before (is_copy before)
    where
      by : (before : Ts) → IsCopy before →
          then_does before e (λ w1 t1. then_does s e next w1 t1) w t ≡ then_does before e (λ w1 t1. then_does (passed (copy before) s) e next w1 t1) w t
      by before (copies a b) = copied_run a b s e next w t
      by before (copies_not _ f) = ap (λ o. then_does before e (λ w1 t1. then_does (passed o s) e next w1 t1) w t) (sym f)

  passed_on_run : (before : Ts) (ss : Stms) (e : Around) (next : Next) (w : World) (t : Temps) →
      then_does before e (λ w1 t1. then_all ss e next w1 t1) w t ≡
      then_does before e (λ w1 t1. then_all (passed_on (copy before) ss) e next w1 t1) w t
  passed_on_run before no_stms e next w t = refl
  passed_on_run before (stm s ss) e next w t =
      passed_run before s e (λ w1 t1. then_all ss e next w1 t1) w t ∙
      ap (λ k. then_does before e k w t) (λ i w1 t1. passed_on_run (passed (copy before) s) ss e next w1 t1 i)

  pub all_passed_run : (ss : Stms) (e : Around) (next : Next) (w : World) (t : Temps) →
      then_all ss e next w t ≡ then_all (passed_on None ss) e next w t
  all_passed_run no_stms e next w t = refl
  all_passed_run (stm s ss) e next w t = passed_on_run s ss e next w t
