-- The next number to draw never falls.
use Rattle.std.proofs.Common.{ℕ, ◌+◌, ◌≤◌, ◌&&◌, Bool, true, false, not, arith, subst}
use Rattle.tg_tree.specs.declared.operators.Bin.{Bin}
use Rattle.tg_tree.specs.Tree.{Tx, Const, Address, Temp, FrameAddress, Binary, Load, LoadByte, Call, Service, After, Txs, no_txs, tx, Cond, Compare}
use Rattle.tg_tree.specs.Tree.{Not, Both, Either, Ts, Move, Store, StoreByte, Do, If, Loop, Break, Fault, Seq, Return, Stms, no_stms, stm}
use Rattle.tg_canon.specs.mirror.Drawing.{Draws, Drawn, give, fresh, ◌>>=◌, DrawsFrom}
use Rattle.tg_canon.specs.mirror.Canon.{Part, still, assigning, is_nothing, ◌before◌, loop_of, block, no_parts, in_front, in_turn, Hoisted, Arguments}
use Rattle.tg_canon.specs.mirror.Canon.{no_arguments, whole, behind, hold, is_effect, hold_effect, word, commutes, hold_unless, is_constant, is_sum}
use Rattle.tg_canon.specs.mirror.Canon.{hold_but_offset, hold_for, hold_before, in_front_of, side_by_side, argument, over, over_two, over_all, with_one}
use Rattle.tg_canon.specs.mirror.Canon.{with_two, dropped, is_whole, compared, opposite, joined, choice, exit_where, wide_choice, deeper, inside, choose}
use Rattle.tg_canon.specs.mirror.Canon.{hoist, hoist_all, condition, leave, linear, linear_all, operands, linearized}

pub record Grows {A : Type 0} (m : Draws A) : Type 0 where
  pub at : (k : ℕ) → k ≤ (m k).next

stays_at : {A : Type 0} (a : A) → Grows (give a)
stays_at a = record { at = λ k. omega arith }

pub two : (k l n : ℕ) → k ≤ l → l ≤ n → k ≤ n
two k l n g h = omega arith

pub next : {A B : Type 0} (m : Draws A) (f : A → Draws B) → Grows m → ((a : A) → Grows (f a)) → Grows (m >>= f)
next m f g h = record { at = λ k. two k (m k).next (f (m k).it (m k).next).next (g.at k) ((h (m k).it).at (m k).next) }

pub made : {A B : Type 0} (m : Draws A) (f : A → B) → Grows m → Grows (m >>= (λ a. give (f a)))
made m f g = record { at = g.at }

fresh_grows : Grows fresh
fresh_grows = record { at = λ k. omega arith }

hold_grows : (x : Tx) → Grows (hold x)
hold_grows x = record { at = λ k. omega arith }

pub hold_effect_grows : (b : Bool) (a : Hoisted) → Grows (hold_effect b a)
hold_effect_grows true a = made (hold a.rest) (behind a.front) (hold_grows a.rest)
hold_effect_grows false a = stays_at a

pub word_grows : (m : Draws Hoisted) → Grows m → Grows (word m)
word_grows m g = next m (λ a. hold_effect (is_effect a.rest) a) g (λ a. hold_effect_grows (is_effect a.rest) a)

hold_unless_grows : (b : Bool) (x : Tx) → Grows (hold_unless b x)
hold_unless_grows true x = stays_at (whole x)
hold_unless_grows false x = hold_grows x

hold_but_offset_grows : (b : Bool) (p : Part) (op : Bin) (x y : Tx) → Grows (hold_but_offset b p op x y)
hold_but_offset_grows true p op x y = made (hold_unless (commutes p x) x) (λ a. record { front = a.front; rest = Binary op a.rest y })
    (hold_unless_grows (commutes p x) x)
hold_but_offset_grows false p op x y = hold_grows (Binary op x y)

hold_for_grows : (p : Part) (x : Tx) → Grows (hold_for p x)
hold_for_grows p (Const n) = hold_unless_grows (commutes p (Const n)) (Const n)
hold_for_grows p (Address n) = hold_unless_grows (commutes p (Address n)) (Address n)
hold_for_grows p (Temp i) = hold_unless_grows (commutes p (Temp i)) (Temp i)
hold_for_grows p FrameAddress = hold_unless_grows (commutes p FrameAddress) FrameAddress
hold_for_grows p (Binary op x y) = hold_but_offset_grows (is_sum op && is_constant y) p op x y
hold_for_grows p (Load x) = hold_unless_grows (commutes p (Load x)) (Load x)
hold_for_grows p (LoadByte x) = hold_unless_grows (commutes p (LoadByte x)) (LoadByte x)
hold_for_grows p (Call f xs) = hold_unless_grows (commutes p (Call f xs)) (Call f xs)
hold_for_grows p (Service n x) = hold_unless_grows (commutes p (Service n x)) (Service n x)
hold_for_grows p (After s x) = hold_unless_grows (commutes p (After s x)) (After s x)

hold_before_grows : (b : Bool) (p : Part) (a : Hoisted) → Grows (hold_before b p a)
hold_before_grows true p a = stays_at a
hold_before_grows false p a = made (hold_for p a.rest) (behind a.front) (hold_for_grows p a.rest)

pub in_front_grows : (p : Part) (a : Hoisted) → Grows (in_front_of p a)
in_front_grows p a = hold_before_grows (is_nothing p.statement) p a

pub side_by_side_grows : (a b : Hoisted) → Grows (side_by_side a b)
side_by_side_grows a b =
    made (in_front_of b.front a) (λ h. record { front = h.front before b.front; left = h.rest; right = b.rest })
    (hold_before_grows (is_nothing b.front.statement) b.front a)

pub argument_grows : (a : Hoisted) (all : Arguments) → Grows (argument a all)
argument_grows a all =
    made (in_front_of all.front a) (λ h. record { front = h.front before all.front; rest = tx h.rest all.rest })
    (hold_before_grows (is_nothing all.front.statement) all.front a)

operands_grow : (m n : Draws Hoisted) → Grows m → Grows n → Grows (word n >>= λ b. word m >>= λ a. side_by_side a b)
operands_grow m n g h =
    next (word n) (λ b. word m >>= λ a. side_by_side a b) (word_grows n h)
    (λ b. next (word m) (λ a. side_by_side a b) (word_grows m g) (λ a. side_by_side_grows a b))

pub in_turn_grow : {A B C : Type 0} (m : Draws A) (n : Draws B) (f : A → B → C) → Grows m → Grows n → Grows (m >>= λ a. n >>= λ b. give (f a b))
in_turn_grow m n f g h = next m (λ a. n >>= λ b. give (f a b)) g (λ a. made n (f a) h)

three_grow : {A B C D : Type 0} (m : Draws A) (n : Draws B) (o : Draws C) (f : A → B → C → D) → Grows m → Grows n →
    Grows o → Grows (m >>= λ a. n >>= λ b. o >>= λ c. give (f a b c))
three_grow m n o f g h i = next m (λ a. n >>= λ b. o >>= λ c. give (f a b c)) g (λ a. in_turn_grow n o (f a) h i)

choose_grows : (b : Bool) (m n : Draws Part) → Grows m → Grows n → Grows (choose b m n)
choose_grows true m n g h = g
choose_grows false m n g h = h

mutual
  pub hoist_grows : (out : ℕ → ℕ) (x : Tx) → Grows (hoist out x)
  hoist_grows out (Const n) = stays_at (whole (Const n))
  hoist_grows out (Address n) = stays_at (whole (Address n))
  hoist_grows out (Temp i) = stays_at (whole (Temp i))
  hoist_grows out FrameAddress = stays_at (whole FrameAddress)
  hoist_grows out (Binary op x y) = made (operands out x y) (over_two (Binary op))
      (operands_grow (hoist out x) (hoist out y) (hoist_grows out x) (hoist_grows out y))
  hoist_grows out (Load x) = made (word (hoist out x)) (over Load) (word_grows (hoist out x) (hoist_grows out x))
  hoist_grows out (LoadByte x) = made (word (hoist out x)) (over LoadByte) (word_grows (hoist out x) (hoist_grows out x))
  hoist_grows out (Call f xs) = made (hoist_all out xs) (over_all (Call f)) (hoist_all_grows out xs)
  hoist_grows out (Service n x) = made (word (hoist out x)) (over (Service n)) (word_grows (hoist out x) (hoist_grows out x))
  hoist_grows out (After s x) = in_turn_grow (hoist out x) (linear out s) (λ a p. behind p a) (hoist_grows out x) (linear_grows out s)

  pub hoist_all_grows : (out : ℕ → ℕ) (xs : Txs) → Grows (hoist_all out xs)
  hoist_all_grows out no_txs = stays_at no_arguments
  hoist_all_grows out (tx x xs) =
      next (hoist_all out xs) (λ all. word (hoist out x) >>= λ a. argument a all) (hoist_all_grows out xs)
      (λ all. next (word (hoist out x)) (λ a. argument a all) (word_grows (hoist out x) (hoist_grows out x)) (λ a. argument_grows a all))

  pub condition_grows : (out : ℕ → ℕ) (c : Cond) → Grows (condition out c)
  condition_grows out (Compare rel x y) = made (operands out x y) (compared (Compare rel))
      (operands_grow (hoist out x) (hoist out y) (hoist_grows out x) (hoist_grows out y))
  condition_grows out (Not c) = made (condition out c) opposite (condition_grows out c)
  condition_grows out (Both c d) = in_turn_grow (condition out d) (condition out c) (λ u t. joined Both t u) (condition_grows out d) (condition_grows out c)
  condition_grows out (Either c d) = in_turn_grow (condition out d) (condition out c) (λ u t. joined Either t u) (condition_grows out d) (condition_grows out c)

  pub leave_grows : (out : ℕ → ℕ) (w : Bool) (n : ℕ) (c : Cond) → Grows (leave out w n c)
  leave_grows out w n (Compare rel x y) =
      made (operands out x y) (λ ab. exit_where w n (compared (Compare rel) ab)) (operands_grow (hoist out x) (hoist out y) (hoist_grows out x) (hoist_grows out y))
  leave_grows out w n (Not c) = leave_grows out (not w) n c
  leave_grows out false n (Both c d) = in_turn_grow (leave out false n d) (leave out false n c) (λ q p. p before q)
      (leave_grows out false n d) (leave_grows out false n c)
  leave_grows out true n (Both c d) =
      in_turn_grow (leave (deeper 1 out) true (n + 1) d) (leave (deeper 1 out) false 0 c) (λ q p. block (p before q))
      (leave_grows (deeper 1 out) true (n + 1) d)
      (leave_grows (deeper 1 out) false 0 c)
  leave_grows out true n (Either c d) = in_turn_grow (leave out true n d) (leave out true n c) (λ q p. p before q)
      (leave_grows out true n d) (leave_grows out true n c)
  leave_grows out false n (Either c d) =
      in_turn_grow (leave (deeper 1 out) false (n + 1) d) (leave (deeper 1 out) true 0 c) (λ q p. block (p before q))
      (leave_grows (deeper 1 out) false (n + 1) d)
      (leave_grows (deeper 1 out) true 0 c)

  pub linear_grows : (out : ℕ → ℕ) (s : Ts) → Grows (linear out s)
  linear_grows out (Move i x) = made (hoist out x) (with_one (λ v. assigning i (Move i v))) (hoist_grows out x)
  linear_grows out (Store x y) = made (operands out x y) (with_two Store) (operands_grow (hoist out x) (hoist out y) (hoist_grows out x) (hoist_grows out y))
  linear_grows out (StoreByte x y) = made (operands out x y) (with_two StoreByte)
      (operands_grow (hoist out x) (hoist out y) (hoist_grows out x) (hoist_grows out y))
  linear_grows out (Do x) = made (hoist out x) (with_one dropped) (hoist_grows out x)
  linear_grows out (If c s t) =
      choose_grows (is_whole c) (linear out t >>= λ q. linear out s >>= λ p. condition out c >>= λ u. give (choice u p q))
      (linear (deeper 1 out) t >>= λ q. linear (deeper 2 out) s >>= λ p. leave (deeper 2 out) false 0 c >>= λ u. give (wide_choice u p q))
      (three_grow (linear out t) (linear out s) (condition out c) (λ q p u. choice u p q) (linear_grows out t) (linear_grows out s) (condition_grows out c))
      (three_grow (linear (deeper 1 out) t) (linear (deeper 2 out) s) (leave (deeper 2 out) false 0 c) (λ q p u. wide_choice u p q)
      (linear_grows (deeper 1 out) t) (linear_grows (deeper 2 out) s) (leave_grows (deeper 2 out) false 0 c))
  linear_grows out (Loop s) = made (linear (inside out) s) loop_of (linear_grows (inside out) s)
  linear_grows out (Break n) = stays_at (still (Break (out n)))
  linear_grows out (Fault n) = stays_at (still (Fault n))
  linear_grows out (Seq ss) = made (linear_all out ss) in_turn (linear_all_grows out ss)
  linear_grows out (Return x) = made (word (hoist out x)) (with_one (λ v. still (Return v))) (word_grows (hoist out x) (hoist_grows out x))

  pub linear_all_grows : (out : ℕ → ℕ) (ss : Stms) → Grows (linear_all out ss)
  linear_all_grows out no_stms = stays_at no_parts
  linear_all_grows out (stm s ss) = in_turn_grow (linear_all out ss) (linear out s) (λ all p. in_front p all) (linear_all_grows out ss) (linear_grows out s)

pub body_grows : (body : Ts) {k l : ℕ} {p : Part} → DrawsFrom (linear (λ k. k) body) k p l → k ≤ l
body_grows body {k = k} g = subst (λ (d : Drawn Part). k ≤ d.next) g.is ((linear_grows (λ k. k) body).at k)

pub linearized_grows : (body : Ts) (k : ℕ) → k ≤ (linearized body k).next
linearized_grows body k = (linear_grows (λ i. i) body).at k
