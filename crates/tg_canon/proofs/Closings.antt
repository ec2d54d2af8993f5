-- The pass keeps bodies closed: breaks stay inside of enough loops, and the last statement stays last.
use Rattle.std.proofs.Common.{◌≡◌, ◌<◌, ℕ, zero, suc, ◌+◌, Bool, true, false, refl, if◌then◌else◌, arith}
use Rattle.tg_tree.specs.declared.operators.Bin.{Bin}
use Rattle.tg_tree.specs.Tree.{Tx, Const, Address, Temp, FrameAddress, Binary, Load, LoadByte, Call, Service, After, Txs, no_txs, tx, Cond, Compare}
use Rattle.tg_tree.specs.Tree.{Not, Both, Either, Ts, Move, Store, StoreByte, Do, If, Loop, Break, Fault, Seq, Return, Stms, no_stms, stm}
use Rattle.tg_tree.specs.Shapes.{BreaksWithin, BreaksWithinStms, BreaksWithinTx, BreaksWithinTxs, BreaksWithinCond, EndsFunction, LastEndsFunction}
use Rattle.tg_tree.specs.Shapes.{IsClosed, AreClosed}
use Rattle.tg_canon.specs.mirror.Drawing.{Draws, give, ◌>>=◌}
use Rattle.tg_canon.specs.mirror.Canon.{Part, still, nothing, is_nothing, pair, first_then, ◌before◌, loop_of, block, Parts, no_parts, in_front, in_turn}
use Rattle.tg_canon.specs.mirror.Canon.{Hoisted, Two, Arguments, behind, hold, is_effect, hold_effect, word, commutes, hold_unless, hold_but_offset, hold_for}
use Rattle.tg_canon.specs.mirror.Canon.{hold_before, in_front_of, side_by_side, argument, over, over_two, over_all, with_one, with_two, assigning, acts}
use Rattle.tg_canon.specs.mirror.Canon.{dropped, is_whole, Tested, compared, opposite, joined, choice, exit_where, wide_choice, deeper, inside, choose, hoist}
use Rattle.tg_canon.specs.mirror.Canon.{hoist_all, condition, leave, linear, linear_all, statements_of, linearized}
use Rattle.tg_canon.proofs.Always.{one_of_two, Always, give_is, next, made}

-- Inside so many loops.
module _ (n : ℕ) where
  record Within (p : Part) : Type 0 where
    part : BreaksWithin n p.statement

  record HoistedWithin (a : Hoisted) : Type 0 where
    front : BreaksWithin n a.front.statement
    rest : BreaksWithinTx n a.rest

  record TwoWithin (a : Two) : Type 0 where
    front : BreaksWithin n a.front.statement
    left : BreaksWithinTx n a.left
    right : BreaksWithinTx n a.right

  record AllWithin (a : Arguments) : Type 0 where
    front : BreaksWithin n a.front.statement
    rest : BreaksWithinTxs n a.rest

  record PartsWithin (p : Parts) : Type 0 where
    list : BreaksWithinStms n p.list

  first_then_within : (s t : Ts) → BreaksWithin n s → BreaksWithin n t → BreaksWithin n (first_then s t)
  first_then_within s t p q =
      one_of_two (BreaksWithin n) (is_nothing s) q (one_of_two (BreaksWithin n) (is_nothing t) p (p, (q, tt)))

  hold_within : (x : Tx) → BreaksWithinTx n x → Always HoistedWithin (hold x)
  hold_within x h = record { at = λ k. record { front = h; rest = tt } }

  behind_within : (p : Part) (a : Hoisted) → BreaksWithin n p.statement → HoistedWithin a → HoistedWithin (behind p a)
  behind_within p a h w = record { front = first_then_within p.statement a.front.statement h w.front; rest = w.rest }

  hold_effect_within : (b : Bool) (a : Hoisted) → HoistedWithin a → Always HoistedWithin (hold_effect b a)
  hold_effect_within true a w = next (hold a.rest) (λ h. give (behind a.front h)) (hold_within a.rest w.rest) (λ h v. give_is (behind_within a.front h w.front v))
  hold_effect_within false a w = give_is w

  word_within : (m : Draws Hoisted) → Always HoistedWithin m → Always HoistedWithin (word m)
  word_within m h = next m (λ a. hold_effect (is_effect a.rest) a) h (λ a w. hold_effect_within (is_effect a.rest) a w)

  hold_unless_within : (b : Bool) (x : Tx) → BreaksWithinTx n x → Always HoistedWithin (hold_unless b x)
  hold_unless_within true x h = give_is (record { front = tt; rest = h })
  hold_unless_within false x h = hold_within x h

  hold_but_offset_within : (b : Bool) (p : Part) (op : Bin) (x y : Tx) → BreaksWithinTx n x → BreaksWithinTx n y →
      Always HoistedWithin (hold_but_offset b p op x y)
  hold_but_offset_within true p op x y hx hy =
      next (hold_unless (commutes p x) x) (λ a. give (record { front = a.front; rest = Binary op a.rest y }))
      (hold_unless_within (commutes p x) x hx) (λ a w. give_is (record { front = w.front; rest = (w.rest, hy) }))
  hold_but_offset_within false p op x y hx hy = hold_within (Binary op x y) (hx, hy)

  hold_for_within : (p : Part) (x : Tx) → BreaksWithinTx n x → Always HoistedWithin (hold_for p x)
  hold_for_within p (Binary op x y) h = hold_but_offset_within _ p op x y h.0 h.1
  hold_for_within p (Const i) h = hold_unless_within (commutes p (Const i)) (Const i) h
  hold_for_within p (Address i) h = hold_unless_within (commutes p (Address i)) (Address i) h
  hold_for_within p (Temp i) h = hold_unless_within (commutes p (Temp i)) (Temp i) h
  hold_for_within p FrameAddress h = hold_unless_within (commutes p FrameAddress) FrameAddress h
  hold_for_within p (Load x) h = hold_unless_within (commutes p (Load x)) (Load x) h
  hold_for_within p (LoadByte x) h = hold_unless_within (commutes p (LoadByte x)) (LoadByte x) h
  hold_for_within p (Call f xs) h = hold_unless_within (commutes p (Call f xs)) (Call f xs) h
  hold_for_within p (Service i x) h = hold_unless_within (commutes p (Service i x)) (Service i x) h
  hold_for_within p (After s x) h = hold_unless_within (commutes p (After s x)) (After s x) h

  in_front_of_within : (b : Bool) (p : Part) (a : Hoisted) → HoistedWithin a → Always HoistedWithin (hold_before b p a)
  in_front_of_within true p a w = give_is w
  in_front_of_within false p a w = next (hold_for p a.rest) (λ h. give (behind a.front h)) (hold_for_within p a.rest w.rest)
      (λ h v. give_is (behind_within a.front h w.front v))

  side_by_side_within : (a b : Hoisted) → HoistedWithin a → HoistedWithin b → Always TwoWithin (side_by_side a b)
  side_by_side_within a b v w =
      next (in_front_of b.front a) (λ h. give (record { front = h.front before b.front; left = h.rest; right = b.rest }))
      (in_front_of_within _ b.front a v)
      (λ h u. give_is (record { front = first_then_within h.front.statement b.front.statement u.front w.front; left = u.rest; right = w.rest }))

  argument_within : (a : Hoisted) (all : Arguments) → HoistedWithin a → AllWithin all → Always AllWithin (argument a all)
  argument_within a all v w =
      next (in_front_of all.front a) (λ h. give (record { front = h.front before all.front; rest = tx h.rest all.rest }))
      (in_front_of_within _ all.front a v)
      (λ h u. give_is (record { front = first_then_within h.front.statement all.front.statement u.front w.front; rest = (u.rest, w.rest) }))

  two_within : {B : Type 0} {Q : B → Type 0} (m l : Draws Hoisted) (f : Two → B) → Always HoistedWithin m → Always HoistedWithin l →
      ((a : Two) → TwoWithin a → Q (f a)) →
      Always Q (word l >>= (λ b. word m >>= (λ a. side_by_side a b >>= (λ ab. give (f ab)))))
  two_within m l f hm hl g =
      next (word l) _ (word_within l hl)
      (λ b w. next (word m) _ (word_within m hm) (λ a v. next (side_by_side a b) _ (side_by_side_within a b v w) (λ ab t. give_is (g ab t))))

  one_within : {B : Type 0} {Q : B → Type 0} (m : Draws Hoisted) (f : Hoisted → B) → Always HoistedWithin m →
      ((a : Hoisted) → HoistedWithin a → Q (f a)) → Always Q (word m >>= (λ a. give (f a)))
  one_within m f hm g = next (word m) _ (word_within m hm) (λ a w. give_is (g a w))

  in_front_within : (p : Part) (all : Parts) → Within p → PartsWithin all → PartsWithin (in_front p all)
  in_front_within p all h l = record { list = one_of_two (BreaksWithinStms n) (is_nothing p.statement) l.list (h.part, l.list) }

  record TestedWithin (t : Tested) : Type 0 where
    front : BreaksWithin n t.front.statement
    condition : BreaksWithinCond n t.condition

  choice_within : (t : Tested) (p q : Part) → TestedWithin t → Within p → Within q → Within (choice t p q)
  choice_within t p q ht hp hq = record { part = first_then_within t.front.statement _ ht.front (ht.condition, hp.part, hq.part) }

  exit_within : (w : Bool) (k : ℕ) (t : Tested) → k < n → TestedWithin t → Within (exit_where w k t)
  exit_within true k t lt h = choice_within t (still (Break k)) (still nothing) h (record { part = lt }) (record { part = tt })
  exit_within false k t lt h = choice_within t (still nothing) (still (Break k)) h (record { part = tt }) (record { part = lt })

  before_within : (p q : Part) → Within p → Within q → Within (p before q)
  before_within p q hp hq = record { part = first_then_within p.statement q.statement hp.part hq.part }

  both_within : (t u : Tested) → TestedWithin t → TestedWithin u → TestedWithin (joined Both t u)
  both_within t u h l = record { front = first_then_within t.front.statement u.front.statement h.front l.front; condition = (h.condition, l.condition) }

  either_within : (t u : Tested) → TestedWithin t → TestedWithin u → TestedWithin (joined Either t u)
  either_within t u h l = record { front = first_then_within t.front.statement u.front.statement h.front l.front; condition = (h.condition, l.condition) }

  choose_within : (b : Bool) (m l : Draws Part) → Always Within m → Always Within l → Always Within (choose b m l)
  choose_within true m l h k = h
  choose_within false m l h k = k

  dropped_within : (x : Tx) → BreaksWithinTx n x → BreaksWithin n (dropped x).statement
  dropped_within x h = one_of_two (BreaksWithin n) (acts x) h tt

block_within : (n : ℕ) (p : Part) → Within (n + 1) p → Within n (block p)
block_within n p h = record { part = (h.part, (omega arith, tt)) }

wide_within : (n : ℕ) (t p q : Part) → Within (n + 1 + 1) t → Within (n + 1 + 1) p → Within (n + 1) q → Within n (wide_choice t p q)
wide_within n t p q ht hp hq =
    let out : 1 < n + 1 + 1 = omega arith in
    let first : Within (n + 1 + 1) (t before p before still (Break 1)) = before_within (n + 1 + 1) (t before p) (still (Break 1)) (before_within (n + 1 + 1) t p ht hp) (record { part = out }) in
    let inner : Within (n + 1) (loop_of (t before p before still (Break 1))) = record { part = first.part } in
    block_within n (loop_of (t before p before still (Break 1)) before q) (before_within (n + 1) (loop_of (t before p before still (Break 1))) q inner hq)

-- breaks that stay in so many loops lead into so many
pub record Leads (loops n : ℕ) (out : ℕ → ℕ) : Type 0 where
  pub lead : (k : ℕ) → k < loops → out k < n

one_deeper : (loops n : ℕ) (out : ℕ → ℕ) → Leads loops n out → Leads loops (n + 1) (deeper 1 out)
one_deeper loops n out h = record { lead = λ k lt. let l : out k < n = h.lead k lt in omega arith }

two_deeper : (loops n : ℕ) (out : ℕ → ℕ) → Leads loops n out → Leads loops (n + 1 + 1) (deeper 2 out)
two_deeper loops n out h = record { lead = λ k lt. let l : out k < n = h.lead k lt in omega arith }

loop_deeper : (loops n : ℕ) (out : ℕ → ℕ) → Leads loops n out → Leads (loops + 1) (n + 1) (inside out)
loop_deeper loops n out h = record { lead = led }
  where
    led : (k : ℕ) → k < loops + 1 → inside out k < n + 1
    led zero lt = omega arith
    led (suc k) lt = let l : out k < n = h.lead k (omega arith) in omega arith

-- two parts of a test
tests_within : (n n' : ℕ) (m l : Draws Part) (f : Part → Part) → Always (Within n') m → Always (Within n') l →
    ((p : Part) → Within n' p → Within n (f p)) → Always (Within n) (l >>= (λ q. m >>= (λ p. give (f (p before q)))))
tests_within n n' m l f hm hl hf = next l _ hl (λ q hq. next m _ hm (λ p hp. give_is (hf (p before q) (before_within n' p q hp hq))))

mutual
  hoist_within : (loops n : ℕ) (out : ℕ → ℕ) (x : Tx) → Leads loops n out → BreaksWithinTx loops x → Always (HoistedWithin n) (hoist out x)
  hoist_within loops n out (Const i) o h = give_is (record { front = tt; rest = tt })
  hoist_within loops n out (Address i) o h = give_is (record { front = tt; rest = tt })
  hoist_within loops n out (Temp i) o h = give_is (record { front = tt; rest = tt })
  hoist_within loops n out FrameAddress o h = give_is (record { front = tt; rest = tt })
  hoist_within loops n out (Binary op x y) o h = two_within n (hoist out x) (hoist out y) (over_two (Binary op))
      (hoist_within loops n out x o h.0) (hoist_within loops n out y o h.1) (λ a t. record { front = t.front; rest = (t.left, t.right) })
  hoist_within loops n out (Load x) o h = one_within n (hoist out x) (over Load) (hoist_within loops n out x o h)
      (λ a w. record { front = w.front; rest = w.rest })
  hoist_within loops n out (LoadByte x) o h = one_within n (hoist out x) (over LoadByte) (hoist_within loops n out x o h)
      (λ a w. record { front = w.front; rest = w.rest })
  hoist_within loops n out (Call f xs) o h = made (hoist_all out xs) (over_all (Call f)) (hoist_all_within loops n out xs o h)
      (λ a w. record { front = w.front; rest = w.rest })
  hoist_within loops n out (Service i x) o h = one_within n (hoist out x) (over (Service i)) (hoist_within loops n out x o h)
      (λ a w. record { front = w.front; rest = w.rest })
  hoist_within loops n out (After s x) o h = next (hoist out x) (λ a. linear out s >>= (λ p. give (behind p a)))
      (hoist_within loops n out x o h.1) (λ a w. made (linear out s) (λ p. behind p a) (linear_within loops n out s o h.0) (λ p l. behind_within n p a l.part w))

  hoist_all_within : (loops n : ℕ) (out : ℕ → ℕ) (xs : Txs) → Leads loops n out → BreaksWithinTxs loops xs → Always (AllWithin n) (hoist_all out xs)
  hoist_all_within loops n out no_txs o h = give_is (record { front = tt; rest = tt })
  hoist_all_within loops n out (tx x xs) o h = next (hoist_all out xs) (λ all. word (hoist out x) >>= (λ a. argument a all))
      (hoist_all_within loops n out xs o h.1) (λ all l. next (word (hoist out x)) (λ a. argument a all)
      (word_within n (hoist out x) (hoist_within loops n out x o h.0)) (λ a w. argument_within n a all w l))

  condition_within : (loops n : ℕ) (out : ℕ → ℕ) (c : Cond) → Leads loops n out → BreaksWithinCond loops c → Always (TestedWithin n) (condition out c)
  condition_within loops n out (Compare rel x y) o h = two_within n (hoist out x) (hoist out y) (compared (Compare rel))
      (hoist_within loops n out x o h.0) (hoist_within loops n out y o h.1) (λ a t. record { front = t.front; condition = (t.left, t.right) })
  condition_within loops n out (Not c) o h = made (condition out c) opposite (condition_within loops n out c o h)
      (λ t l. record { front = l.front; condition = l.condition })
  condition_within loops n out (Both c d) o h = next (condition out d) (λ u. condition out c >>= (λ t. give (joined Both t u)))
      (condition_within loops n out d o h.1) (λ u l. made (condition out c) (λ t. joined Both t u) (condition_within loops n out c o h.0)
      (λ t m. both_within n t u m l))
  condition_within loops n out (Either c d) o h = next (condition out d) (λ u. condition out c >>= (λ t. give (joined Either t u)))
      (condition_within loops n out d o h.1) (λ u l. made (condition out c) (λ t. joined Either t u)
      (condition_within loops n out c o h.0) (λ t m. either_within n t u m l))

  leave_within : (loops n : ℕ) (out : ℕ → ℕ) (w : Bool) (k : ℕ) (c : Cond) → Leads loops n out → k < n →
      BreaksWithinCond loops c → Always (Within n) (leave out w k c)
  leave_within loops n out w k (Compare rel x y) o lt h = two_within n (hoist out x) (hoist out y)
      (λ ab. exit_where w k (compared (Compare rel) ab)) (hoist_within loops n out x o h.0) (hoist_within loops n out y o h.1)
      (λ a t. exit_within n w k (compared (Compare rel) a) lt (record { front = t.front; condition = (t.left, t.right) }))
  leave_within loops n out true k (Not c) o lt h = leave_within loops n out false k c o lt h
  leave_within loops n out false k (Not c) o lt h = leave_within loops n out true k c o lt h
  leave_within loops n out false k (Both c d) o lt h = tests_within n n (leave out false k c) (leave out false k d)
      (λ p. p) (leave_within loops n out false k c o lt h.0) (leave_within loops n out false k d o lt h.1) (λ p q. q)
  leave_within loops n out true k (Both c d) o lt h = tests_within n (n + 1) (leave (deeper 1 out) false 0 c)
      (leave (deeper 1 out) true (k + 1) d) block (leave_within loops (n + 1) (deeper 1 out) false 0 c (one_deeper loops n out o) (omega arith) h.0)
      (leave_within loops (n + 1) (deeper 1 out) true (k + 1) d (one_deeper loops n out o) (omega arith) h.1) (block_within n)
  leave_within loops n out true k (Either c d) o lt h = tests_within n n (leave out true k c) (leave out true k d) (λ p. p)
      (leave_within loops n out true k c o lt h.0) (leave_within loops n out true k d o lt h.1) (λ p q. q)
  leave_within loops n out false k (Either c d) o lt h = tests_within n (n + 1) (leave (deeper 1 out) true 0 c)
      (leave (deeper 1 out) false (k + 1) d) block (leave_within loops (n + 1) (deeper 1 out) true 0 c (one_deeper loops n out o) (omega arith) h.0)
      (leave_within loops (n + 1) (deeper 1 out) false (k + 1) d (one_deeper loops n out o) (omega arith) h.1) (block_within n)

  linear_within : (loops n : ℕ) (out : ℕ → ℕ) (s : Ts) → Leads loops n out → BreaksWithin loops s → Always (Within n) (linear out s)
  linear_within loops n out (Move i x) o h = made (hoist out x) (with_one (λ v. assigning i (Move i v)))
      (hoist_within loops n out x o h) (λ a w. record { part = first_then_within n a.front.statement (Move i a.rest) w.front w.rest })
  linear_within loops n out (Store x y) o h = two_within n (hoist out x) (hoist out y) (with_two Store)
      (hoist_within loops n out x o h.0) (hoist_within loops n out y o h.1)
      (λ a t. record { part = first_then_within n a.front.statement (Store a.left a.right) t.front (t.left, t.right) })
  linear_within loops n out (StoreByte x y) o h = two_within n (hoist out x) (hoist out y) (with_two StoreByte)
      (hoist_within loops n out x o h.0) (hoist_within loops n out y o h.1)
      (λ a t. record { part = first_then_within n a.front.statement (StoreByte a.left a.right) t.front (t.left, t.right) })
  linear_within loops n out (Do x) o h = made (hoist out x) (with_one dropped) (hoist_within loops n out x o h)
      (λ a w. record { part = first_then_within n a.front.statement (dropped a.rest).statement w.front (dropped_within n a.rest w.rest) })
  linear_within loops n out (If c s t) o h =
      choose_within n (is_whole c) _ _
      (next (linear out t) (λ q. linear out s >>= (λ p. condition out c >>= (λ u. give (choice u p q)))) (linear_within loops n out t o h.2) (λ q hq.
      next (linear out s) (λ p. condition out c >>= (λ u. give (choice u p q))) (linear_within loops n out s o h.1) (λ p hp.
      made (condition out c) (λ u. choice u p q) (condition_within loops n out c o h.0) (λ u hu. choice_within n u p q hu hp hq))))
      (next (linear (deeper 1 out) t) (λ q. linear (deeper 2 out) s >>= (λ p. leave (deeper 2 out) false 0 c >>= (λ u. give (wide_choice u p q))))
      (linear_within loops (n + 1) (deeper 1 out) t (one_deeper loops n out o) h.2) (λ q hq.
      next (linear (deeper 2 out) s) (λ p. leave (deeper 2 out) false 0 c >>= (λ u. give (wide_choice u p q)))
      (linear_within loops (n + 1 + 1) (deeper 2 out) s (two_deeper loops n out o) h.1) (λ p hp.
      made (leave (deeper 2 out) false 0 c) (λ u. wide_choice u p q) (leave_within loops (n + 1 + 1) (deeper 2 out) false
      0 c (two_deeper loops n out o) (omega arith) h.0) (λ u hu. wide_within n u p q hu hp hq))))
  linear_within loops n out (Loop s) o h = made (linear (inside out) s) loop_of
      (linear_within (loops + 1) (n + 1) (inside out) s (loop_deeper loops n out o) h) (λ p l. record { part = l.part })
  linear_within loops n out (Break k) o h = give_is (record { part = o.lead k h })
  linear_within loops n out (Fault i) o h = give_is (record { part = tt })
  linear_within loops n out (Seq ss) o h = made (linear_all out ss) in_turn (linear_all_within loops n out ss o h) (λ all l. record { part = l.list })
  linear_within loops n out (Return x) o h = one_within n (hoist out x) (with_one (λ v. still (Return v)))
      (hoist_within loops n out x o h) (λ a w. record { part = first_then_within n a.front.statement (Return a.rest) w.front w.rest })

  linear_all_within : (loops n : ℕ) (out : ℕ → ℕ) (ss : Stms) → Leads loops n out → BreaksWithinStms loops ss → Always (PartsWithin n) (linear_all out ss)
  linear_all_within loops n out no_stms o h = give_is (record { list = tt })
  linear_all_within loops n out (stm s ss) o h = next (linear_all out ss) (λ all. linear out s >>= (λ p. give (in_front p all)))
      (linear_all_within loops n out ss o h.1) (λ all l. made (linear out s) (λ p. in_front p all) (linear_within loops n out s o h.0)
      (λ p m. in_front_within n p all m l))

-- The last statement.

record Ends (p : Part) : Type 0 where
  ends : EndsFunction p.statement

record AllEnd (p : Parts) : Type 0 where
  ends : LastEndsFunction p.list

ends_something : (s : Ts) → EndsFunction s → is_nothing s ≡ false
ends_something (Fault n) h = refl
ends_something (Return x) h = refl
ends_something (Seq no_stms) h = absurd h
ends_something (Seq (stm s ss)) h = refl
ends_something (Move i x) h = absurd h
ends_something (Store x y) h = absurd h
ends_something (StoreByte x y) h = absurd h
ends_something (Do x) h = absurd h
ends_something (If c s t) h = absurd h
ends_something (Loop s) h = absurd h
ends_something (Break k) h = absurd h

first_then_ends : (s t : Ts) → EndsFunction t → EndsFunction (first_then s t)
first_then_ends s t h = one_of_two EndsFunction (is_nothing s) h (second (is_nothing t) (ends_something t h))
  where
    second : (b : Bool) → b ≡ false → EndsFunction (if b then s else pair s t)
    second true e = cc
    second false e = h

more_ends : (s : Ts) (ss : Stms) → LastEndsFunction ss → LastEndsFunction (stm s ss)
more_ends s no_stms h = absurd h
more_ends s (stm t ss) h = h

in_front_ends : (p : Part) (all : Parts) → AllEnd all → AllEnd (in_front p all)
in_front_ends p all h = record { ends = one_of_two LastEndsFunction (is_nothing p.statement) h.ends (more_ends p.statement all.list h.ends) }

last_ends : (p : Part) → Ends p → AllEnd (in_front p no_parts)
last_ends p h = record { ends = last (is_nothing p.statement) (ends_something p.statement h.ends) }
  where
    last : (b : Bool) → b ≡ false → LastEndsFunction (if b then no_stms else stm p.statement no_stms)
    last true e = cc
    last false e = h.ends

mutual
  linear_ends : (out : ℕ → ℕ) (s : Ts) → EndsFunction s → Always Ends (linear out s)
  linear_ends out (Fault n) h = give_is (record { ends = tt })
  linear_ends out (Return x) h =
      record { at = λ k. record { ends = first_then_ends (word (hoist out x) k).it.front.statement (Return (word (hoist out x) k).it.rest) tt } }
  linear_ends out (Seq ss) h = made (linear_all out ss) in_turn (linear_all_end out ss h) (λ all l. record { ends = l.ends })
  linear_ends out (Move i x) h = absurd h
  linear_ends out (Store x y) h = absurd h
  linear_ends out (StoreByte x y) h = absurd h
  linear_ends out (Do x) h = absurd h
  linear_ends out (If c s t) h = absurd h
  linear_ends out (Loop s) h = absurd h
  linear_ends out (Break k) h = absurd h

  linear_all_end : (out : ℕ → ℕ) (ss : Stms) → LastEndsFunction ss → Always AllEnd (linear_all out ss)
  linear_all_end out no_stms h = absurd h
  linear_all_end out (stm s no_stms) h = made (linear out s) (λ p. in_front p no_parts) (linear_ends out s h) last_ends
  linear_all_end out (stm s (stm t ss)) h = next (linear_all out (stm t ss)) (λ all. linear out s >>= (λ p. give (in_front p all)))
      (linear_all_end out (stm t ss) h) (λ all l. record { at = λ k. in_front_ends (linear out s k).it all l })

statements_closed : (s : Ts) → BreaksWithin 0 s → EndsFunction s → AreClosed (statements_of s)
statements_closed (Seq ss) h l = record { breaks = h; last = l }
statements_closed (Fault n) h l = record { breaks = (tt, tt); last = tt }
statements_closed (Return x) h l = record { breaks = (h, tt); last = tt }
statements_closed (Move i x) h l = absurd l
statements_closed (Store x y) h l = absurd l
statements_closed (StoreByte x y) h l = absurd l
statements_closed (Do x) h l = absurd l
statements_closed (If c s t) h l = absurd l
statements_closed (Loop s) h l = absurd l
statements_closed (Break k) h l = absurd l

pub linearized_closed : (body : Ts) (k : ℕ) → IsClosed body → AreClosed (linearized body k).it
linearized_closed body k h =
    statements_closed (linear (λ i. i) body k).it.statement ((linear_within 0 0 (λ i. i) body (record { lead = λ i lt. lt }) h.breaks).at k).part
    ((linear_ends (λ i. i) body h.last).at k).ends
