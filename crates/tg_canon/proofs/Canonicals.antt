-- What the pass gives is canonical.
use Rattle.std.proofs.Common.{◌≡◌, ℕ, ◌+◌, Bool, true, false, refl}
use Rattle.tg_tree.specs.declared.operators.Bin.{Bin}
use Rattle.tg_tree.specs.Tree.{Tx, Const, Address, Temp, FrameAddress, Binary, Load, LoadByte, Call, Service, After, Txs, no_txs, tx, Cond, Compare}
use Rattle.tg_tree.specs.Tree.{Not, Both, Either, Ts, Move, Store, StoreByte, Do, If, Loop, Break, Fault, Seq, Return, Stms, no_stms, stm}
use Rattle.tg_tree.specs.Shapes.{IsFlat, AreFlat, IsFlatOrEffect, IsFlatCond, IsCanonical, AreCanonical}
use Rattle.tg_canon.specs.mirror.Drawing.{Draws, give, ◌>>=◌}
use Rattle.tg_canon.specs.mirror.Canon.{Part, still, nothing, is_nothing, first_then, ◌before◌, loop_of, block, Parts, in_front, in_turn, Hoisted, Two}
use Rattle.tg_canon.specs.mirror.Canon.{Arguments, behind, hold, is_effect, hold_effect, word, commutes, hold_unless, hold_but_offset, hold_for, hold_before}
use Rattle.tg_canon.specs.mirror.Canon.{in_front_of, side_by_side, argument, over, over_two, over_all, with_one, with_two, assigning, acts, dropped}
use Rattle.tg_canon.specs.mirror.Canon.{is_whole, Tested, compared, opposite, joined, choice, exit_where, wide_choice, deeper, inside, choose, hoist}
use Rattle.tg_canon.specs.mirror.Canon.{hoist_all, condition, leave, linear, linear_all, statements_of, linearized}
use Rattle.tg_canon.proofs.Always.{one_of_two, Always, give_is, next, made}
use Rattle.tg_canon.proofs.Sides.{flat_or_effect, flat_without_effect}

first_then_canonical : (s t : Ts) → IsCanonical s → IsCanonical t → IsCanonical (first_then s t)
first_then_canonical s t p q =
    one_of_two IsCanonical (is_nothing s) q (one_of_two IsCanonical (is_nothing t) p (p, (q, tt)))

-- parts, what is hoisted, words, and tests
pub record PartIs (p : Part) : Type 0 where
  pub canonical : IsCanonical p.statement

record SideIs (a : Hoisted) : Type 0 where
  canonical : IsCanonical a.front.statement
  flat : IsFlatOrEffect a.rest

record WordIs (a : Hoisted) : Type 0 where
  canonical : IsCanonical a.front.statement
  flat : IsFlat a.rest

record TwoAre (a : Two) : Type 0 where
  canonical : IsCanonical a.front.statement
  left : IsFlat a.left
  right : IsFlat a.right

record ArgumentsAre (a : Arguments) : Type 0 where
  canonical : IsCanonical a.front.statement
  flat : AreFlat a.rest

record PartsAre (p : Parts) : Type 0 where
  canonical : AreCanonical p.list

record TestedIs (t : Tested) : Type 0 where
  canonical : IsCanonical t.front.statement
  flat : IsFlatCond t.condition

hold_is : (x : Tx) → IsFlatOrEffect x → Always WordIs (hold x)
hold_is x h = record { at = λ k. record { canonical = h; flat = tt } }

behind_is : (p : Part) (a : Hoisted) → IsCanonical p.statement → WordIs a → WordIs (behind p a)
behind_is p a h w = record { canonical = first_then_canonical p.statement a.front.statement h w.canonical; flat = w.flat }

hold_effect_is : (b : Bool) (a : Hoisted) → is_effect a.rest ≡ b → SideIs a → Always WordIs (hold_effect b a)
hold_effect_is true a e s = next (hold a.rest) (λ h. give (behind a.front h)) (hold_is a.rest s.flat)
    (λ h w. record { at = λ k. behind_is a.front h s.canonical w })
hold_effect_is false a e s = record { at = λ k. record { canonical = s.canonical; flat = flat_without_effect a.rest e s.flat } }

word_is : (m : Draws Hoisted) → Always SideIs m → Always WordIs (word m)
word_is m h = next m (λ a. hold_effect (is_effect a.rest) a) h (λ a s. hold_effect_is (is_effect a.rest) a refl s)

hold_unless_is : (b : Bool) (x : Tx) → IsFlat x → Always WordIs (hold_unless b x)
hold_unless_is true x h = record { at = λ k. record { canonical = tt; flat = h } }
hold_unless_is false x h = hold_is x (flat_or_effect x h)

hold_but_offset_is : (b : Bool) (p : Part) (op : Bin) (x y : Tx) → IsFlat x → IsFlat y → Always WordIs (hold_but_offset b p op x y)
hold_but_offset_is true p op x y hx hy =
    next (hold_unless (commutes p x) x) (λ a. give (record { front = a.front; rest = Binary op a.rest y }))
    (hold_unless_is (commutes p x) x hx) (λ a w. record { at = λ k. record { canonical = w.canonical; flat = (w.flat, hy) } })
hold_but_offset_is false p op x y hx hy = hold_is (Binary op x y) (hx, hy)

hold_for_is : (p : Part) (x : Tx) → IsFlat x → Always WordIs (hold_for p x)
hold_for_is p (Binary op x y) h = hold_but_offset_is _ p op x y h.0 h.1
hold_for_is p (Const n) h = hold_unless_is (commutes p (Const n)) (Const n) h
hold_for_is p (Address n) h = hold_unless_is (commutes p (Address n)) (Address n) h
hold_for_is p (Temp n) h = hold_unless_is (commutes p (Temp n)) (Temp n) h
hold_for_is p FrameAddress h = hold_unless_is (commutes p FrameAddress) FrameAddress h
hold_for_is p (Load x) h = hold_unless_is (commutes p (Load x)) (Load x) h
hold_for_is p (LoadByte x) h = hold_unless_is (commutes p (LoadByte x)) (LoadByte x) h
hold_for_is p (Call f xs) h = absurd h
hold_for_is p (Service n x) h = absurd h
hold_for_is p (After s x) h = absurd h

hold_before_is : (b : Bool) (p : Part) (a : Hoisted) → WordIs a → Always WordIs (hold_before b p a)
hold_before_is true p a w = record { at = λ k. w }
hold_before_is false p a w = next (hold_for p a.rest) (λ h. give (behind a.front h)) (hold_for_is p a.rest w.flat)
    (λ h v. record { at = λ k. behind_is a.front h w.canonical v })

in_front_of_is : (p : Part) (a : Hoisted) → WordIs a → Always WordIs (in_front_of p a)
in_front_of_is p a w = hold_before_is (is_nothing p.statement) p a w

side_by_side_is : (a b : Hoisted) → WordIs a → WordIs b → Always TwoAre (side_by_side a b)
side_by_side_is a b v w =
    next (in_front_of b.front a) (λ h. give (record { front = h.front before b.front; left = h.rest; right = b.rest }))
    (in_front_of_is b.front a v)
    (λ h u. record {
      at = λ k. record {
        canonical = first_then_canonical h.front.statement b.front.statement u.canonical w.canonical;
        left = u.flat;
        right = w.flat;
      };
    })

argument_is : (a : Hoisted) (all : Arguments) → WordIs a → ArgumentsAre all → Always ArgumentsAre (argument a all)
argument_is a all v w =
    next (in_front_of all.front a) (λ h. give (record { front = h.front before all.front; rest = tx h.rest all.rest }))
    (in_front_of_is all.front a v)
    (λ h u. record {
      at = λ k. record {
        canonical = first_then_canonical h.front.statement all.front.statement u.canonical w.canonical;
        flat = (u.flat, w.flat);
      };
    })

two_of_words : {B : Type 0} {Q : B → Type 0} (m n : Draws Hoisted) (f : Two → B) → Always SideIs m → Always SideIs n → ((a : Two) → TwoAre a → Q (f a)) →
    Always Q (word n >>= (λ b. word m >>= (λ a. side_by_side a b >>= (λ ab. give (f ab)))))
two_of_words m n f hm hn g =
    next (word n) _ (word_is n hn)
    (λ b w. next (word m) _ (word_is m hm) (λ a v. next (side_by_side a b) _ (side_by_side_is a b v w) (λ ab t. give_is (g ab t))))

one_of_word : {B : Type 0} {Q : B → Type 0} (m : Draws Hoisted) (f : Hoisted → B) → Always SideIs m →
    ((a : Hoisted) → WordIs a → Q (f a)) → Always Q (word m >>= (λ a. give (f a)))
one_of_word m f hm g = next (word m) _ (word_is m hm) (λ a w. give_is (g a w))

dropped_canonical : (x : Tx) → IsFlatOrEffect x → IsCanonical (dropped x).statement
dropped_canonical x h = one_of_two IsCanonical (acts x) h tt

choice_canonical : (t : Tested) (p q : Part) → TestedIs t → PartIs p → PartIs q → PartIs (choice t p q)
choice_canonical t p q ht hp hq = record { canonical = first_then_canonical t.front.statement _ ht.canonical (ht.flat, hp.canonical, hq.canonical) }

exit_canonical : (w : Bool) (k : ℕ) (t : Tested) → TestedIs t → PartIs (exit_where w k t)
exit_canonical true k t h = choice_canonical t (still (Break k)) (still nothing) h (record { canonical = tt }) (record { canonical = tt })
exit_canonical false k t h = choice_canonical t (still nothing) (still (Break k)) h (record { canonical = tt }) (record { canonical = tt })

before_is : (p q : Part) → PartIs p → PartIs q → PartIs (p before q)
before_is p q hp hq = record { canonical = first_then_canonical p.statement q.statement hp.canonical hq.canonical }

block_is : (p : Part) → PartIs p → PartIs (block p)
block_is p h = record { canonical = (h.canonical, (tt, tt)) }

wide_canonical : (t p q : Part) → PartIs t → PartIs p → PartIs q → PartIs (wide_choice t p q)
wide_canonical t p q ht hp hq =
    let first : PartIs (t before p before still (Break 1)) = before_is (t before p) (still (Break 1)) (before_is t p ht hp) (record { canonical = tt }) in
    let inner : PartIs (loop_of (t before p before still (Break 1))) = record { canonical = first.canonical } in
    block_is (loop_of (t before p before still (Break 1)) before q) (before_is (loop_of (t before p before still (Break 1))) q inner hq)

both_are : (t u : Tested) → TestedIs t → TestedIs u → TestedIs (joined Both t u)
both_are t u h l = record { canonical = first_then_canonical t.front.statement u.front.statement h.canonical l.canonical; flat = (h.flat, l.flat) }

either_are : (t u : Tested) → TestedIs t → TestedIs u → TestedIs (joined Either t u)
either_are t u h l = record { canonical = first_then_canonical t.front.statement u.front.statement h.canonical l.canonical; flat = (h.flat, l.flat) }

choose_is : (b : Bool) (m n : Draws Part) → Always PartIs m → Always PartIs n → Always PartIs (choose b m n)
choose_is true m n h l = h
choose_is false m n h l = l

-- two parts of a test
tests_are : (m n : Draws Part) (f : Part → Part) → Always PartIs m → Always PartIs n → ((p : Part) → PartIs p → PartIs (f p)) →
    Always PartIs (n >>= (λ q. m >>= (λ p. give (f (p before q)))))
tests_are m n f hm hn hf = next n _ hn (λ q hq. next m _ hm (λ p hp. give_is (hf (p before q) (before_is p q hp hq))))

in_front_is : (p : Part) (all : Parts) → PartIs p → PartsAre all → PartsAre (in_front p all)
in_front_is p all h l = record { canonical = one_of_two AreCanonical (is_nothing p.statement) l.canonical (h.canonical, l.canonical) }

mutual
  hoist_is : (out : ℕ → ℕ) (x : Tx) → Always SideIs (hoist out x)
  hoist_is out (Const n) = give_is (record { canonical = tt; flat = tt })
  hoist_is out (Address n) = give_is (record { canonical = tt; flat = tt })
  hoist_is out (Temp n) = give_is (record { canonical = tt; flat = tt })
  hoist_is out FrameAddress = give_is (record { canonical = tt; flat = tt })
  hoist_is out (Binary op x y) = two_of_words (hoist out x) (hoist out y) (over_two (Binary op)) (hoist_is out x) (hoist_is out y)
      (λ a t. record { canonical = t.canonical; flat = (t.left, t.right) })
  hoist_is out (Load x) = one_of_word (hoist out x) (over Load) (hoist_is out x) (λ a w. record { canonical = w.canonical; flat = w.flat })
  hoist_is out (LoadByte x) = one_of_word (hoist out x) (over LoadByte) (hoist_is out x) (λ a w. record { canonical = w.canonical; flat = w.flat })
  hoist_is out (Call f xs) = made (hoist_all out xs) (over_all (Call f)) (hoist_all_is out xs) (λ a w. record { canonical = w.canonical; flat = w.flat })
  hoist_is out (Service n x) = one_of_word (hoist out x) (over (Service n)) (hoist_is out x) (λ a w. record { canonical = w.canonical; flat = w.flat })
  hoist_is out (After s x) = next (hoist out x) (λ a. linear out s >>= (λ p. give (behind p a))) (hoist_is out x)
      (λ a w. made (linear out s) (λ p. behind p a) (linear_is out s)
      (λ p h. record { canonical = first_then_canonical p.statement a.front.statement h.canonical w.canonical; flat = w.flat }))

  hoist_all_is : (out : ℕ → ℕ) (xs : Txs) → Always ArgumentsAre (hoist_all out xs)
  hoist_all_is out no_txs = give_is (record { canonical = tt; flat = tt })
  hoist_all_is out (tx x xs) = next (hoist_all out xs) (λ all. word (hoist out x) >>= (λ a. argument a all)) (hoist_all_is out xs)
      (λ all h. next (word (hoist out x)) (λ a. argument a all) (word_is (hoist out x) (hoist_is out x)) (λ a w. argument_is a all w h))

  condition_is : (out : ℕ → ℕ) (c : Cond) → Always TestedIs (condition out c)
  condition_is out (Compare rel x y) = two_of_words (hoist out x) (hoist out y) (compared (Compare rel)) (hoist_is out x)
      (hoist_is out y) (λ a t. record { canonical = t.canonical; flat = (t.left, t.right) })
  condition_is out (Not c) = made (condition out c) opposite (condition_is out c) (λ t h. record { canonical = h.canonical; flat = h.flat })
  condition_is out (Both c d) = next (condition out d) (λ u. condition out c >>= (λ t. give (joined Both t u)))
      (condition_is out d) (λ u h. made (condition out c) (λ t. joined Both t u) (condition_is out c) (λ t l. both_are t u l h))
  condition_is out (Either c d) = next (condition out d) (λ u. condition out c >>= (λ t. give (joined Either t u)))
      (condition_is out d) (λ u h. made (condition out c) (λ t. joined Either t u) (condition_is out c) (λ t l. either_are t u l h))

  leave_is : (out : ℕ → ℕ) (w : Bool) (k : ℕ) (c : Cond) → Always PartIs (leave out w k c)
  leave_is out w k (Compare rel x y) = two_of_words (hoist out x) (hoist out y) (λ ab. exit_where w k (compared (Compare rel) ab))
      (hoist_is out x) (hoist_is out y) (λ a t. exit_canonical w k (compared (Compare rel) a) (record { canonical = t.canonical; flat = (t.left, t.right) }))
  leave_is out true k (Not c) = leave_is out false k c
  leave_is out false k (Not c) = leave_is out true k c
  leave_is out false k (Both c d) = tests_are (leave out false k c) (leave out false k d) (λ p. p) (leave_is out false k c) (leave_is out false k d) (λ p h. h)
  leave_is out true k (Both c d) = tests_are (leave (deeper 1 out) false 0 c) (leave (deeper 1 out) true (k + 1) d) block
      (leave_is _ false 0 c) (leave_is _ true (k + 1) d) block_is
  leave_is out true k (Either c d) = tests_are (leave out true k c) (leave out true k d) (λ p. p) (leave_is out true k c) (leave_is out true k d) (λ p h. h)
  leave_is out false k (Either c d) = tests_are (leave (deeper 1 out) true 0 c) (leave (deeper 1 out) false (k + 1) d)
      block (leave_is _ true 0 c) (leave_is _ false (k + 1) d) block_is

  linear_is : (out : ℕ → ℕ) (s : Ts) → Always PartIs (linear out s)
  linear_is out (Move i x) = made (hoist out x) (with_one (λ v. assigning i (Move i v))) (hoist_is out x)
      (λ a w. record { canonical = first_then_canonical a.front.statement (Move i a.rest) w.canonical w.flat })
  linear_is out (Store x y) = two_of_words (hoist out x) (hoist out y) (with_two Store) (hoist_is out x) (hoist_is out y)
      (λ a t. record { canonical = first_then_canonical a.front.statement (Store a.left a.right) t.canonical (t.left, t.right) })
  linear_is out (StoreByte x y) = two_of_words (hoist out x) (hoist out y) (with_two StoreByte) (hoist_is out x) (hoist_is out y)
      (λ a t. record { canonical = first_then_canonical a.front.statement (StoreByte a.left a.right) t.canonical (t.left, t.right) })
  linear_is out (Do x) = made (hoist out x) (with_one dropped) (hoist_is out x)
      (λ a w. record { canonical = first_then_canonical a.front.statement (dropped a.rest).statement w.canonical (dropped_canonical a.rest w.flat) })
  linear_is out (If c s t) =
      choose_is (is_whole c) _ _
      (next (linear out t) (λ q. linear out s >>= (λ p. condition out c >>= (λ u. give (choice u p q)))) (linear_is out t) (λ q hq.
      next (linear out s) (λ p. condition out c >>= (λ u. give (choice u p q))) (linear_is out s) (λ p hp.
      made (condition out c) (λ u. choice u p q) (condition_is out c) (λ u hu. choice_canonical u p q hu hp hq))))
      (next (linear (deeper 1 out) t) (λ q. linear (deeper 2 out) s >>= (λ p. leave (deeper 2 out) false 0 c >>= (λ u. give (wide_choice u p q))))
      (linear_is (deeper 1 out) t) (λ q hq.
      next (linear (deeper 2 out) s) (λ p. leave (deeper 2 out) false 0 c >>= (λ u. give (wide_choice u p q))) (linear_is (deeper 2 out) s) (λ p hp.
      made (leave (deeper 2 out) false 0 c) (λ u. wide_choice u p q) (leave_is (deeper 2 out) false 0 c) (λ u hu. wide_canonical u p q hu hp hq))))
  linear_is out (Loop s) = made (linear (inside out) s) loop_of (linear_is (inside out) s) (λ p h. record { canonical = h.canonical })
  linear_is out (Break k) = give_is (record { canonical = tt })
  linear_is out (Fault n) = give_is (record { canonical = tt })
  linear_is out (Seq ss) = made (linear_all out ss) in_turn (linear_all_is out ss) (λ all h. record { canonical = h.canonical })
  linear_is out (Return x) = one_of_word (hoist out x) (with_one (λ v. still (Return v))) (hoist_is out x)
      (λ a w. record { canonical = first_then_canonical a.front.statement (Return a.rest) w.canonical w.flat })

  linear_all_is : (out : ℕ → ℕ) (ss : Stms) → Always PartsAre (linear_all out ss)
  linear_all_is out no_stms = give_is (record { canonical = tt })
  linear_all_is out (stm s ss) = next (linear_all out ss) (λ all. linear out s >>= (λ p. give (in_front p all)))
      (linear_all_is out ss) (λ all h. made (linear out s) (λ p. in_front p all) (linear_is out s) (λ p l. in_front_is p all l h))

statements_canonical : (s : Ts) → IsCanonical s → AreCanonical (statements_of s)
statements_canonical (Seq ss) h = h
statements_canonical (Move i x) h = (h, tt)
statements_canonical (Store x y) h = (h, tt)
statements_canonical (StoreByte x y) h = (h, tt)
statements_canonical (Do x) h = (h, tt)
statements_canonical (If c s t) h = (h, tt)
statements_canonical (Loop s) h = (h, tt)
statements_canonical (Break k) h = (h, tt)
statements_canonical (Fault n) h = (h, tt)
statements_canonical (Return x) h = (h, tt)

pub linearized_canonical : (body : Ts) (k : ℕ) → AreCanonical (linearized body k).it
linearized_canonical body k = statements_canonical (linear (λ i. i) body k).it.statement ((linear_is (λ i. i) body).at k).canonical
