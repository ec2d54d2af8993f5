-- What the pass gives names nothing that the body doesn't name, but for the temporaries that it draws.
use Rattle.std.proofs.Common.{ℕ, ◌+◌, ◌<◌, ◌≤◌, Bool, true, false, List, [], refl, ltb, arith}
use Rattle.std.proofs.lemmas.Bool.{ltb-true, lt-ltb}
use Rattle.std.specs.Prelude.{IsTrue}
use Rattle.tg_tree.specs.declared.operators.Bin.{Bin}
use Rattle.tg_tree.specs.Tree.{Tx, Const, Address, Temp, FrameAddress, Binary, Load, LoadByte, Call, Service, After, Txs, no_txs, tx, Cond, Compare}
use Rattle.tg_tree.specs.Tree.{Not, Both, Either, Ts, Move, Store, StoreByte, Do, If, Loop, Break, Fault, Seq, Return, Stms, no_stms, stm}
use Rattle.tg_tree.specs.Named.{NamesAreAllowed, Named, function, literal, fault, temporary, constant, named_ts, named_stms}
use Rattle.tg_tree.proofs.NamesPassing.{TxPasses, TxsPass, CondPasses, TsPasses, StmsPass, body_passes, statements_names}
use Rattle.tg_canon.specs.mirror.Drawing.{Draws, give, ◌>>=◌}
use Rattle.tg_canon.specs.mirror.Canon.{Part, still, nothing, is_nothing, first_then, ◌before◌, loop_of, block, Parts, in_front, in_turn, Hoisted, Two}
use Rattle.tg_canon.specs.mirror.Canon.{Arguments, behind, hold, is_effect, hold_effect, word, commutes, hold_unless, hold_but_offset, hold_for, hold_before}
use Rattle.tg_canon.specs.mirror.Canon.{in_front_of, side_by_side, argument, over, over_two, over_all, with_one, with_two, assigning, acts, dropped}
use Rattle.tg_canon.specs.mirror.Canon.{is_whole, Tested, compared, opposite, joined, choice, exit_where, wide_choice, deeper, inside, choose, hoist}
use Rattle.tg_canon.specs.mirror.Canon.{hoist_all, condition, leave, linear, linear_all, statements_of, linearized}
use Rattle.tg_canon.specs.laws.Laws.{AllowsDrawn, AreTempsBelow}
use Rattle.tg_canon.proofs.Always.{one_of_two}
use Rattle.tg_canon.proofs.Growing as growing
use Rattle.tg_canon.proofs.Growing.{Grows, two, hold_effect_grows, word_grows, side_by_side_grows, argument_grows, hoist_grows, condition_grows}
use Rattle.tg_canon.proofs.Growing.{leave_grows, linear_grows, linearized_grows}

-- The test passes the temporaries from one number up to another.
module _ (allowed : Named → Bool) (from top : ℕ) (drawn : AllowsDrawn allowed from top) where
  abbrev Passes : Named → Type 0
  Passes x = IsTrue (allowed x)

  -- what holds of what is drawn there
  record Keeps {A : Type 0} (P : A → Type 0) (m : Draws A) : Type 0 where
    at : (k : ℕ) → from ≤ k → (m k).next ≤ top → P (m k).it

  given : {A : Type 0} {P : A → Type 0} {a : A} → P a → Keeps P (give a)
  given h = record { at = λ k low high. h }

  next : {A B : Type 0} {P : A → Type 0} {Q : B → Type 0} (m : Draws A) (f : A → Draws B) → Grows m → ((a : A) → Grows (f a)) →
      Keeps P m → ((a : A) → P a → Keeps Q (f a)) → Keeps Q (m >>= f)
  next m f gm gf h g = record {
    at = λ k low high.
        let up : k ≤ (m k).next = gm.at k in
        let over : (m k).next ≤ (f (m k).it (m k).next).next = (gf (m k).it).at (m k).next in
        (g (m k).it (h.at k low (two _ _ _ over high))).at (m k).next (two _ _ _ low up) high;
  }

  -- with what is made of it
  made : {A B : Type 0} {P : A → Type 0} {Q : B → Type 0} (m : Draws A) (f : A → B) → Keeps P m → ((a : A) → P a → Q (f a)) → Keeps Q (m >>= (λ a. give (f a)))
  made m f h g = record { at = λ k low high. g (m k).it (h.at k low high) }

  record PartPasses (p : Part) : Type 0 where
    part : TsPasses Passes p.statement

  record HoistedPasses (a : Hoisted) : Type 0 where
    front : TsPasses Passes a.front.statement
    rest : TxPasses Passes a.rest

  record TwoPass (a : Two) : Type 0 where
    front : TsPasses Passes a.front.statement
    left : TxPasses Passes a.left
    right : TxPasses Passes a.right

  record ArgumentsPass (a : Arguments) : Type 0 where
    front : TsPasses Passes a.front.statement
    rest : TxsPass Passes a.rest

  record PartsPass (p : Parts) : Type 0 where
    list : StmsPass Passes p.list

  record TestedPasses (t : Tested) : Type 0 where
    front : TsPasses Passes t.front.statement
    condition : CondPasses Passes t.condition

  first_then_passes : (s t : Ts) → TsPasses Passes s → TsPasses Passes t → TsPasses Passes (first_then s t)
  first_then_passes s t p q =
      one_of_two (TsPasses Passes) (is_nothing s) q (one_of_two (TsPasses Passes) (is_nothing t) p (p, (q, tt)))

  hold_passes : (x : Tx) → TxPasses Passes x → Keeps HoistedPasses (hold x)
  hold_passes x h = record {
    at = λ k low high. let up : k + 1 ≤ top = high in let it : Passes (temporary k) = drawn k low (omega arith) in
        record { front = (it, h); rest = it };
  }

  behind_passes : (p : Part) (a : Hoisted) → TsPasses Passes p.statement → HoistedPasses a → HoistedPasses (behind p a)
  behind_passes p a h w = record { front = first_then_passes p.statement a.front.statement h w.front; rest = w.rest }

  hold_effect_passes : (b : Bool) (a : Hoisted) → HoistedPasses a → Keeps HoistedPasses (hold_effect b a)
  hold_effect_passes true a w = made (hold a.rest) (behind a.front) (hold_passes a.rest w.rest) (λ h v. behind_passes a.front h w.front v)
  hold_effect_passes false a w = given w

  word_passes : (m : Draws Hoisted) → Grows m → Keeps HoistedPasses m → Keeps HoistedPasses (word m)
  word_passes m g h = next m (λ a. hold_effect (is_effect a.rest) a) g (λ a. hold_effect_grows (is_effect a.rest) a) h (λ a w. hold_effect_passes (is_effect a.rest) a w)

  hold_unless_passes : (b : Bool) (x : Tx) → TxPasses Passes x → Keeps HoistedPasses (hold_unless b x)
  hold_unless_passes true x h = given (record { front = tt; rest = h })
  hold_unless_passes false x h = hold_passes x h

  hold_but_offset_passes : (b : Bool) (p : Part) (op : Bin) (x y : Tx) → TxPasses Passes x → TxPasses Passes y →
      Keeps HoistedPasses (hold_but_offset b p op x y)
  hold_but_offset_passes true p op x y hx hy =
      made (hold_unless (commutes p x) x) (λ a. record { front = a.front; rest = Binary op a.rest y })
      (hold_unless_passes (commutes p x) x hx) (λ a w. record { front = w.front; rest = (w.rest, hy) })
  hold_but_offset_passes false p op x y hx hy = hold_passes (Binary op x y) (hx, hy)

  hold_for_passes : (p : Part) (x : Tx) → TxPasses Passes x → Keeps HoistedPasses (hold_for p x)
  hold_for_passes p (Binary op x y) h = hold_but_offset_passes _ p op x y h.0 h.1
  hold_for_passes p (Const i) h = hold_unless_passes (commutes p (Const i)) (Const i) h
  hold_for_passes p (Address i) h = hold_unless_passes (commutes p (Address i)) (Address i) h
  hold_for_passes p (Temp i) h = hold_unless_passes (commutes p (Temp i)) (Temp i) h
  hold_for_passes p FrameAddress h = hold_unless_passes (commutes p FrameAddress) FrameAddress h
  hold_for_passes p (Load x) h = hold_unless_passes (commutes p (Load x)) (Load x) h
  hold_for_passes p (LoadByte x) h = hold_unless_passes (commutes p (LoadByte x)) (LoadByte x) h
  hold_for_passes p (Call f xs) h = hold_unless_passes (commutes p (Call f xs)) (Call f xs) h
  hold_for_passes p (Service i x) h = hold_unless_passes (commutes p (Service i x)) (Service i x) h
  hold_for_passes p (After s x) h = hold_unless_passes (commutes p (After s x)) (After s x) h

  hold_before_passes : (b : Bool) (p : Part) (a : Hoisted) → HoistedPasses a → Keeps HoistedPasses (hold_before b p a)
  hold_before_passes true p a w = given w
  hold_before_passes false p a w = made (hold_for p a.rest) (behind a.front) (hold_for_passes p a.rest w.rest) (λ h v. behind_passes a.front h w.front v)

  side_by_side_passes : (a b : Hoisted) → HoistedPasses a → HoistedPasses b → Keeps TwoPass (side_by_side a b)
  side_by_side_passes a b v w =
      made (in_front_of b.front a) (λ h. record { front = h.front before b.front; left = h.rest; right = b.rest })
      (hold_before_passes _ b.front a v)
      (λ h u. record { front = first_then_passes h.front.statement b.front.statement u.front w.front; left = u.rest; right = w.rest })

  argument_passes : (a : Hoisted) (all : Arguments) → HoistedPasses a → ArgumentsPass all → Keeps ArgumentsPass (argument a all)
  argument_passes a all v w =
      made (in_front_of all.front a) (λ h. record { front = h.front before all.front; rest = tx h.rest all.rest })
      (hold_before_passes _ all.front a v)
      (λ h u. record { front = first_then_passes h.front.statement all.front.statement u.front w.front; rest = (u.rest, w.rest) })

  -- two words, and one
  two_pass : {B : Type 0} {Q : B → Type 0} (m l : Draws Hoisted) (f : Two → B) → Grows m → Grows l → Keeps HoistedPasses m →
      Keeps HoistedPasses l → ((a : Two) → TwoPass a → Q (f a)) →
      Keeps Q (word l >>= (λ b. word m >>= (λ a. side_by_side a b >>= (λ ab. give (f ab)))))
  two_pass m l f gm gl hm hl g =
      next (word l) (λ b. word m >>= (λ a. side_by_side a b >>= (λ ab. give (f ab)))) (word_grows l gl)
      (λ b. growing.next (word m) (λ a. side_by_side a b >>= (λ ab. give (f ab))) (word_grows m gm)
      (λ a. growing.made (side_by_side a b) f (side_by_side_grows a b))) (word_passes l gl hl) (λ b w.
      next (word m) (λ a. side_by_side a b >>= (λ ab. give (f ab))) (word_grows m gm)
      (λ a. growing.made (side_by_side a b) f (side_by_side_grows a b)) (word_passes m gm hm) (λ a v.
      made (side_by_side a b) f (side_by_side_passes a b v w) g))

  one_passes : {B : Type 0} {Q : B → Type 0} (m : Draws Hoisted) (f : Hoisted → B) → Grows m → Keeps HoistedPasses m →
      ((a : Hoisted) → HoistedPasses a → Q (f a)) → Keeps Q (word m >>= (λ a. give (f a)))
  one_passes m f gm hm g = made (word m) f (word_passes m gm hm) g

  -- one thing drawn after another
  in_turn_pass : {A B C : Type 0} {P : A → Type 0} {Q : B → Type 0} {R : C → Type 0} (m : Draws A) (l : Draws B) (f : A → B → C) →
      Grows m → Grows l → Keeps P m → Keeps Q l → ((a : A) (b : B) → P a → Q b → R (f a b)) →
      Keeps R (m >>= (λ a. l >>= (λ b. give (f a b))))
  in_turn_pass m l f gm gl hm hl g = next m (λ a. l >>= (λ b. give (f a b))) gm (λ a. growing.made l (f a) gl) hm (λ a w. made l (f a) hl (λ b v. g a b w v))

  in_front_passes : (p : Part) (all : Parts) → PartPasses p → PartsPass all → PartsPass (in_front p all)
  in_front_passes p all h l = record { list = one_of_two (StmsPass Passes) (is_nothing p.statement) l.list (h.part, l.list) }

  choice_passes : (t : Tested) (p q : Part) → TestedPasses t → PartPasses p → PartPasses q → PartPasses (choice t p q)
  choice_passes t p q ht hp hq = record { part = first_then_passes t.front.statement _ ht.front (ht.condition, hp.part, hq.part) }

  exit_passes : (w : Bool) (k : ℕ) (t : Tested) → TestedPasses t → PartPasses (exit_where w k t)
  exit_passes true k t h = choice_passes t (still (Break k)) (still nothing) h (record { part = tt }) (record { part = tt })
  exit_passes false k t h = choice_passes t (still nothing) (still (Break k)) h (record { part = tt }) (record { part = tt })

  before_passes : (p q : Part) → PartPasses p → PartPasses q → PartPasses (p before q)
  before_passes p q hp hq = record { part = first_then_passes p.statement q.statement hp.part hq.part }

  block_passes : (p : Part) → PartPasses p → PartPasses (block p)
  block_passes p h = record { part = (h.part, (tt, tt)) }

  wide_passes : (t p q : Part) → PartPasses t → PartPasses p → PartPasses q → PartPasses (wide_choice t p q)
  wide_passes t p q ht hp hq =
      let first : PartPasses (t before p before still (Break 1)) = before_passes (t before p) (still (Break 1)) (before_passes t p ht hp) (record { part = tt }) in
      let inner : PartPasses (loop_of (t before p before still (Break 1))) = record { part = first.part } in
      block_passes (loop_of (t before p before still (Break 1)) before q) (before_passes (loop_of (t before p before still (Break 1))) q inner hq)

  both_pass : (t u : Tested) → TestedPasses t → TestedPasses u → TestedPasses (joined Both t u)
  both_pass t u h l = record { front = first_then_passes t.front.statement u.front.statement h.front l.front; condition = (h.condition, l.condition) }

  either_passes : (t u : Tested) → TestedPasses t → TestedPasses u → TestedPasses (joined Either t u)
  either_passes t u h l = record { front = first_then_passes t.front.statement u.front.statement h.front l.front; condition = (h.condition, l.condition) }

  choose_passes : (b : Bool) (m l : Draws Part) → Keeps PartPasses m → Keeps PartPasses l → Keeps PartPasses (choose b m l)
  choose_passes true m l h k = h
  choose_passes false m l h k = k

  dropped_passes : (x : Tx) → TxPasses Passes x → TsPasses Passes (dropped x).statement
  dropped_passes x h = one_of_two (TsPasses Passes) (acts x) h tt

  mutual
    hoist_passes : (out : ℕ → ℕ) (x : Tx) → TxPasses Passes x → Keeps HoistedPasses (hoist out x)
    hoist_passes out (Const i) h = given (record { front = tt; rest = h })
    hoist_passes out (Address i) h = given (record { front = tt; rest = h })
    hoist_passes out (Temp i) h = given (record { front = tt; rest = h })
    hoist_passes out FrameAddress h = given (record { front = tt; rest = tt })
    hoist_passes out (Binary op x y) h = two_pass (hoist out x) (hoist out y) (over_two (Binary op)) (hoist_grows out x)
        (hoist_grows out y) (hoist_passes out x h.0) (hoist_passes out y h.1) (λ a t. record { front = t.front; rest = (t.left, t.right) })
    hoist_passes out (Load x) h =
        one_passes (hoist out x) (over Load) (hoist_grows out x) (hoist_passes out x h) (λ a w. record { front = w.front; rest = w.rest })
    hoist_passes out (LoadByte x) h = one_passes (hoist out x) (over LoadByte) (hoist_grows out x) (hoist_passes out x h)
        (λ a w. record { front = w.front; rest = w.rest })
    hoist_passes out (Call f xs) h = made (hoist_all out xs) (over_all (Call f)) (hoist_all_pass out xs h.1)
        (λ a w. record { front = w.front; rest = (h.0, w.rest) })
    hoist_passes out (Service i x) h = one_passes (hoist out x) (over (Service i)) (hoist_grows out x) (hoist_passes out x h.1)
        (λ a w. record { front = w.front; rest = (h.0, w.rest) })
    hoist_passes out (After s x) h = in_turn_pass (hoist out x) (linear out s) (λ a p. behind p a) (hoist_grows out x)
        (linear_grows out s) (hoist_passes out x h.1) (linear_passes out s h.0) (λ a p w l. behind_passes p a l.part w)

    hoist_all_pass : (out : ℕ → ℕ) (xs : Txs) → TxsPass Passes xs → Keeps ArgumentsPass (hoist_all out xs)
    hoist_all_pass out no_txs h = given (record { front = tt; rest = tt })
    hoist_all_pass out (tx x xs) h =
        next (hoist_all out xs) (λ all. word (hoist out x) >>= (λ a. argument a all)) (growing.hoist_all_grows out xs)
        (λ all. growing.next (word (hoist out x)) (λ a. argument a all) (word_grows (hoist out x) (hoist_grows out x)) (λ a. argument_grows a all))
        (hoist_all_pass out xs h.1) (λ all l.
        next (word (hoist out x)) (λ a. argument a all) (word_grows (hoist out x) (hoist_grows out x)) (λ a. argument_grows a all)
        (word_passes (hoist out x) (hoist_grows out x) (hoist_passes out x h.0)) (λ a w. argument_passes a all w l))

    condition_passes : (out : ℕ → ℕ) (c : Cond) → CondPasses Passes c → Keeps TestedPasses (condition out c)
    condition_passes out (Compare rel x y) h = two_pass (hoist out x) (hoist out y) (compared (Compare rel)) (hoist_grows out x)
        (hoist_grows out y) (hoist_passes out x h.0) (hoist_passes out y h.1) (λ a t. record { front = t.front; condition = (t.left, t.right) })
    condition_passes out (Not c) h = made (condition out c) opposite (condition_passes out c h) (λ t l. record { front = l.front; condition = l.condition })
    condition_passes out (Both c d) h = in_turn_pass (condition out d) (condition out c) (λ u t. joined Both t u)
        (condition_grows out d) (condition_grows out c) (condition_passes out d h.1) (condition_passes out c h.0) (λ u t l m. both_pass t u m l)
    condition_passes out (Either c d) h = in_turn_pass (condition out d) (condition out c) (λ u t. joined Either t u)
        (condition_grows out d) (condition_grows out c) (condition_passes out d h.1) (condition_passes out c h.0) (λ u t l m. either_passes t u m l)

    leave_passes : (out : ℕ → ℕ) (w : Bool) (k : ℕ) (c : Cond) → CondPasses Passes c → Keeps PartPasses (leave out w k c)
    leave_passes out w k (Compare rel x y) h = two_pass (hoist out x) (hoist out y) (λ ab. exit_where w k (compared (Compare rel) ab))
        (hoist_grows out x) (hoist_grows out y) (hoist_passes out x h.0) (hoist_passes out y h.1)
        (λ a t. exit_passes w k (compared (Compare rel) a) (record { front = t.front; condition = (t.left, t.right) }))
    leave_passes out true k (Not c) h = leave_passes out false k c h
    leave_passes out false k (Not c) h = leave_passes out true k c h
    leave_passes out false k (Both c d) h = in_turn_pass (leave out false k d) (leave out false k c) (λ q p. p before q)
        (leave_grows out false k d) (leave_grows out false k c) (leave_passes out false k d h.1) (leave_passes out false k c h.0)
        (λ q p l m. before_passes p q m l)
    leave_passes out true k (Both c d) h =
        in_turn_pass (leave (deeper 1 out) true (k + 1) d) (leave (deeper 1 out) false 0 c) (λ q p. block (p before q))
        (leave_grows (deeper 1 out) true (k + 1) d) (leave_grows (deeper 1 out) false 0 c)
        (leave_passes (deeper 1 out) true (k + 1) d h.1) (leave_passes (deeper 1 out) false 0 c h.0)
        (λ q p l m. block_passes (p before q) (before_passes p q m l))
    leave_passes out true k (Either c d) h = in_turn_pass (leave out true k d) (leave out true k c) (λ q p. p before q)
        (leave_grows out true k d) (leave_grows out true k c) (leave_passes out true k d h.1) (leave_passes out true k c h.0) (λ q p l m. before_passes p q m l)
    leave_passes out false k (Either c d) h =
        in_turn_pass (leave (deeper 1 out) false (k + 1) d) (leave (deeper 1 out) true 0 c) (λ q p. block (p before q))
        (leave_grows (deeper 1 out) false (k + 1) d) (leave_grows (deeper 1 out) true 0 c)
        (leave_passes (deeper 1 out) false (k + 1) d h.1) (leave_passes (deeper 1 out) true 0 c h.0)
        (λ q p l m. block_passes (p before q) (before_passes p q m l))

    linear_passes : (out : ℕ → ℕ) (s : Ts) → TsPasses Passes s → Keeps PartPasses (linear out s)
    linear_passes out (Move i x) h = made (hoist out x) (with_one (λ v. assigning i (Move i v))) (hoist_passes out x h.1)
        (λ a w. record { part = first_then_passes a.front.statement (Move i a.rest) w.front (h.0, w.rest) })
    linear_passes out (Store x y) h = two_pass (hoist out x) (hoist out y) (with_two Store) (hoist_grows out x) (hoist_grows out y)
        (hoist_passes out x h.0) (hoist_passes out y h.1)
        (λ a t. record { part = first_then_passes a.front.statement (Store a.left a.right) t.front (t.left, t.right) })
    linear_passes out (StoreByte x y) h = two_pass (hoist out x) (hoist out y) (with_two StoreByte) (hoist_grows out x)
        (hoist_grows out y) (hoist_passes out x h.0) (hoist_passes out y h.1)
        (λ a t. record { part = first_then_passes a.front.statement (StoreByte a.left a.right) t.front (t.left, t.right) })
    linear_passes out (Do x) h = made (hoist out x) (with_one dropped) (hoist_passes out x h)
        (λ a w. record { part = first_then_passes a.front.statement (dropped a.rest).statement w.front (dropped_passes a.rest w.rest) })
    linear_passes out (If c s t) h =
        choose_passes (is_whole c) _ _
        (next (linear out t) (λ q. linear out s >>= (λ p. condition out c >>= (λ u. give (choice u p q)))) (linear_grows out t)
        (λ q. growing.in_turn_grow (linear out s) (condition out c) (λ p u. choice u p q) (linear_grows out s) (condition_grows out c))
        (linear_passes out t h.2) (λ q hq.
        in_turn_pass (linear out s) (condition out c) (λ p u. choice u p q) (linear_grows out s) (condition_grows out c)
        (linear_passes out s h.1) (condition_passes out c h.0) (λ p u hp hu. choice_passes u p q hu hp hq)))
        (next (linear (deeper 1 out) t) (λ q. linear (deeper 2 out) s >>= (λ p. leave (deeper 2 out) false 0 c >>= (λ u. give (wide_choice u p q))))
        (linear_grows (deeper 1 out) t) (λ q. growing.in_turn_grow (linear (deeper 2 out) s) (leave (deeper 2 out) false 0 c)
        (λ p u. wide_choice u p q) (linear_grows (deeper 2 out) s) (leave_grows (deeper 2 out) false 0 c)) (linear_passes (deeper 1 out) t h.2) (λ q hq.
        in_turn_pass (linear (deeper 2 out) s) (leave (deeper 2 out) false 0 c) (λ p u. wide_choice u p q)
        (linear_grows (deeper 2 out) s) (leave_grows (deeper 2 out) false 0 c) (linear_passes (deeper 2 out) s h.1)
        (leave_passes (deeper 2 out) false 0 c h.0) (λ p u hp hu. wide_passes u p q hu hp hq)))
    linear_passes out (Loop s) h = made (linear (inside out) s) loop_of (linear_passes (inside out) s h) (λ p l. record { part = l.part })
    linear_passes out (Break k) h = given (record { part = tt })
    linear_passes out (Fault i) h = given (record { part = h })
    linear_passes out (Seq ss) h = made (linear_all out ss) in_turn (linear_all_pass out ss h) (λ all l. record { part = l.list })
    linear_passes out (Return x) h = one_passes (hoist out x) (with_one (λ v. still (Return v))) (hoist_grows out x)
        (hoist_passes out x h) (λ a w. record { part = first_then_passes a.front.statement (Return a.rest) w.front w.rest })

    linear_all_pass : (out : ℕ → ℕ) (ss : Stms) → StmsPass Passes ss → Keeps PartsPass (linear_all out ss)
    linear_all_pass out no_stms h = given (record { list = tt })
    linear_all_pass out (stm s ss) h = in_turn_pass (linear_all out ss) (linear out s) (λ all p. in_front p all)
        (growing.linear_all_grows out ss) (linear_grows out s) (linear_all_pass out ss h.1) (linear_passes out s h.0) (λ all p l m. in_front_passes p all m l)

  statements_pass : (s : Ts) → TsPasses Passes s → StmsPass Passes (statements_of s)
  statements_pass (Seq ss) h = h
  statements_pass (Fault n) h = (h, tt)
  statements_pass (Return x) h = (h, tt)
  statements_pass (Move i x) h = (h, tt)
  statements_pass (Store x y) h = (h, tt)
  statements_pass (StoreByte x y) h = (h, tt)
  statements_pass (Do x) h = (h, tt)
  statements_pass (If c s t) h = (h, tt)
  statements_pass (Loop s) h = (h, tt)
  statements_pass (Break k) h = (h, tt)

  -- a body's statements, from the first number on
  statements_keep : (body : Ts) → TsPasses Passes body → (linearized body from).next ≤ top → StmsPass Passes (linearized body from).it
  statements_keep body h high = statements_pass (linear (λ i. i) body from).it.statement ((linear_passes (λ i. i) body h).at from (omega arith) high).part

pub linearized_names : (allowed : Named → Bool) (body : Ts) (temps : ℕ) → NamesAreAllowed allowed (named_ts body []) →
    AllowsDrawn allowed temps (linearized body temps).next → NamesAreAllowed allowed (named_stms (linearized body temps).it [])
linearized_names allowed body temps h drawn =
    statements_names (λ x. IsTrue (allowed x)) (linearized body temps).it (statements_keep allowed temps (linearized body temps).next
    drawn body (body_passes (λ x. IsTrue (allowed x)) body h) (omega arith))

-- a test of temporaries alone
abbrev pub below : ℕ → Named → Bool
below n (temporary i) = ltb i n
below n (function label) = true
below n (literal label) = true
below n (fault i) = true
below n (constant i) = true

abbrev pub IsBelow : ℕ → Named → Type 0
IsBelow n x = IsTrue (below n x)

pub below_more : (m n : ℕ) (names : List Named) → m ≤ n → AreTempsBelow m names → NamesAreAllowed (below n) names
below_more m n names le h (temporary j) d = let lt : j < m = h j d in lt-ltb j n (omega arith)
below_more m n names le h (function label) d = refl
below_more m n names le h (literal label) d = refl
below_more m n names le h (fault j) d = refl
below_more m n names le h (constant j) d = refl

pub temporaries_below : (body : Ts) (temps : ℕ) → AreTempsBelow temps (named_ts body []) →
    AreTempsBelow (linearized body temps).next (named_stms (linearized body temps).it [])
temporaries_below body temps h i c =
    ltb-true i (linearized body temps).next
    (linearized_names (below (linearized body temps).next) body temps (below_more temps (linearized body temps).next
    (named_ts body []) (linearized_grows body temps) h)
    (λ j low high. lt-ltb j (linearized body temps).next high) (temporary i) c)
