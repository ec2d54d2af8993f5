-- Nothing is left to fold in what is folded.
use Rattle.std.proofs.Common.{◌≡◌, ◌⊎◌, inl, inr, ℕ, Bool, true, false, refl, sym, ap, ◌∙◌, subst, arith}
use Rattle.std.proofs.lemmas.Bool.Decides.{nat_tests}
use Rattle.std.specs.Prelude.{◌==◌, ◌&&◌, ◌||◌, not, if◌then◌else◌, Option, Some, None}
use Rattle.tg_tree.specs.declared.operators.Bin.{Bin}
use Rattle.tg_tree.specs.declared.operators.Rel.{Rel}
use Rattle.tg_tree.specs.Tree.{Tx, Const, Address, Temp, FrameAddress, Binary, Load, LoadByte, Call, Service, After, Txs, no_txs, tx, Cond, Compare}
use Rattle.tg_tree.specs.Tree.{Not, Both, Either, Ts, Move, Store, StoreByte, Do, If, Loop, Break, Fault, Seq, Return, Stms, no_stms, stm}
use Rattle.tg_tree.specs.Operators.{Given, word, stops_by, operate}
use Rattle.tg_fold.specs.Sides.{constants}
use Rattle.tg_fold.specs.Copies.{assigns, assigns_stms, assigns_tx, assigns_txs, assigns_cond, reads, reads_stms, reads_tx, reads_txs, reads_cond}
use Rattle.tg_fold.specs.Copies.{copy, takes_copy, instead, renamed, renamed_stms, renamed_tx, renamed_txs, renamed_cond}
use Rattle.tg_fold.specs.mirror.Folding.{given_word, word_of, constant_or, operated, Tested, Known, Open, compared_by, compared, negated}
use Rattle.tg_fold.specs.mirror.Folding.{both_of, either_of, chosen, passed, passed_on, folded_tx, folded_txs, tested, folded, each_folded}
use Rattle.tg_fold.specs.Folded.{StopsOn, ComesOut, IsKnownAs, LeavesCopy, IsFolded, AreFolded, IsFoldedTx, AreFoldedTxs, IsFoldedCond}

pub either_false : (a b : Bool) → (a || b) ≡ false → (a ≡ false) × (b ≡ false)
either_false true b e = cc
either_false false b e = (refl, e)

both_false : (a b : Bool) → a ≡ false → b ≡ false → (a || b) ≡ false
both_false a b e f = rw (e, f) refl

all_true : (a b : Bool) → (a && b) ≡ true → (a ≡ true) × (b ≡ true)
all_true true b e = (refl, e)
all_true false b e = cc

not_true : (a : Bool) → not a ≡ true → a ≡ false
not_true true e = cc
not_true false e = refl

pub turned : (i j : ℕ) → (i == j) ≡ false → (j == i) ≡ false
turned i j e = grind (arith, nat_tests)

module _ (a b : ℕ) where
  -- what a renamed part assigns
  mutual
    renamed_assigns : (i : ℕ) (s : Ts) → assigns i (renamed a b s) ≡ assigns i s
    renamed_assigns i (Move j x) = ap (λ q. (i == j) || q) (renamed_tx_assigns i x)
    renamed_assigns i (Store x y) = rw (renamed_tx_assigns i x, renamed_tx_assigns i y) refl
    renamed_assigns i (StoreByte x y) = rw (renamed_tx_assigns i x, renamed_tx_assigns i y) refl
    renamed_assigns i (Do x) = renamed_tx_assigns i x
    renamed_assigns i (If c s t) = rw (renamed_cond_assigns i c, renamed_assigns i s, renamed_assigns i t) refl
    renamed_assigns i (Loop s) = renamed_assigns i s
    renamed_assigns i (Break k) = refl
    renamed_assigns i (Fault n) = refl
    renamed_assigns i (Seq ss) = renamed_stms_assigns i ss
    renamed_assigns i (Return x) = renamed_tx_assigns i x

    renamed_stms_assigns : (i : ℕ) (ss : Stms) → assigns_stms i (renamed_stms a b ss) ≡ assigns_stms i ss
    renamed_stms_assigns i no_stms = refl
    renamed_stms_assigns i (stm s ss) = rw (renamed_assigns i s, renamed_stms_assigns i ss) refl

    renamed_tx_assigns : (i : ℕ) (x : Tx) → assigns_tx i (renamed_tx a b x) ≡ assigns_tx i x
    renamed_tx_assigns i (Const n) = refl
    renamed_tx_assigns i (Address label) = refl
    renamed_tx_assigns i (Temp j) = refl
    renamed_tx_assigns i FrameAddress = refl
    renamed_tx_assigns i (Binary op x y) = rw (renamed_tx_assigns i x, renamed_tx_assigns i y) refl
    renamed_tx_assigns i (Load x) = renamed_tx_assigns i x
    renamed_tx_assigns i (LoadByte x) = renamed_tx_assigns i x
    renamed_tx_assigns i (Call label xs) = renamed_txs_assigns i xs
    renamed_tx_assigns i (Service n x) = renamed_tx_assigns i x
    renamed_tx_assigns i (After s x) = rw (renamed_assigns i s, renamed_tx_assigns i x) refl

    renamed_txs_assigns : (i : ℕ) (xs : Txs) → assigns_txs i (renamed_txs a b xs) ≡ assigns_txs i xs
    renamed_txs_assigns i no_txs = refl
    renamed_txs_assigns i (tx x xs) = rw (renamed_tx_assigns i x, renamed_txs_assigns i xs) refl

    renamed_cond_assigns : (i : ℕ) (c : Cond) → assigns_cond i (renamed_cond a b c) ≡ assigns_cond i c
    renamed_cond_assigns i (Compare rel x y) = rw (renamed_tx_assigns i x, renamed_tx_assigns i y) refl
    renamed_cond_assigns i (Not c) = renamed_cond_assigns i c
    renamed_cond_assigns i (Both c d) = rw (renamed_cond_assigns i c, renamed_cond_assigns i d) refl
    renamed_cond_assigns i (Either c d) = rw (renamed_cond_assigns i c, renamed_cond_assigns i d) refl

  -- one reads d, which isn't b, only where the part did (as C says), and doesn't read a
  module _ (d : ℕ) (apart : (d == b) ≡ false) (C : Type 0) (or : C ⊎ ((j : ℕ) → (j == a) ≡ false → (d == j) ≡ false)) where
    instead_unread : (j : ℕ) → (C → (d == j) ≡ false) → (d == instead a b j) ≡ false
    instead_unread j h = by (j == a) refl
      where
        kept : (j == a) ≡ false → C ⊎ ((j : ℕ) → (j == a) ≡ false → (d == j) ≡ false) → (d == j) ≡ false
        kept e (inl c) = h c
        kept e (inr f) = f j e

        by : (q : Bool) → (j == a) ≡ q → (d == (if q then b else j)) ≡ false
        by true e = apart
        by false e = kept e or

    either_unread : (p q p' q' : Bool) → ((C → p ≡ false) → p' ≡ false) → ((C → q ≡ false) → q' ≡ false) → (C → (p || q) ≡ false) → (p' || q') ≡ false
    either_unread p q p' q' f g h = both_false p' q' (f (λ c. (either_false p q (h c)).0)) (g (λ c. (either_false p q (h c)).1))

    mutual
      unread : (s : Ts) → (C → reads d s ≡ false) → reads d (renamed a b s) ≡ false
      unread (Move j x) h = unread_tx x h
      unread (Store x y) h =
          either_unread (reads_tx d x) (reads_tx d y) (reads_tx d (renamed_tx a b x)) (reads_tx d (renamed_tx a b y)) (unread_tx x) (unread_tx y) h
      unread (StoreByte x y) h =
          either_unread (reads_tx d x) (reads_tx d y) (reads_tx d (renamed_tx a b x)) (reads_tx d (renamed_tx a b y)) (unread_tx x) (unread_tx y) h
      unread (Do x) h = unread_tx x h
      unread (If c s t) h =
          either_unread (reads_cond d c) (reads d s || reads d t) (reads_cond d (renamed_cond a b c)) (reads d (renamed a b s) || reads d (renamed a b t))
          (unread_cond c)
          (λ k. either_unread (reads d s) (reads d t) (reads d (renamed a b s)) (reads d (renamed a b t)) (unread s) (unread t) k) h
      unread (Loop s) h = unread s h
      unread (Break k) h = refl
      unread (Fault n) h = refl
      unread (Seq ss) h = unread_stms ss h
      unread (Return x) h = unread_tx x h

      unread_stms : (ss : Stms) → (C → reads_stms d ss ≡ false) → reads_stms d (renamed_stms a b ss) ≡ false
      unread_stms no_stms h = refl
      unread_stms (stm s ss) h =
          either_unread (reads d s) (reads_stms d ss) (reads d (renamed a b s)) (reads_stms d (renamed_stms a b ss)) (unread s) (unread_stms ss) h

      unread_tx : (x : Tx) → (C → reads_tx d x ≡ false) → reads_tx d (renamed_tx a b x) ≡ false
      unread_tx (Const n) h = refl
      unread_tx (Address label) h = refl
      unread_tx (Temp j) h = instead_unread j h
      unread_tx FrameAddress h = refl
      unread_tx (Binary op x y) h =
          either_unread (reads_tx d x) (reads_tx d y) (reads_tx d (renamed_tx a b x)) (reads_tx d (renamed_tx a b y)) (unread_tx x) (unread_tx y) h
      unread_tx (Load x) h = unread_tx x h
      unread_tx (LoadByte x) h = unread_tx x h
      unread_tx (Call label xs) h = unread_txs xs h
      unread_tx (Service n x) h = unread_tx x h
      unread_tx (After s x) h =
          either_unread (reads d s) (reads_tx d x) (reads d (renamed a b s)) (reads_tx d (renamed_tx a b x)) (unread s) (unread_tx x) h

      unread_txs : (xs : Txs) → (C → reads_txs d xs ≡ false) → reads_txs d (renamed_txs a b xs) ≡ false
      unread_txs no_txs h = refl
      unread_txs (tx x xs) h =
          either_unread (reads_tx d x) (reads_txs d xs) (reads_tx d (renamed_tx a b x)) (reads_txs d (renamed_txs a b xs)) (unread_tx x) (unread_txs xs) h

      unread_cond : (c : Cond) → (C → reads_cond d c ≡ false) → reads_cond d (renamed_cond a b c) ≡ false
      unread_cond (Compare rel x y) h =
          either_unread (reads_tx d x) (reads_tx d y) (reads_tx d (renamed_tx a b x)) (reads_tx d (renamed_tx a b y)) (unread_tx x) (unread_tx y) h
      unread_cond (Not c) h = unread_cond c h
      unread_cond (Both c e) h =
          either_unread (reads_cond d c) (reads_cond d e) (reads_cond d (renamed_cond a b c)) (reads_cond d (renamed_cond a b e))
          (unread_cond c) (unread_cond e) h
      unread_cond (Either c e) h =
          either_unread (reads_cond d c) (reads_cond d e) (reads_cond d (renamed_cond a b c)) (reads_cond d (renamed_cond a b e))
          (unread_cond c) (unread_cond e) h

  renamed_constants : (x y : Tx) → constants (renamed_tx a b x) (renamed_tx a b y) ≡ constants x y
  renamed_constants (Const m) (Const n) = refl
  renamed_constants (Const m) (Address label) = refl
  renamed_constants (Const m) (Temp i) = refl
  renamed_constants (Const m) FrameAddress = refl
  renamed_constants (Const m) (Binary op u v) = refl
  renamed_constants (Const m) (Load u) = refl
  renamed_constants (Const m) (LoadByte u) = refl
  renamed_constants (Const m) (Call label xs) = refl
  renamed_constants (Const m) (Service n u) = refl
  renamed_constants (Const m) (After s u) = refl
  renamed_constants (Address label) y = refl
  renamed_constants (Temp i) y = refl
  renamed_constants FrameAddress y = refl
  renamed_constants (Binary op u v) y = refl
  renamed_constants (Load u) y = refl
  renamed_constants (LoadByte u) y = refl
  renamed_constants (Call label xs) y = refl
  renamed_constants (Service n u) y = refl
  renamed_constants (After s u) y = refl

  renamed_comes_out : (q : Bool) (c : Cond) → ComesOut q c → ComesOut q (renamed_cond a b c)
  renamed_comes_out q (Compare rel x y) h = subst (λ o. IsKnownAs q rel o) (sym (renamed_constants x y)) h
  renamed_comes_out q (Not c) h = absurd h
  renamed_comes_out q (Both c d) h = absurd h
  renamed_comes_out q (Either c d) h = absurd h

  -- what a copy becomes, in a part that assigns neither a nor b
  data Becomes : Option (ℕ × ℕ) → Option (ℕ × ℕ) → Type 0 where
    no_copy : Becomes None None
    copied : (d e : ℕ) → (a == d) ≡ false → (b == d) ≡ false → Becomes (Some (d, e)) (Some (d, instead a b e))

  move_becomes : (i : ℕ) (x : Tx) → (a == i) ≡ false → (b == i) ≡ false → Becomes (copy (Move i x)) (copy (Move i (renamed_tx a b x)))
  move_becomes i (Const n) p q = no_copy
  move_becomes i (Address label) p q = no_copy
  move_becomes i (Temp j) p q = copied i j p q
  move_becomes i FrameAddress p q = no_copy
  move_becomes i (Binary op x y) p q = no_copy
  move_becomes i (Load x) p q = no_copy
  move_becomes i (LoadByte x) p q = no_copy
  move_becomes i (Call label xs) p q = no_copy
  move_becomes i (Service n x) p q = no_copy
  move_becomes i (After s x) p q = no_copy

  copy_becomes : (s : Ts) → assigns a s ≡ false → assigns b s ≡ false → Becomes (copy s) (copy (renamed a b s))
  copy_becomes (Move i x) p q = move_becomes i x (either_false (a == i) (assigns_tx a x) p).0 (either_false (b == i) (assigns_tx b x) q).0
  copy_becomes (Store x y) p q = no_copy
  copy_becomes (StoreByte x y) p q = no_copy
  copy_becomes (Do x) p q = no_copy
  copy_becomes (If c s t) p q = no_copy
  copy_becomes (Loop s) p q = no_copy
  copy_becomes (Break k) p q = no_copy
  copy_becomes (Fault n) p q = no_copy
  copy_becomes (Seq ss) p q = no_copy
  copy_becomes (Return x) p q = no_copy

  still_false : (p q r v p' r' v' : Bool) → (p ≡ true → p' ≡ true) → (r ≡ true → r' ≡ true) → (v ≡ false → v' ≡ false) →
      (not p && (not q && (not r && v))) ≡ false → (not p' && (not q && (not r' && v'))) ≡ false
  still_false true q r v p' r' v' f g h e = rw (f refl) refl
  still_false false true r v true r' v' f g h e = refl
  still_false false true r v false r' v' f g h e = refl
  still_false false false true v p' r' v' f g h e = rw (g refl) (last p')
    where
      last : (p' : Bool) → (not p' && false) ≡ false
      last true = refl
      last false = refl
  still_false false false false true p' r' v' f g h e = cc
  still_false false false false false p' r' v' f g h e = rw (h refl) (last p' r')
    where
      last : (p' r' : Bool) → (not p' && (not r' && false)) ≡ false
      last true r' = refl
      last false true = refl
      last false false = refl

  leaves_still : (before after : Option (ℕ × ℕ)) (s : Ts) → assigns a s ≡ false → assigns b s ≡ false → Becomes before after →
      LeavesCopy before s → LeavesCopy after (renamed a b s)
  leaves_still None None s p q no_copy h = tt
  leaves_still None (Some _) s p q c h = elim c [ ]
  leaves_still (Some _) None s p q c h = elim c [ ]
  leaves_still (Some _) (Some _) s p q (copied d e f g) h = by (e == a) refl
    where
      quiet : reads d s ≡ false → reads d (renamed a b s) ≡ false
      quiet k = unread d (turned b d g) (reads d s ≡ false) (inl k) s (λ l. l)

      goal : ℕ → Type 0
      goal e' = takes_copy d e' (renamed a b s) ≡ false

      same_name : (i j : ℕ) → (i == j) ≡ true → i ≡ j
      same_name i j e = grind (arith, nat_tests)

      impossible : (q r : Bool) → q ≡ false → q ≡ true → r ≡ true
      impossible q r k l = let m : false ≡ true = sym k ∙ l in cc

      by : (z : Bool) → (e == a) ≡ z → goal (if z then b else e)
      by true k =
          rw (renamed_assigns d s)
          (still_false (d == e) (assigns d s) (assigns e s) (reads d s) (d == b) (assigns b (renamed a b s)) (reads d (renamed a b s))
          (λ l. impossible (d == e) (d == b) (ap (λ i. d == i) (same_name e a k) ∙ turned a d f) l)
          (λ l. impossible (assigns e s) (assigns b (renamed a b s)) (ap (λ i. assigns i s) (same_name e a k) ∙ p) l) quiet h)
      by false k =
          rw (renamed_assigns d s)
          (still_false (d == e) (assigns d s) (assigns e s) (reads d s) (d == e) (assigns e (renamed a b s)) (reads d (renamed a b s))
          (λ l. l) (λ l. renamed_assigns e s ∙ l) quiet h)

  -- two parts that assign neither
  in_both : {A B A' B' : Type 0} (p q r s : Bool) → (p ≡ false → r ≡ false → A → A') → (q ≡ false → s ≡ false → B → B') →
      (p || q) ≡ false → (r || s) ≡ false → A × B → A' × B'
  in_both p q r s f g e e' h =
      let k = either_false p q e in
      let l = either_false r s e' in
      (f k.0 l.0 h.0, g k.1 l.1 h.1)

  right_folded : (z : Bool) (c : Cond) → (IsFoldedCond c → IsFoldedCond (renamed_cond a b c)) → IsFoldedCond c ⊎ ComesOut z c →
      IsFoldedCond (renamed_cond a b c) ⊎ ComesOut z (renamed_cond a b c)
  right_folded z c f (inl h) = inl (f h)
  right_folded z c f (inr h) = inr (renamed_comes_out z c h)

  mutual
    renamed_folded : (s : Ts) → assigns a s ≡ false → assigns b s ≡ false → IsFolded s → IsFolded (renamed a b s)
    renamed_folded (Move i x) p q h =
        renamed_tx_folded x (either_false (a == i) (assigns_tx a x) p).1 (either_false (b == i) (assigns_tx b x) q).1 h
    renamed_folded (Store x y) p q h =
        in_both (assigns_tx a x) (assigns_tx a y) (assigns_tx b x) (assigns_tx b y) (renamed_tx_folded x) (renamed_tx_folded y) p q h
    renamed_folded (StoreByte x y) p q h =
        in_both (assigns_tx a x) (assigns_tx a y) (assigns_tx b x) (assigns_tx b y) (renamed_tx_folded x) (renamed_tx_folded y) p q h
    renamed_folded (Do x) p q h = renamed_tx_folded x p q h
    renamed_folded (If c s t) p q h =
        let k = either_false (assigns_cond a c) (assigns a s || assigns a t) p in
        let l = either_false (assigns_cond b c) (assigns b s || assigns b t) q in
        let m = either_false (assigns a s) (assigns a t) k.1 in
        let n = either_false (assigns b s) (assigns b t) l.1 in
        (renamed_cond_folded c k.0 l.0 h.0, renamed_folded s m.0 n.0 h.1, renamed_folded t m.1 n.1 h.2)
    renamed_folded (Loop s) p q h = renamed_folded s p q h
    renamed_folded (Break k) p q h = tt
    renamed_folded (Fault n) p q h = tt
    renamed_folded (Seq ss) p q h = renamed_stms_folded None None ss p q no_copy h
    renamed_folded (Return x) p q h = renamed_tx_folded x p q h

    renamed_stms_folded : (before after : Option (ℕ × ℕ)) (ss : Stms) → assigns_stms a ss ≡ false → assigns_stms b ss ≡ false → Becomes before after →
        AreFolded before ss → AreFolded after (renamed_stms a b ss)
    renamed_stms_folded before after no_stms p q c h = tt
    renamed_stms_folded before after (stm s ss) p q c h =
        let k = either_false (assigns a s) (assigns_stms a ss) p in
        let l = either_false (assigns b s) (assigns_stms b ss) q in (
          leaves_still before after s k.0 l.0 c h.0,
          renamed_folded s k.0 l.0 h.1,
          renamed_stms_folded (copy s) (copy (renamed a b s)) ss k.1 l.1 (copy_becomes s k.0 l.0) h.2,
        )

    renamed_tx_folded : (x : Tx) → assigns_tx a x ≡ false → assigns_tx b x ≡ false → IsFoldedTx x → IsFoldedTx (renamed_tx a b x)
    renamed_tx_folded (Const n) p q h = tt
    renamed_tx_folded (Address label) p q h = tt
    renamed_tx_folded (Temp i) p q h = tt
    renamed_tx_folded FrameAddress p q h = tt
    renamed_tx_folded (Binary op x y) p q h =
        let k = in_both (assigns_tx a x) (assigns_tx a y) (assigns_tx b x) (assigns_tx b y) (renamed_tx_folded x) (renamed_tx_folded y) p q (h.1, h.2) in
        (subst (λ o. StopsOn op o) (sym (renamed_constants x y)) h.0, k.0, k.1)
    renamed_tx_folded (Load x) p q h = renamed_tx_folded x p q h
    renamed_tx_folded (LoadByte x) p q h = renamed_tx_folded x p q h
    renamed_tx_folded (Call label xs) p q h = renamed_txs_folded xs p q h
    renamed_tx_folded (Service n x) p q h = renamed_tx_folded x p q h
    renamed_tx_folded (After s x) p q h =
        in_both (assigns a s) (assigns_tx a x) (assigns b s) (assigns_tx b x) (renamed_folded s) (renamed_tx_folded x) p q h

    renamed_txs_folded : (xs : Txs) → assigns_txs a xs ≡ false → assigns_txs b xs ≡ false → AreFoldedTxs xs → AreFoldedTxs (renamed_txs a b xs)
    renamed_txs_folded no_txs p q h = tt
    renamed_txs_folded (tx x xs) p q h =
        in_both (assigns_tx a x) (assigns_txs a xs) (assigns_tx b x) (assigns_txs b xs) (renamed_tx_folded x) (renamed_txs_folded xs) p q h

    renamed_cond_folded : (c : Cond) → assigns_cond a c ≡ false → assigns_cond b c ≡ false → IsFoldedCond c → IsFoldedCond (renamed_cond a b c)
    renamed_cond_folded (Compare rel x y) p q h =
        let k = in_both (assigns_tx a x) (assigns_tx a y) (assigns_tx b x) (assigns_tx b y) (renamed_tx_folded x) (renamed_tx_folded y) p q (h.1, h.2) in
        (renamed_constants x y ∙ h.0, k.0, k.1)
    renamed_cond_folded (Not c) p q h = renamed_cond_folded c p q h
    renamed_cond_folded (Both c d) p q h =
        in_both (assigns_cond a c) (assigns_cond a d) (assigns_cond b c) (assigns_cond b d) (renamed_cond_folded c)
        (λ k l. right_folded false d (renamed_cond_folded d k l)) p q h
    renamed_cond_folded (Either c d) p q h =
        in_both (assigns_cond a c) (assigns_cond a d) (assigns_cond b c) (assigns_cond b d) (renamed_cond_folded c)
        (λ k l. right_folded true d (renamed_cond_folded d k l)) p q h

-- what a statement that takes a copy is like
pub record Takes (a b : ℕ) (s : Ts) : Type 0 where
  pub apart : (a == b) ≡ false
  pub keeps_to : assigns a s ≡ false
  pub keeps_from : assigns b s ≡ false

pub takes : (a b : ℕ) (s : Ts) → takes_copy a b s ≡ true → Takes a b s
takes a b s e =
    let h = all_true (not (a == b)) (not (assigns a s) && (not (assigns b s) && reads a s)) e in
    let k = all_true (not (assigns a s)) (not (assigns b s) && reads a s) h.1 in
    let l = all_true (not (assigns b s)) (reads a s) k.1 in
    record { apart = not_true (a == b) h.0; keeps_to = not_true (assigns a s) k.0; keeps_from = not_true (assigns b s) l.0 }

passed_folded : (before : Option (ℕ × ℕ)) (s : Ts) → IsFolded s → LeavesCopy before (passed before s) × IsFolded (passed before s)
passed_folded None s h = (tt, h)
passed_folded (Some (a, b)) s h = by (takes_copy a b s) refl
  where
    unread_then : (s : Ts) → reads a s ≡ false → takes_copy a b s ≡ false
    unread_then s e = rw e (last (a == b) (assigns a s) (assigns b s))
      where
        last : (p q r : Bool) → (not p && (not q && (not r && false))) ≡ false
        last true q r = refl
        last false true r = refl
        last false false true = refl
        last false false false = refl

    by : (z : Bool) → takes_copy a b s ≡ z → LeavesCopy (Some (a, b)) (if z then renamed a b s else s) × IsFolded (if z then renamed a b s else s)
    by true e =
        let t = takes a b s e in
        (unread_then (renamed a b s) (unread a b a t.apart ⊥ (inr (λ j k. turned j a k)) s (λ n. absurd n)), renamed_folded a b s t.keeps_to t.keeps_from h)
    by false e = (e, h)

abbrev EachFolded : Stms → Type 0
EachFolded no_stms = Unit {0}
EachFolded (stm s ss) = IsFolded s × EachFolded ss

passed_on_folded : (before : Option (ℕ × ℕ)) (ss : Stms) → EachFolded ss → AreFolded before (passed_on before ss)
passed_on_folded before no_stms h = tt
passed_on_folded before (stm s ss) h =
    let k = passed_folded before s h.0 in
    (k.0, k.1, passed_on_folded (copy (passed before s)) ss h.1)

operated_folded : (op : Bin) (x y : Tx) → IsFoldedTx x → IsFoldedTx y → IsFoldedTx (operated op x y)
operated_folded op x y h k = by (constants x y) refl
  where
    by : (o : Option (ℕ × ℕ)) → constants x y ≡ o → IsFoldedTx (constant_or (word_of op o) (Binary op x y))
    by None e = (subst (λ o. StopsOn op o) (sym e) tt, h, k)
    by (Some p) e = on (operate op p.0 p.1) refl
      where
        on : (g : Given) → operate op p.0 p.1 ≡ g → IsFoldedTx (constant_or (given_word g) (Binary op x y))
        on (word n) f = tt
        on (stops_by s) f = (subst (λ o. StopsOn op o) (sym e) (stopped op p.0 p.1 s f), h, k)
          where
            stopped : (op : Bin) (a b : ℕ) (s : _) → operate op a b ≡ stops_by s → StopsOn op (Some (a, b))
            stopped op a b s f = rw f tt

abbrev TestFolded : Tested → Type 0
TestFolded (Known b) = Unit {0}
TestFolded (Open c) = IsFoldedCond c

compared_folded : (rel : Rel) (x y : Tx) → IsFoldedTx x → IsFoldedTx y → TestFolded (compared rel x y)
compared_folded rel x y h k = by (constants x y) refl
  where
    by : (o : Option (ℕ × ℕ)) → constants x y ≡ o → TestFolded (compared_by rel o (Compare rel x y))
    by None e = (e, h, k)
    by (Some p) e = tt

negated_folded : (t : Tested) → TestFolded t → TestFolded (negated t)
negated_folded (Known b) h = tt
negated_folded (Open c) h = h

both_folded : (t u : Tested) → TestFolded t → TestFolded u → TestFolded (both_of t u)
both_folded (Known true) u h k = k
both_folded (Known false) u h k = tt
both_folded (Open c) (Known true) h k = h
both_folded (Open c) (Known false) h k = (h, inr refl)
both_folded (Open c) (Open d) h k = (h, inl k)

either_folded : (t u : Tested) → TestFolded t → TestFolded u → TestFolded (either_of t u)
either_folded (Known true) u h k = tt
either_folded (Known false) u h k = k
either_folded (Open c) (Known true) h k = (h, inr refl)
either_folded (Open c) (Known false) h k = h
either_folded (Open c) (Open d) h k = (h, inl k)

chosen_folded : (t : Tested) (r s : Ts) → TestFolded t → IsFolded r → IsFolded s → IsFolded (chosen t r s)
chosen_folded (Known true) r s h k l = k
chosen_folded (Known false) r s h k l = l
chosen_folded (Open c) r s h k l = (h, k, l)

mutual
  folded_tx_folded : (x : Tx) → IsFoldedTx (folded_tx x)
  folded_tx_folded (Const n) = tt
  folded_tx_folded (Address label) = tt
  folded_tx_folded (Temp i) = tt
  folded_tx_folded FrameAddress = tt
  folded_tx_folded (Binary op x y) = operated_folded op (folded_tx x) (folded_tx y) (folded_tx_folded x) (folded_tx_folded y)
  folded_tx_folded (Load x) = folded_tx_folded x
  folded_tx_folded (LoadByte x) = folded_tx_folded x
  folded_tx_folded (Call label xs) = folded_txs_folded xs
  folded_tx_folded (Service n x) = folded_tx_folded x
  folded_tx_folded (After s x) = (folded_is_folded s, folded_tx_folded x)

  folded_txs_folded : (xs : Txs) → AreFoldedTxs (folded_txs xs)
  folded_txs_folded no_txs = tt
  folded_txs_folded (tx x xs) = (folded_tx_folded x, folded_txs_folded xs)

  tested_folded : (c : Cond) → TestFolded (tested c)
  tested_folded (Compare rel x y) = compared_folded rel (folded_tx x) (folded_tx y) (folded_tx_folded x) (folded_tx_folded y)
  tested_folded (Not c) = negated_folded (tested c) (tested_folded c)
  tested_folded (Both c d) = both_folded (tested c) (tested d) (tested_folded c) (tested_folded d)
  tested_folded (Either c d) = either_folded (tested c) (tested d) (tested_folded c) (tested_folded d)

  pub folded_is_folded : (s : Ts) → IsFolded (folded s)
  folded_is_folded (Move i x) = folded_tx_folded x
  folded_is_folded (Store x y) = (folded_tx_folded x, folded_tx_folded y)
  folded_is_folded (StoreByte x y) = (folded_tx_folded x, folded_tx_folded y)
  folded_is_folded (Do x) = folded_tx_folded x
  folded_is_folded (If c s t) = chosen_folded (tested c) (folded s) (folded t) (tested_folded c) (folded_is_folded s) (folded_is_folded t)
  folded_is_folded (Loop s) = folded_is_folded s
  folded_is_folded (Break k) = tt
  folded_is_folded (Fault n) = tt
  folded_is_folded (Seq ss) = passed_on_folded None (each_folded ss) (each_is_folded ss)
  folded_is_folded (Return x) = folded_tx_folded x

  each_is_folded : (ss : Stms) → EachFolded (each_folded ss)
  each_is_folded no_stms = tt
  each_is_folded (stm s ss) = (folded_is_folded s, each_is_folded ss)
