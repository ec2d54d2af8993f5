-- What each step of the code joins.
use Rattle.std.proofs.Common.{◌≡◌, ◌+◌, ◌<◌, ◌==◌, ℕ, Bool, true, false, ◌&&◌, ◌||◌, List, Option, Some, None, length, get_or, take, refl, sym, ap}
use Rattle.std.proofs.Common.{◌∙◌, Result, Ok, Err, OnOk}
use Rattle.std.proofs.lemmas.Bool.{eqb-true}
use Rattle.std.proofs.lemmas.List.Folds.{list_any_more}
use Rattle.tg_instr.specs.declared.operands.Opnd.{Opnd}
use Rattle.tg_instr.specs.Operands.{is_same}
use Rattle.tg_graph.specs.Interference.{are_ends}
use Rattle.tg_irc_definition.specs.declared.moves.Move.{Move}
use Rattle.tg_interference.specs.Nodes.{operand_at, node_of}
use Rattle.tg_interference.specs.Pairs.{has, is_apart, joins, joins_both}
use Rattle.tg_interference.proofs.Colours.{is_at, same_at}

guarded : (b c k : Bool) → (b ≡ true → c ≡ true → k ≡ true) → (b && c) ≡ (b && (k && c))
guarded false c k h = refl
guarded true false true h = refl
guarded true false false h = refl
guarded true true k h = sym (ap (λ x. x && true) (h refl refl))

unguarded : (b c k : Bool) → (b ≡ true → c ≡ true → k ≡ false) → (b && (k && c)) ≡ false
unguarded false c k h = refl
unguarded true false true h = refl
unguarded true false false h = refl
unguarded true true k h = ap (λ x. x && true) (h refl refl)

either_way : (a b : Bool) → (a && b) ≡ (b && a)
either_way true true = refl
either_way true false = refl
either_way false true = refl
either_way false false = refl

module _ (moved : Option Move) where
  -- two nodes that are apart are joined
  pub ends_apart : (a b : ℕ) → is_apart moved a b ≡ true → (x y : ℕ) →
      are_ends a b x y ≡ joins_both moved (λ n. n == a) (λ n. n == b) x y
  ends_apart a b h x y =
      ap (λ u. u || ((x == b) && (y == a))) (one x y)
      ∙ ap (λ u. joins moved (λ n. n == a) (λ n. n == b) x y || u) (either_way (x == b) (y == a) ∙ one y x)
    where
      one : (u v : ℕ) → ((u == a) && (v == b)) ≡ joins moved (λ n. n == a) (λ n. n == b) u v
      one u v = guarded (u == a) (v == b) (is_apart moved u v) (λ p q. ap (λ k. is_apart moved k v) (eqb-true u a p)
          ∙ (ap (is_apart moved a) (eqb-true v b q) ∙ h))

  -- and two that aren't are not
  pub none_apart : (a b : ℕ) → is_apart moved a b ≡ false → (x y : ℕ) →
      joins_both moved (λ n. n == a) (λ n. n == b) x y ≡ false
  none_apart a b h x y = ap (λ u. u || joins moved (λ n. n == a) (λ n. n == b) y x) (one x y) ∙ one y x
    where
      one : (u v : ℕ) → joins moved (λ n. n == a) (λ n. n == b) u v ≡ false
      one u v = unguarded (u == a) (v == b) (is_apart moved u v) (λ p q. ap (λ k. is_apart moved k v) (eqb-true u a p)
          ∙ (ap (is_apart moved a) (eqb-true v b q) ∙ h))

  -- the same tests join the same
  joins_same : (f g p q : ℕ → Bool) → ((n : ℕ) → f n ≡ g n) → ((n : ℕ) → p n ≡ q n) → (x y : ℕ) →
      joins moved f p x y ≡ joins moved g q x y
  joins_same f g p q d l x y =
      ap (λ b. b && (is_apart moved x y && p y)) (d x) ∙ ap (λ b. g x && (is_apart moved x y && b)) (l y)

  pub both_same : (f g p q : ℕ → Bool) → ((n : ℕ) → f n ≡ g n) → ((n : ℕ) → p n ≡ q n) → (x y : ℕ) →
      joins_both moved f p x y ≡ joins_both moved g q x y
  both_same f g p q d l x y =
      ap (λ b. b || joins moved f p y x) (joins_same f g p q d l x y)
      ∙ ap (λ b. joins moved g q x y || b) (joins_same f g p q d l y x)

  -- a test that nothing passes joins nothing
  no_definition : (b k : Bool) → (false && (k && b)) ≡ false
  no_definition b k = refl

  nothing_lives : (b k : Bool) → (b && (k && false)) ≡ false
  nothing_lives false k = refl
  nothing_lives true false = refl
  nothing_lives true true = refl

  pub none_defined : (f p : ℕ → Bool) → ((n : ℕ) → f n ≡ false) → (x y : ℕ) → joins_both moved f p x y ≡ false
  none_defined f p h x y = both_same f (λ n. false) p p h (λ n. refl) x y

  pub none_live : (f p : ℕ → Bool) → ((n : ℕ) → p n ≡ false) → (x y : ℕ) → joins_both moved f p x y ≡ false
  none_live f p h x y =
      both_same f f p (λ n. false) (λ n. refl) h x y
      ∙ (ap (λ b. b || joins moved f (λ n. false) y x) (nothing_lives (f x) (is_apart moved x y))
      ∙ nothing_lives (f y) (is_apart moved y x))

  -- One more definition, or one more that is live.

  four : (a b c d : Bool) → ((a || c) || (b || d)) ≡ ((a || b) || (c || d))
  four true b c d = refl
  four false true true d = refl
  four false true false d = refl
  four false false c d = refl

  right : (a k m o : Bool) → (a && (k && (m || o))) ≡ ((a && (k && m)) || (a && (k && o)))
  right false k m o = refl
  right true false m o = refl
  right true true m o = refl

  left : (m o k a : Bool) → ((m || o) && (k && a)) ≡ ((m && (k && a)) || (o && (k && a)))
  left false o k a = refl
  left true false false a = refl
  left true false true false = refl
  left true false true true = refl
  left true true false a = refl
  left true true true false = refl
  left true true true true = refl

  -- what joins one way as two others do joins so in either order
  both_more : (all some one : ℕ → ℕ → Bool) → ((u v : ℕ) → all u v ≡ (some u v || one u v)) → (x y : ℕ) →
      (all x y || all y x) ≡ ((some x y || some y x) || (one x y || one y x))
  both_more all some one h x y =
      ap (λ b. b || all y x) (h x y)
      ∙ (ap (λ b. (some x y || one x y) || b) (h y x)
      ∙ four (some x y) (some y x) (one x y) (one y x))

  pub live_more : (f p q r : ℕ → Bool) → ((n : ℕ) → p n ≡ (q n || r n)) → (x y : ℕ) →
      joins_both moved f p x y ≡ (joins_both moved f q x y || joins_both moved f r x y)
  live_more f p q r h = both_more (joins moved f p) (joins moved f q) (joins moved f r)
      (λ u v. ap (λ b. f u && (is_apart moved u v && b)) (h v) ∙ right (f u) (is_apart moved u v) (q v) (r v))

  pub defined_more : (f g d p : ℕ → Bool) → ((n : ℕ) → f n ≡ (g n || d n)) → (x y : ℕ) →
      joins_both moved f p x y ≡ (joins_both moved g p x y || joins_both moved d p x y)
  defined_more f g d p h = both_more (joins moved f p) (joins moved g p) (joins moved d p)
      (λ u v. ap (λ b. b && (is_apart moved u v && p v)) (h u) ∙ left (g u) (d u) (is_apart moved u v) (p v))

-- the step of a loop that joins
pub joined_more : (new old first all some one : Bool) → new ≡ (one || old) → old ≡ (some || first) →
    all ≡ (some || one) → new ≡ (all || first)
joined_more new old first all some one n o a =
    n ∙ (ap (λ b. one || b) o ∙ (turn one some first ∙ ap (λ b. b || first) (sym a)))
  where
    turn : (u v w : Bool) → (u || (v || w)) ≡ ((v || u) || w)
    turn true true w = refl
    turn true false w = refl
    turn false true w = refl
    turn false false w = refl

pub has_more : (list : List Opnd) (i : ℕ) (x : Opnd) → i < length list → x ≡ get_or list i x → (n : ℕ) →
    has (take (i + 1) list) n ≡ (has (take i list) n || is_same (operand_at n) x)
has_more list i x l e n =
    list_any_more (is_same (operand_at n)) list i x l
    ∙ ap (λ z. has (take i list) n || is_same (operand_at n) z) (sym e)

-- an operand with a node is the operand of this node alone, and one with none of no node
pub at_node : (x : Opnd) (m : ℕ) → Some m ≡ node_of x → (n : ℕ) → (n == m) ≡ is_same (operand_at n) x
at_node x m e n = ap (λ o. is_at o n) e ∙ sym (same_at n x)

pub at_no_node : (x : Opnd) → None ≡ node_of x → (n : ℕ) → is_same (operand_at n) x ≡ false
at_no_node x e n = same_at n x ∙ ap (λ o. is_at o n) (sym e)

pub on_ok : {T E : Type 0} (r : Result T E) {P Q : Type 0} → (P → Q) → OnOk r P → OnOk r Q
on_ok (Ok v) f h = f h
on_ok (Err e) f h = h
