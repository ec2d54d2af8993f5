-- The words of a call's arguments, one after another, and what they spend.
use Rattle.std.proofs.Common.{◌≡◌, ◌≤◌, ℕ, suc, ◌+◌, List, [], ◌∷◌, length, Bool, true, false, refl, sym, ap}
use Rattle.std.proofs.Common.{◌∙◌, subst, arith}
use Rattle.std.specs.Prelude.{◌==◌, ◌&&◌, ◌||◌, not, nat_lt, Option, Some, None, if◌then◌else◌}
use Rattle.tg_simulation.specs.Runs.{Run}
use Rattle.tg_simulation.specs.Ran.{Ran, Stop, Ended, WantsFuel, Wrong, stops, works}
use Rattle.tg_tree.specs.Tree as tree
use Rattle.tg_tree.specs.Tree.{Tx, Txs, no_txs, tx, Literal}
use Rattle.tg_tree.specs.Shapes.{IsFlat, AreFlat}
use Rattle.tg_tree.specs.Units.{Canonical}
use Rattle.tg_tree.specs.Memory.{Memory, load, load_byte, literal_address}
use Rattle.tg_tree.specs.declared.operators.Bin.{Bin}
use Rattle.tg_tree.specs.declared.operators.Bin.TheVariants as bin
use Rattle.tg_tree.specs.Operators.{Given, word, stops_by, operate}
use Rattle.tg_tree.specs.FlatValue.{onward, after_word, or_wrong, flat_value, flat_spent}
use Rattle.tg_tree.specs.Actions.{World, Temps, Go, Around, over, with_given}
use Rattle.tg_tree.specs.Meaning.{Enter, Point, values}
use Rattle.tg_tree.proofs.FlatValues.{flat_runs, works_add, works_none}
use Rattle.tg_munch.specs.mirror.Arguments.{is_trapping, may_end, is_in_register, is_in_frame, one_may_end}
use Rattle.tg_munch.specs.mirror.Bodies.{count}
use Rattle.tg_base.specs.Words.{quot}

-- all words, or how the run stops
pub data Listed : Type 0 where
  all_words : List ℕ → Listed
  stops_so : Stop → Listed

abbrev pub put_first : ℕ → Listed → Listed
put_first v (all_words vs) = all_words (v ∷ vs)
put_first v (stops_so z) = stops_so z

abbrev pub after_given : Given → Listed → Listed
after_given (word v) rest = put_first v rest
after_given (stops_by z) rest = stops_so z

abbrev pub with_list : Listed → World → (List ℕ → Run Ran) → Run Ran
with_list (all_words vs) w go = go vs
with_list (stops_so z) w go = over z w

-- a value that doesn't end the run: a word, or it goes wrong
abbrev pub OnlyWrong : Given → Type 0
OnlyWrong (word v) = Unit {0}
OnlyWrong (stops_by (Ended e)) = ⊥
OnlyWrong (stops_by WantsFuel) = ⊥
OnlyWrong (stops_by Wrong) = Unit {0}

pub first_listed : (v : ℕ) (l : Listed) (w : World) (go : List ℕ → Run Ran) (i : ℕ) →
    with_list (put_first v l) w go i ≡ with_list l w (λ vs. go (v ∷ vs)) i
first_listed v (all_words vs) w go i = refl
first_listed v (stops_so z) w go i = refl

pub given_listed : (g : Given) (l : Listed) (w : World) (go : List ℕ → Run Ran) (i : ℕ) →
    with_list (after_given g l) w go i ≡ with_given g w (λ v. with_list l w (λ vs. go (v ∷ vs))) i
given_listed (word v) l w go i = first_listed v l w go i
given_listed (stops_by z) l w go i = refl

module _ (ls : List Literal) (base : ℕ) (m : Memory) (t : Temps) where
  abbrev pub worth_of : Tx → Given
  worth_of x = flat_value ls base m t x

  abbrev pub spends_of : Tx → ℕ
  spends_of x = flat_spent Canonical ls base m t x

  abbrev pub listed : Txs → Listed
  listed no_txs = all_words []
  listed (tx x xs) = after_given (worth_of x) (listed xs)

  -- what all arguments spend, and those that a test picks
  abbrev pub all_spend : Txs → ℕ
  all_spend no_txs = 0
  all_spend (tx x xs) = 4 + (spends_of x + after_word (worth_of x) (all_spend xs))

  abbrev pub picked_spend : (ℕ → Bool) → ℕ → Txs → ℕ
  picked_spend picks i no_txs = 0
  picked_spend picks i (tx x xs) =
      (if picks i then spends_of x + 4 else 0) + after_word (worth_of x) (picked_spend picks (i + 1) xs)

  -- the arguments that a test doesn't pick never end the run
  abbrev pub NeverEnd : (ℕ → Bool) → ℕ → Txs → Type 0
  NeverEnd picks i no_txs = Unit {0}
  NeverEnd picks i (tx x xs) = (picks i ≡ false → OnlyWrong (worth_of x)) × NeverEnd picks (i + 1) xs

  pub all_picked : (i : ℕ) (xs : Txs) → NeverEnd (λ k. true) i xs
  all_picked i no_txs = tt
  all_picked i (tx x xs) = (λ e. absurd (no e), all_picked (i + 1) xs)
    where
      no : true ≡ false → ⊥
      no e = cc

  listed_more : (g : Given) (l : Listed) (vs : List ℕ) → after_given g l ≡ all_words vs →
      (v : ℕ) × ((us : List ℕ) × ((g ≡ word v) × ((l ≡ all_words us) × (vs ≡ v ∷ us))))
  listed_more (word v) (all_words us) vs e = (v, (us, (refl, (refl, same e))))
    where
      same : all_words (v ∷ us) ≡ all_words vs → vs ≡ v ∷ us
      same e = cc
  listed_more (word v) (stops_so z) vs e = absurd (no e)
    where
      no : stops_so z ≡ all_words vs → ⊥
      no e = cc
  listed_more (stops_by z) l vs e = absurd (no e)
    where
      no : stops_so z ≡ all_words vs → ⊥
      no e = cc

  -- where all have words, none ends the run, and there are as many words
  pub words_never_end : (picks : ℕ → Bool) (i : ℕ) (xs : Txs) (vs : List ℕ) → listed xs ≡ all_words vs → NeverEnd picks i xs
  words_never_end picks i no_txs vs e = tt
  words_never_end picks i (tx x xs) vs e =
      let q = listed_more (worth_of x) (listed xs) vs e in
      ((λ h. subst OnlyWrong (sym q.1.1.0) tt), words_never_end picks (i + 1) xs q.1.0 q.1.1.1.0)

  pub listed_long : (xs : Txs) (vs : List ℕ) → listed xs ≡ all_words vs → length vs ≡ count xs
  listed_long no_txs vs e = sym (ap length (same e))
    where
      same : all_words [] ≡ all_words vs → [] ≡ vs
      same e = cc
  listed_long (tx x xs) vs e =
      let q = listed_more (worth_of x) (listed xs) vs e in
      ap length q.1.1.1.1 ∙ ap suc (listed_long xs q.1.0 q.1.1.1.0)

  -- an expression without an operator that may end the run
  onward_only : (g : Given) (f : ℕ → Given) → OnlyWrong g → ((v : ℕ) → OnlyWrong (f v)) → OnlyWrong (onward g f)
  onward_only (word v) f h k = k v
  onward_only (stops_by (Ended e)) f h k = absurd h
  onward_only (stops_by WantsFuel) f h k = absurd h
  onward_only (stops_by Wrong) f h k = tt

  or_wrong_only : (o : Option ℕ) → OnlyWrong (or_wrong o)
  or_wrong_only (Some v) = tt
  or_wrong_only None = tt

  operate_only : (op : Bin) (u v : ℕ) → is_trapping op ≡ false → OnlyWrong (operate op u v)
  operate_only bin.AddTrap u v e = absurd (no e)
    where
      no : true ≡ false → ⊥
      no e = cc
  operate_only bin.SubTrap u v e = absurd (no e)
    where
      no : true ≡ false → ⊥
      no e = cc
  operate_only bin.Div u v e = by (v == 0)
    where
      by : (b : Bool) → OnlyWrong (if b then stops_by Wrong else word (quot u v))
      by true = tt
      by false = tt
  operate_only bin.Add u v e = tt
  operate_only bin.Sub u v e = tt
  operate_only bin.Mul u v e = tt
  operate_only bin.And u v e = tt
  operate_only bin.Or u v e = tt
  operate_only bin.Xor u v e = tt
  operate_only bin.ShiftLeft u v e = tt
  operate_only bin.ShiftRight u v e = tt
  operate_only bin.ShiftSigned u v e = tt
  operate_only bin.MulHigh u v e = tt

  neither : (b c : Bool) → (b || c) ≡ false → (b ≡ false) × (c ≡ false)
  neither true c e = absurd (no e)
    where
      no : true ≡ false → ⊥
      no e = cc
  neither false c e = (refl, e)

  never_ends : (x : Tx) → IsFlat x → may_end x ≡ false → OnlyWrong (worth_of x)
  never_ends (tree.Const n) f e = tt
  never_ends (tree.Address l) f e = or_wrong_only (literal_address ls l)
  never_ends (tree.Temp i) f e = or_wrong_only (t i)
  never_ends tree.FrameAddress f e = tt
  never_ends (tree.Binary op x y) f e =
      let first = neither (is_trapping op) (may_end x || may_end y) e in
      let sides = neither (may_end x) (may_end y) first.1 in
      onward_only (worth_of x) _ (never_ends x f.0 sides.0)
      (λ u. onward_only (worth_of y) _ (never_ends y f.1 sides.1) (λ v. operate_only op u v first.0))
  never_ends (tree.Load x) f e = onward_only (worth_of x) _ (never_ends x f e) (λ u. or_wrong_only (load m u))
  never_ends (tree.LoadByte x) f e = onward_only (worth_of x) _ (never_ends x f e) (λ u. or_wrong_only (load_byte m u))
  never_ends (tree.Call l xs) f e = absurd f
  never_ends (tree.Service k x) f e = absurd f
  never_ends (tree.After s x) f e = absurd f

  -- where none of the first four may end the run
  pub frame_first : (i : ℕ) (xs : Txs) → AreFlat xs → one_may_end i xs ≡ false → NeverEnd is_in_frame i xs
  frame_first i no_txs f e = tt
  frame_first i (tx x xs) f e =
      let q = neither (is_in_register i && may_end x) (one_may_end (i + 1) xs) e in
      ((λ h. never_ends x f.0 (in_register (nat_lt i 4) (may_end x) h q.0)), frame_first (i + 1) xs f.1 q.1)
    where
      in_register : (b c : Bool) → not b ≡ false → (b && c) ≡ false → c ≡ false
      in_register true c h k = k
      in_register false c h k = absurd (no h)
        where
          no : true ≡ false → ⊥
          no e = cc

  -- each is paid once
  pub any_spend : (i : ℕ) (xs : Txs) → picked_spend (λ k. true) i xs ≤ all_spend xs
  any_spend i no_txs = omega arith
  any_spend i (tx x xs) = by (worth_of x) (any_spend (i + 1) xs)
    where
      by : (g : Given) → picked_spend (λ k. true) (i + 1) xs ≤ all_spend xs →
          (spends_of x + 4) + after_word g (picked_spend (λ k. true) (i + 1) xs) ≤ 4 + (spends_of x + after_word g (all_spend xs))
      by (word v) le = omega (arith, le)
      by (stops_by z) le = omega arith

  pub apart_spend : (i : ℕ) (xs : Txs) → picked_spend is_in_frame i xs + picked_spend is_in_register i xs ≤ all_spend xs
  apart_spend i no_txs = omega arith
  apart_spend i (tx x xs) = by (nat_lt i 4) (worth_of x) (apart_spend (i + 1) xs)
    where
      by : (b : Bool) (g : Given) → picked_spend is_in_frame (i + 1) xs + picked_spend is_in_register (i + 1) xs ≤ all_spend xs →
          ((if not b then spends_of x + 4 else 0) + after_word g (picked_spend is_in_frame (i + 1) xs)) +
          ((if b then spends_of x + 4 else 0) + after_word g (picked_spend is_in_register (i + 1) xs)) ≤
          4 + (spends_of x + after_word g (all_spend xs))
      by true (word v) le = omega (arith, le)
      by true (stops_by z) le = omega arith
      by false (word v) le = omega (arith, le)
      by false (stops_by z) le = omega arith

-- the arguments of a call run as their words
module _ (room : ℕ) (ls : List Literal) (enter : Enter) (later : Point → Run Ran) (e : Around) where
  behind : (g : Given) (xs : Txs) (next : ℕ → Run Ran) (go : List ℕ → Run Ran) (w : World) (t : Temps) (k i : ℕ) →
      ((v : ℕ) → next v i ≡ works (all_spend ls e.activation.base w.memory t xs)
      (with_list (listed ls e.activation.base w.memory t xs) w (λ vs. go (v ∷ vs)) i)) →
      works k (with_given g w next i) ≡
      works (k + after_word g (all_spend ls e.activation.base w.memory t xs))
      (with_list (after_given g (listed ls e.activation.base w.memory t xs)) w go i)
  behind (word v) xs next go w t k i h =
      ap (works k) (h v ∙ ap (works (all_spend ls e.activation.base w.memory t xs))
      (sym (first_listed v (listed ls e.activation.base w.memory t xs) w go i))) ∙
      works_add k (all_spend ls e.activation.base w.memory t xs) _
  behind (stops_by z) xs next go w t k i h = let q : k ≡ k + 0 = omega arith in ap (λ j. works j (stops w.input z)) q

  pub arguments_run : (xs : Txs) (go : Go (List ℕ)) (w : World) (t : Temps) (i : ℕ) → AreFlat xs →
      values Canonical room ls enter later xs e go w t i ≡
      works (all_spend ls e.activation.base w.memory t xs)
      (with_list (listed ls e.activation.base w.memory t xs) w (λ vs. go vs w t) i)
  arguments_run no_txs go w t i f = sym (works_none (go [] w t i))
  arguments_run (tx x xs) go w t i f =
      ap (works 4) (flat_runs Canonical room ls enter later x e _ w t i f.0 ∙
      behind (flat_value ls e.activation.base w.memory t x) xs _ (λ vs. go vs w t) w t
      (flat_spent Canonical ls e.activation.base w.memory t x) i
      (λ v. arguments_run xs (λ vs w1 t1. go (v ∷ vs) w1 t1) w t i f.1)) ∙
      works_add 4 _ _
