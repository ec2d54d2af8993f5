-- Each place of blocks stands once in the order in which they are laid.
use Rattle.std.proofs.Common.{◌≡◌, ◌≢◌, ◌≤◌, ◌<◌, ℕ, zero, suc, ◌⊎◌, inl, inr, Bool, true, false, List, [], ◌∷◌, ◌++◌, length, refl, ap, sym, ◌∙◌, subst, arith}
use Rattle.std.specs.Prelude.{Option, Some, None, if◌then◌else◌, slice_get, slice_set, replicate}
use Rattle.std.specs.List.{Contains, AllPairs}
use Rattle.std.proofs.Math.ListN.{length-set}
use Rattle.std.proofs.lemmas.List.{length-replicate}
use Rattle.std.proofs.lemmas.Option.{slice_get_within}
use Rattle.std.proofs.lemmas.List.Elements.{Contains-get_or, Contains-append_left, Contains-append_right, Contains-append_cases}
use Rattle.std.proofs.lemmas.List.Quantifiers.{all_pairs_push}
use Rattle.tg_trace_schedule.specs.Block.{BlockEnd, Jump, Branch, Fault, Return, Block}
use Rattle.tg_trace_schedule.specs.mirror.Laying.{Order, put, unless, unless_laid, first_unlaid, only_fails, onward, block_at, follow, traces}

pub same_or_not : (a b : ℕ) → (a ≡ b) ⊎ (a ≢ b)
same_or_not zero zero = inl refl
same_or_not zero (suc b) = inr (λ e. omega arith)
same_or_not (suc a) zero = inr (λ e. omega arith)
same_or_not (suc a) (suc b) = elim (same_or_not a b) [ inl e ↦ inl (ap suc e) | inr n ↦ inr (λ e. n (omega arith)) ]

-- what is known of a place once one is marked as laid
set_here : (l : List Bool) (p : ℕ) (v : Bool) → slice_get l p ≡ Some v → slice_get (slice_set l p true) p ≡ Some true
set_here [] p v h = cc
set_here (x ∷ l) zero v h = refl
set_here (x ∷ l) (suc p) v h = set_here l p v h

set_there : (l : List Bool) (p q : ℕ) → p ≢ q → slice_get (slice_set l p true) q ≡ slice_get l q
set_there [] p q n = refl
set_there (x ∷ l) zero zero n = absurd (n refl)
set_there (x ∷ l) zero (suc q) n = refl
set_there (x ∷ l) (suc p) zero n = refl
set_there (x ∷ l) (suc p) (suc q) n = set_there l p q (λ e. n (ap suc e))

-- an order tells of each place whether it stands there, and none stands twice
pub record IsOrder (n : ℕ) (o : Order) : Type 0 where
  pub count : length o.laid ≡ n
  pub there : (p : ℕ) → slice_get o.laid p ≡ Some true → Contains o.places p
  pub free : (p : ℕ) → slice_get o.laid p ≡ Some false → Contains o.places p → ⊥
  pub apart : AllPairs (λ a b. a ≢ b) o.places
  pub within : (p : ℕ) → Contains o.places p → p < n

only_one : (p q : ℕ) → Contains (p ∷ []) q → p ≡ q
only_one p q (zero, h, e) = e
only_one p q (suc k, h, e) = absurd (omega arith)

one_there : (p : ℕ) → Contains (p ∷ []) p
one_there p = (0, omega arith, refl)

put_there : (o : Order) (p q : ℕ) → (slice_get o.laid q ≡ Some true → Contains o.places q) → (p ≡ q) ⊎ (p ≢ q) →
    slice_get (slice_set o.laid p true) q ≡ Some true → Contains (o.places ++ p ∷ []) q
put_there o p q h (inl e) t = Contains-append_right o.places (p ∷ []) q (subst (λ x. Contains (p ∷ []) x) e (one_there p))
put_there o p q h (inr n) t = Contains-append_left o.places (p ∷ []) q (h (sym (set_there o.laid p q n) ∙ t))

some_not_none : {v : Bool} → Some v ≡ None → ⊥
some_not_none e = cc

true_not_false : {A : Type 0} → Some true ≡ Some false → A
true_not_false e = cc

put_free : (o : Order) (p q : ℕ) → slice_get o.laid p ≡ Some false → (slice_get o.laid q ≡ Some false → Contains o.places q → ⊥) →
    (p ≡ q) ⊎ (p ≢ q) → slice_get (slice_set o.laid p true) q ≡ Some false → Contains (o.places ++ p ∷ []) q → ⊥
put_free o p q f h (inl e) t c =
    let k : slice_get (slice_set o.laid p true) q ≡ Some true = subst (λ x. slice_get (slice_set o.laid p true) x ≡ Some true) e (set_here o.laid p false f) in
    true_not_false (sym k ∙ t)
put_free o p q f h (inr n) t c =
    elim (Contains-append_cases o.places (p ∷ []) q c) [ inl d ↦ h (sym (set_there o.laid p q n) ∙ t) d | inr d ↦ n (only_one p q d) ]

put_within : (n : ℕ) (o : Order) (p q : ℕ) → p < n → (Contains o.places q → q < n) → Contains (o.places ++ p ∷ []) q → q < n
put_within n o p q h i c = elim (Contains-append_cases o.places (p ∷ []) q c) [ inl d ↦ i d | inr d ↦ subst (λ x. x < n) (only_one p q d) h ]

pub put_keeps : (n : ℕ) (o : Order) (p : ℕ) → slice_get o.laid p ≡ Some false → IsOrder n o → IsOrder n (put p o)
put_keeps n o p f i = record {
  within = λ q c. put_within n o p q (omega (arith, slice_get_within o.laid p false f, i.count)) (i.within q) c;
  count = length-set o.laid p true ∙ i.count;
  there = λ q. put_there o p q (i.there q) (same_or_not p q);
  free = λ q. put_free o p q f (i.free q) (same_or_not p q);
  apart = all_pairs_push (λ a b. a ≢ b) o.places p i.apart (λ k d h e. i.free p f (subst (λ x. Contains o.places x) e (Contains-get_or o.places k d h)));
}

-- what comes next isn't laid
abbrev pub IsFree : List Bool → Option ℕ → Type 0
IsFree laid None = Unit {0}
IsFree laid (Some p) = slice_get laid p ≡ Some false

unless_free : (laid : List Bool) (p : ℕ) (other : Option ℕ) (v : Option Bool) → slice_get laid p ≡ v → IsFree laid other → IsFree laid (unless v p other)
unless_free laid p other None e h = h
unless_free laid p other (Some true) e h = h
unless_free laid p other (Some false) e h = e

pub free_or : (laid : List Bool) (p : ℕ) (other : Option ℕ) → IsFree laid other → IsFree laid (unless_laid laid p other)
free_or laid p other h = unless_free laid p other (slice_get laid p) refl h

first_free : (laid : List Bool) (p q : ℕ) → IsFree laid (first_unlaid laid p q)
first_free laid p q = free_or laid p (unless_laid laid q None) (free_or laid q None tt)

side_free : (turned : Bool) (laid : List Bool) (p q : ℕ) → IsFree laid (if turned then first_unlaid laid q p else first_unlaid laid p q)
side_free false laid p q = first_free laid p q
side_free true laid p q = first_free laid q p

pub onward_free : (blocks : List Block) (laid : List Bool) (e : BlockEnd) → IsFree laid (onward blocks laid e)
onward_free blocks laid (Jump p) = free_or laid p None tt
onward_free blocks laid (Branch _ _ _ p q) = side_free (only_fails (block_at blocks p)) laid p q
onward_free blocks laid (Fault _) = tt
onward_free blocks laid (Return _) = tt

pub follow_keeps : (n k : ℕ) (blocks : List Block) (next : Option ℕ) (o : Order) → IsFree o.laid next → IsOrder n o → IsOrder n (follow k blocks next o)
follow_keeps n zero blocks next o f i = i
follow_keeps n (suc k) blocks None o f i = i
follow_keeps n (suc k) blocks (Some p) o f i =
    follow_keeps n k blocks (onward blocks (slice_set o.laid p true) (block_at blocks p).end) (put p o)
    (onward_free blocks (slice_set o.laid p true) (block_at blocks p).end) (put_keeps n o p f i)

nothing_there : (n p : ℕ) → slice_get (replicate n false) p ≡ Some true → ⊥
nothing_there zero p h = cc
nothing_there (suc n) zero h = cc
nothing_there (suc n) (suc p) h = nothing_there n p h

pub traces_keep : (count : ℕ) (blocks : List Block) → IsOrder (length blocks) (traces count blocks)
traces_keep zero blocks = record {
  within = λ p c. absurd (omega (arith, c.1));
  count = length-replicate (length blocks) false;
  there = λ p h. absurd (nothing_there (length blocks) p h);
  free = λ p h c. omega (arith, c.1);
  apart = λ i j d h k. absurd (omega arith);
}
traces_keep (suc k) blocks =
    let o = traces k blocks in
    follow_keeps (length blocks) (length blocks) blocks (unless_laid o.laid k None) o (free_or o.laid k None tt) (traces_keep k blocks)

-- what is laid stays so
put_stays : (l : List Bool) (p q : ℕ) → (p ≡ q) ⊎ (p ≢ q) → slice_get l q ≡ Some true → slice_get (slice_set l p true) q ≡ Some true
put_stays l p q (inl e) h = subst (λ x. slice_get (slice_set l p true) x ≡ Some true) e (set_here l p true (subst (λ x. slice_get l x ≡ Some true) (sym e) h))
put_stays l p q (inr n) h = set_there l p q n ∙ h

pub follow_stays : (k : ℕ) (blocks : List Block) (next : Option ℕ) (o : Order) (q : ℕ) → slice_get o.laid q ≡ Some true →
    slice_get (follow k blocks next o).laid q ≡ Some true
follow_stays zero blocks next o q h = h
follow_stays (suc k) blocks None o q h = h
follow_stays (suc k) blocks (Some p) o q h =
    follow_stays k blocks (onward blocks (slice_set o.laid p true) (block_at blocks p).end) (put p o) q (put_stays o.laid p q (same_or_not p q) h)

pub None_past : (l : List Bool) (k : ℕ) → slice_get l k ≡ None → length l ≤ k
None_past [] k h = omega arith
None_past (x ∷ l) zero h = absurd (some_not_none (h))
None_past (x ∷ l) (suc k) h = let m : length l ≤ k = None_past l k h in omega arith

-- a place from which a trace begins is laid
first_laid : (n k : ℕ) (blocks : List Block) (o : Order) (v : Option Bool) → slice_get o.laid k ≡ v → k < length o.laid →
    0 < n → slice_get (follow n blocks (unless v k None) o).laid k ≡ Some true
first_laid n k blocks o None e h m = absurd (omega (arith, None_past o.laid k e))
first_laid zero k blocks o (Some true) e h m = e
first_laid (suc n) k blocks o (Some true) e h m = e
first_laid zero k blocks o (Some false) e h m = absurd (omega arith)
first_laid (suc n) k blocks o (Some false) e h m =
    follow_stays n blocks (onward blocks (slice_set o.laid k true) (block_at blocks k).end) (put k o) k (set_here o.laid k false e)

pub all_laid : (count : ℕ) (blocks : List Block) (p : ℕ) → p < count → p < length blocks → slice_get (traces count blocks).laid p ≡ Some true
all_laid zero blocks p h m = absurd (omega arith)
all_laid (suc k) blocks p h m =
    let o = traces k blocks in
    let first = unless_laid o.laid k None in
    elim (same_or_not k p) [
      | inl e ↦ subst (λ x. slice_get (follow (length blocks) blocks first o).laid x ≡ Some true) e
          (first_laid (length blocks) k blocks o (slice_get o.laid k) refl (omega (arith, (traces_keep k blocks).count, e)) (omega arith))
      | inr n ↦ follow_stays (length blocks) blocks first o p (all_laid k blocks p (omega (arith, n)) m)
    ]

pub all_there : (blocks : List Block) (p : ℕ) → p < length blocks → Contains (traces (length blocks) blocks).places p
all_there blocks p h = (traces_keep (length blocks) blocks).there p (all_laid (length blocks) blocks p h h)
