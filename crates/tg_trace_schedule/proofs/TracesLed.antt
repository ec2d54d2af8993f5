-- After each block comes one that it leads to and that isn't laid, if there is one: a jump that is left goes back.
use Rattle.std.proofs.Common.{◌≡◌, ◌≤◌, ◌<◌, ℕ, zero, suc, Bool, true, false, List, [], ◌∷◌, ◌++◌, length, refl, ap, sym, ◌∙◌, subst, arith}
use Rattle.std.proofs.Common.{append_assoc, append-nil, eq-eqb}
use Rattle.std.specs.Prelude.{Option, Some, None, if◌then◌else◌, slice_get, slice_set}
use Rattle.std.specs.List.{Contains}
use Rattle.tg_tree.specs.Tree as tree
use Rattle.tg_tree.specs.Tree.{Stms, no_stms, stm, Linear, Mark}
use Rattle.tg_tree.specs.declared.operators.Rel.{Rel}
use Rattle.tg_trace_schedule.specs.Block.{BlockEnd, Jump, Branch, Fault, Return, Block}
use Rattle.tg_trace_schedule.specs.mirror.Laying.{Order, put, unless, unless_laid, first_unlaid, only_fails, onward, block_at, follow, traces, is_next, jump_unless, branch_by, end_code}
use Rattle.tg_trace_schedule.specs.mirror.Laying.{body_code, traced}
use Rattle.tg_trace_schedule.specs.Shapes.{EndsBelow, LeadsBelow, AreWhole}
use Rattle.tg_trace_schedule.specs.laws.Heads.{JumpsGoBack}
use Rattle.tg_trace_schedule.proofs.Places.{IsOrder, IsFree, put_keeps, onward_free, free_or, traces_keep, None_past}
use Rattle.tg_trace_schedule.proofs.Marks.{each}
use Rattle.tg_trace_schedule.proofs.TracesCode.{laid_code, traced_is}

-- the places that aren't laid
abbrev unlaid : List Bool → ℕ
unlaid [] = 0
unlaid (true ∷ l) = unlaid l
unlaid (false ∷ l) = suc (unlaid l)

all_unlaid : (l : List Bool) → unlaid l ≤ length l
all_unlaid [] = omega arith
all_unlaid (true ∷ l) = let h = all_unlaid l in omega (arith, h)
all_unlaid (false ∷ l) = let h = all_unlaid l in omega (arith, h)

one_less : (l : List Bool) (p : ℕ) → slice_get l p ≡ Some false → suc (unlaid (slice_set l p true)) ≡ unlaid l
one_less [] p h = cc
one_less (true ∷ l) zero h = cc
one_less (false ∷ l) zero h = refl
one_less (true ∷ l) (suc p) h = one_less l p h
one_less (false ∷ l) (suc p) h = ap suc (one_less l p h)

true_false : {A : Type 0} → true ≡ false → A
true_false e = cc

-- Of an end after which a next block comes: a jump that is left goes to a place that is laid.
abbrev LedTo : (laid : List ℕ) (next : Option ℕ) → BlockEnd → Type 0
LedTo laid next (Jump p) = is_next next p ≡ false → Contains laid p
LedTo laid next (Branch _ _ _ p q) = is_next next p ≡ false → is_next next q ≡ false → Contains laid q
LedTo laid next (Fault _) = Unit {0}
LedTo laid next (Return _) = Unit {0}

-- where nothing comes next, anything may
led_anyhow : (laid : List ℕ) (next : Option ℕ) (e : BlockEnd) → LedTo laid None e → LedTo laid next e
led_anyhow laid next (Jump p) h = λ n. h refl
led_anyhow laid next (Branch _ _ _ p q) h = λ n m. h refl refl
led_anyhow laid next (Fault _) h = tt
led_anyhow laid next (Return _) h = tt

-- a block leads to one that comes next or is laid
module _ (laid : List Bool) (places : List ℕ) (there : (p : ℕ) → slice_get laid p ≡ Some true → Contains places p) where
  led_to_first :
      (v : Option Bool) (p : ℕ) (other : Option ℕ) → p < length laid → slice_get laid p ≡ v → is_next (unless v p other) p ≡ false → Contains places p
  led_to_first None p other h e n = let k = None_past laid p e in absurd (omega (arith, h, k))
  led_to_first (Some true) p other h e n = there p e
  led_to_first (Some false) p other h e n = absurd (true_false (sym (eq-eqb p p refl) ∙ n))

  led_to_other :
      (v : Option Bool) (p q : ℕ) → p < length laid → q < length laid → slice_get laid p ≡ v →
      is_next (unless v p (unless_laid laid q None)) p ≡ false → is_next (unless v p (unless_laid laid q None)) q ≡ false → Contains places q
  led_to_other None p q h i e n m = let k = None_past laid p e in absurd (omega (arith, h, k))
  led_to_other (Some true) p q h i e n m = led_to_first (slice_get laid q) q None i refl m
  led_to_other (Some false) p q h i e n m = absurd (true_false (sym (eq-eqb p p refl) ∙ n))

  led_to_either :
      (turned : Bool) (p q : ℕ) → p < length laid → q < length laid →
      is_next (if turned then first_unlaid laid q p else first_unlaid laid p q) p ≡ false →
      is_next (if turned then first_unlaid laid q p else first_unlaid laid p q) q ≡ false → Contains places q
  led_to_either false p q h i n m = led_to_other (slice_get laid p) p q h i refl n m
  led_to_either true p q h i n m = led_to_first (slice_get laid q) q (unless_laid laid p None) i refl m

  led_onward : (bs : List Block) (n : ℕ) (e : BlockEnd) → length laid ≡ n → EndsBelow n e → LedTo places (onward bs laid e) e
  led_onward bs n (Jump p) c h = led_to_first (slice_get laid p) p None (omega (arith, c, h)) refl
  led_onward bs n (Branch rel x y p q) c h =
      led_to_either (only_fails (block_at bs p)) p q (omega (arith, c, h.0)) (omega (arith, c, h.1))
  led_onward bs n (Fault k) c h = tt
  led_onward bs n (Return x) c h = tt

-- what comes next in an order, or after it
abbrev first_of : List ℕ → Option ℕ → Option ℕ
first_of [] next = next
first_of (p ∷ ps) next = Some p

first_more : (ps : List ℕ) (p : ℕ) (next : Option ℕ) → first_of (ps ++ p ∷ []) next ≡ first_of ps (Some p)
first_more [] p next = refl
first_more (q ∷ ps) p next = refl

first_only : (ps : List ℕ) → first_of ps None ≡ slice_get ps 0
first_only [] = refl
first_only (p ∷ ps) = refl

module _ (bs : List Block) where
  -- each block of an order is led on, the last to what comes next
  abbrev Led : (before order : List ℕ) (next : Option ℕ) → Type 0
  Led before [] next = Unit {0}
  Led before (p ∷ ps) next = LedTo (before ++ p ∷ []) (first_of ps next) (block_at bs p).end × Led (before ++ p ∷ []) ps next

  led_more :
      (before order : List ℕ) (p : ℕ) (next : Option ℕ) → Led before order (Some p) →
      LedTo ((before ++ order) ++ p ∷ []) next (block_at bs p).end → Led before (order ++ p ∷ []) next
  led_more before [] p next h k = (subst (λ xs. LedTo (xs ++ p ∷ []) next (block_at bs p).end) (append-nil before) k, tt)
  led_more before (q ∷ order) p next h k = (
    subst (λ o. LedTo (before ++ q ∷ []) o (block_at bs q).end) (sym (first_more order p next)) h.0,
    led_more (before ++ q ∷ []) order p next h.1 (subst (λ xs. LedTo (xs ++ p ∷ []) next (block_at bs p).end) (sym (append_assoc before (q ∷ []) order)) k),
  )

  led_on : (before order : List ℕ) (next : Option ℕ) → Led before order None → Led before order next
  led_on before [] next h = tt
  led_on before (p ∷ []) next h = (led_anyhow (before ++ p ∷ []) next (block_at bs p).end h.0, tt)
  led_on before (p ∷ q ∷ ps) next h = (h.0, led_on (before ++ p ∷ []) (q ∷ ps) next h.1)

  module _ (below : (p : ℕ) → LeadsBelow (length bs) (block_at bs p)) where
    follow_led :
        (k : ℕ) (next : Option ℕ) (o : Order) → unlaid o.laid ≤ k → IsFree o.laid next → IsOrder (length bs) o →
        Led [] o.places next → Led [] (follow k bs next o).places None
    follow_led zero None o le f i h = h
    follow_led (suc k) None o le f i h = h
    follow_led zero (Some p) o le f i h = let e = one_less o.laid p f in absurd (omega (arith, e, le))
    follow_led (suc k) (Some p) o le f i h =
        let laid = slice_set o.laid p true in
        let end = (block_at bs p).end in
        let j : IsOrder (length bs) (put p o) = put_keeps (length bs) o p f i in
        let e = one_less o.laid p f in
        follow_led k (onward bs laid end) (put p o) (omega (arith, e, le)) (onward_free bs laid end) j
        (led_more [] o.places p (onward bs laid end) h (led_onward laid (o.places ++ p ∷ []) j.there bs (length bs) end j.count (below p)))

    traces_led : (count : ℕ) → Led [] (traces count bs).places None
    traces_led zero = tt
    traces_led (suc k) =
        let o = traces k bs in
        let i = traces_keep k bs in
        let first = unless_laid o.laid k None in
        let few = all_unlaid o.laid in
        follow_led (length bs) first o (omega (arith, few, i.count)) (free_or o.laid k None tt) i (led_on [] o.places first (traces_led k))

  jumps_behind_body : (earlier : List ℕ) (ss : Stms) (rest : List Linear) → JumpsGoBack earlier rest → JumpsGoBack earlier (body_code ss ++ rest)
  jumps_behind_body earlier no_stms rest h = h
  jumps_behind_body earlier (stm s ss) rest h = jumps_behind_body earlier ss rest h

  jump_back : (earlier : List ℕ) (b : Bool) (p : ℕ) (rest : List Linear) → (b ≡ false → Contains earlier p) → JumpsGoBack earlier rest → JumpsGoBack earlier
      (jump_unless b p ++ rest)
  jump_back earlier true p rest c h = h
  jump_back earlier false p rest c h = (c refl, h)

  branch_back :
      (earlier : List ℕ) (b : Bool) (next : Option ℕ) (rel : Rel) (x y : tree.Tx) (p q : ℕ) (rest : List Linear) →
      (b ≡ false → is_next next q ≡ false → Contains earlier q) → JumpsGoBack earlier rest → JumpsGoBack earlier (branch_by b next rel x y p q ++ rest)
  branch_back earlier true next rel x y p q rest c h = h
  branch_back earlier false next rel x y p q rest c h = jump_back earlier (is_next next q) q rest (c refl) h

  end_back : (earlier : List ℕ) (next : Option ℕ) (e : BlockEnd) (rest : List Linear) → LedTo earlier next e → JumpsGoBack earlier rest → JumpsGoBack earlier
      (end_code next e ++ rest)
  end_back earlier next (Jump p) rest c h = jump_back earlier (is_next next p) p rest c h
  end_back earlier next (Branch rel x y p q) rest c h = branch_back earlier (is_next next p) next rel x y p q rest c h
  end_back earlier next (Fault n) rest c h = h
  end_back earlier next (Return x) rest c h = h

  jumps_back : (before order : List ℕ) → Led before order None → JumpsGoBack before (laid_code bs order)
  jumps_back before [] h = tt
  jumps_back before (p ∷ ps) h =
      let b = block_at bs p in
      let next = slice_get ps 0 in
      let end = end_code next b.end in
      let earlier = before ++ p ∷ [] in
      let led : LedTo earlier next b.end = subst (λ o. LedTo earlier o b.end) (first_only ps) h.0 in
      subst (JumpsGoBack earlier) (sym (append_assoc (body_code b.body) end (laid_code bs ps)))
      (jumps_behind_body earlier b.body (end ++ laid_code bs ps) (end_back earlier next b.end (laid_code bs ps) led (jumps_back earlier ps h.1)))

  pub jumps_are_back : AreWhole bs → JumpsGoBack [] (traced bs)
  jumps_are_back w =
      subst (JumpsGoBack []) (sym (traced_is bs)) (jumps_back [] (traces (length bs) bs).places
      (traces_led (each (LeadsBelow (length bs)) tt bs w.within) (length bs)))
