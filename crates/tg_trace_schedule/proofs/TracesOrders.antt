-- In the order in which blocks are laid, a place to which a block leads back stands in front of it.
use Rattle.std.proofs.Common.{◌≡◌, ◌≢◌, ◌≤◌, ◌<◌, ℕ, zero, suc, ◌⊎◌, inl, inr, Bool, true, false, List, [], ◌∷◌, ◌++◌, length, refl, sym, ◌∙◌, subst}
use Rattle.std.proofs.Common.{arith, append_assoc, append-nil}
use Rattle.std.specs.Prelude.{Option, Some, None, if◌then◌else◌, slice_get, slice_set}
use Rattle.std.specs.List.{Contains}
use Rattle.std.proofs.lemmas.List.Elements.{Contains-append_left, Contains-append_right, Contains-push}
use Rattle.std.proofs.lemmas.Bool.{cases_lt}
use Rattle.tg_trace_schedule.specs.Block.{BlockEnd, Jump, Branch, Fault, Return, Block}
use Rattle.tg_trace_schedule.specs.mirror.Laying.{Order, put, unless, unless_laid, first_unlaid, only_fails, onward, block_at, follow, traces}
use Rattle.tg_trace_schedule.specs.laws.Heads.{LeadsTo, PassesBy, begins, goes_on, AreEnteredAtHeads}
use Rattle.tg_trace_schedule.proofs.Places.{same_or_not, traces_keep, all_laid}

-- a place is in a list or not
behind_first : (p : ℕ) (ps : List ℕ) (q : ℕ) → p ≢ q → (Contains ps q → ⊥) → Contains (p ∷ ps) q → ⊥
behind_first p ps q n m (zero, l, e) = n e
behind_first p ps q n m (suc k, l, e) = m (k, omega arith, e)

pub in_or_not : (ps : List ℕ) (q : ℕ) → Contains ps q ⊎ (Contains ps q → ⊥)
in_or_not [] q = inr (λ c. omega (arith, c.1))
in_or_not (p ∷ ps) q =
    elim (same_or_not p q) [
      | inl e ↦ inl (0, omega arith, e)
      | inr n ↦ elim (in_or_not ps q) [ inl c ↦ inl (Contains-append_right (p ∷ []) ps q c) | inr m ↦ inr (λ c. behind_first p ps q n m c) ]
    ]

-- Of each place in an order, with those before it.
module _ (P : (before : List ℕ) → ℕ → Type 0) where
  abbrev pub Each : (before order : List ℕ) → Type 0
  Each before [] = Unit {0}
  Each before (p ∷ ps) = P before p × Each (before ++ p ∷ []) ps

  pub each_more : (before order : List ℕ) (p : ℕ) → Each before order → P (before ++ order) p → Each before (order ++ p ∷ [])
  each_more before [] p h k = (subst (λ xs. P xs p) (append-nil before) k, tt)
  each_more before (q ∷ order) p h k = (h.0, each_more (before ++ q ∷ []) order p h.1 (subst (λ xs. P xs p) (sym (append_assoc before (q ∷ []) order)) k))

-- where a trace goes on the block leads
none_some : {A : Type 0} {r : ℕ} → None ≡ Some r → A
none_some e = cc

unless_is : (v : Option Bool) (p : ℕ) (other : Option ℕ) (r : ℕ) → unless v p other ≡ Some r → (p ≡ r) ⊎ (other ≡ Some r)
unless_is None p other r e = inr e
unless_is (Some true) p other r e = inr e
unless_is (Some false) p other r e = inl cc

pub only_first : (v : Option Bool) (p r : ℕ) → unless v p None ≡ Some r → p ≡ r
only_first v p r e = elim (unless_is v p None r e) [ inl s ↦ s | inr n ↦ none_some n ]

first_leads : (laid : List Bool) (p q r : ℕ) → first_unlaid laid p q ≡ Some r → (p ≡ r) ⊎ (q ≡ r)
first_leads laid p q r h =
    elim (unless_is (slice_get laid p) p (unless_laid laid q None) r h) [ inl s ↦ inl s | inr n ↦ inr (only_first (slice_get laid q) q r n) ]

side_leads :
    (turned : Bool) (laid : List Bool) (p q r : ℕ) → (if turned then first_unlaid laid q p else first_unlaid laid p q) ≡ Some r →
    (p ≡ r) ⊎ (q ≡ r)
side_leads false laid p q r h = first_leads laid p q r h
side_leads true laid p q r h = elim (first_leads laid q p r h) [ inl s ↦ inr s | inr n ↦ inl n ]

pub onward_leads : (bs : List Block) (laid : List Bool) (e : BlockEnd) (r : ℕ) → onward bs laid e ≡ Some r → LeadsTo e r
onward_leads bs laid (Jump p) r h = only_first (slice_get laid p) p r h
onward_leads bs laid (Branch rel x y p q) r h = side_leads (only_fails (block_at bs p)) laid p q r h
onward_leads bs laid (Fault n) r h = none_some h
onward_leads bs laid (Return x) r h = none_some h

module _ (bs : List Block) where
  -- the places to which it leads back are it or stand before it
  abbrev pub HeadsStand : (before : List ℕ) → ℕ → Type 0
  HeadsStand before p = (q : ℕ) → LeadsTo (block_at bs p).end q → q ≤ p → Contains (before ++ p ∷ []) q

  -- A trace that began at a place, all those in front of which are laid, comes to a next one.
  pub record Traces (first : ℕ) (o : Order) (p : ℕ) : Type 0 where
    pub front : (q : ℕ) → q < first → Contains o.places q
    pub began : (first ≡ p) ⊎ Contains o.places first
    pub along : (q : ℕ) → (Contains o.places q → ⊥) → p ≢ q → PassesBy bs q first p

  trace_begins : (first p : ℕ) (o : Order) → ((q : ℕ) → q < first → Contains o.places q) → first ≡ p → Traces first o p
  trace_begins first p o front e = record {
    front = front;
    began = inl e;
    along = λ q m n. subst (λ x. PassesBy bs q first x) e (begins first (λ s. n (sym e ∙ s)));
  }

  module _ (entered : AreEnteredAtHeads bs) where
    first_before : (first p q : ℕ) (o : Order) → Traces first o p → (Contains o.places q → ⊥) → p ≢ q → first < q
    first_before first p q o t m n =
        elim (cases_lt first q) [
          | inl h ↦ h
          | inr h ↦
              elim (same_or_not first q) [
                | inl e ↦ absurd (elim t.began [ inl b ↦ n (sym b ∙ e) | inr c ↦ m (subst (λ x. Contains o.places x) e c) ])
                | inr d ↦ absurd (m (t.front q (omega (arith, d))))
              ]
        ]

    heads_stand : (first p : ℕ) (o : Order) → Traces first o p → HeadsStand o.places p
    heads_stand first p o t q leads le =
        elim (in_or_not o.places q) [
          | inl c ↦ Contains-append_left o.places (p ∷ []) q c
          | inr m ↦
              elim (same_or_not p q) [
                | inl e ↦ subst (λ x. Contains (o.places ++ p ∷ []) x) e (Contains-push o.places p)
                | inr n ↦ absurd (entered first p q leads le (first_before first p q o t m n) (t.along q m n))
              ]
        ]

    trace_on : (first p r : ℕ) (o : Order) → LeadsTo (block_at bs p).end r → Traces first o p → Traces first (put p o) r
    trace_on first p r o leads t = record {
      front = λ q h. Contains-append_left o.places (p ∷ []) q (t.front q h);
      began = inr (elim t.began [
        | inl e ↦ subst (λ x. Contains (o.places ++ p ∷ []) x) (sym e) (Contains-push o.places p)
        | inr c ↦ Contains-append_left o.places (p ∷ []) first c
      ]);
      along = λ q m n. goes_on first p r (t.along q (λ c. m (Contains-append_left o.places (p ∷ []) q c))
          (λ e. m (subst (λ x. Contains (o.places ++ p ∷ []) x) e (Contains-push o.places p)))) leads n;
    }

    follow_heads :
        (k first : ℕ) (next : Option ℕ) (o : Order) → ((p : ℕ) → next ≡ Some p → Traces first o p) →
        Each HeadsStand [] o.places → Each HeadsStand [] (follow k bs next o).places
    follow_heads zero first next o t h = h
    follow_heads (suc k) first None o t h = h
    follow_heads (suc k) first (Some p) o t h =
        let laid = slice_set o.laid p true in
        follow_heads k first (onward bs laid (block_at bs p).end) (put p o)
        (λ r e. trace_on first p r o (onward_leads bs laid (block_at bs p).end r e) (t p refl))
        (each_more HeadsStand [] o.places p h (heads_stand first p o (t p refl)))

    pub traces_heads : (count : ℕ) → count ≤ length bs → Each HeadsStand [] (traces count bs).places
    traces_heads zero h = tt
    traces_heads (suc k) h =
        let o = traces k bs in
        follow_heads (length bs) k (unless_laid o.laid k None) o
        (λ p e. trace_begins k p o (λ q l. (traces_keep k bs).there q (all_laid k bs q l (omega arith))) (only_first (slice_get o.laid k) k p e))
        (traces_heads k (omega arith))
