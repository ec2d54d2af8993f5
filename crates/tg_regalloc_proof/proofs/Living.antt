-- Liveness by paths is closed along the flow: what `Replaced` asks of liveness, from `IsDefinedBeside` alone.
use Rattle.std.proofs.Common.{ℕ, suc, ◌≡◌, ◌+◌, ◌-◌, ◌==◌, ◌||◌, Bool, true, false, not, nat_eq, List, []}
use Rattle.std.proofs.Common.{◌∷◌, ◌++◌, length, map, refl, sym, ap, ◌∙◌}
use Rattle.std.proofs.Common.{subst, Option, Some, None, arith, true≢false, length-append, append_assoc, add-zero}
use Rattle.std.specs.Prelude.{if◌then◌else◌, slice_index_or, slice_get}
use Rattle.std.specs.List.{list_any}
use Rattle.std.proofs.lemmas.Bool.{eqb-true, and_from, and_parts, not_from_false}
use Rattle.tg_instr.specs.declared.operands.Opnd.{Opnd}
use Rattle.tg_instr.specs.declared.operands.Opnd.TheVariants.{Reg}
use Rattle.tg_instr.specs.declared.instr.Instr.{Instr}
use Rattle.tg_instr.specs.declared.instr.Instr.TheVariants.{Mark}
use Rattle.tg_instr.specs.Operands.{is_same}
use Rattle.tg_instr.specs.Codes.{is_mark}
use Rattle.tg_instr.specs.Shapes.{InstructionShape, Goes, Tests, Fails, Returns, shape}
use Rattle.tg_instr.specs.Uses.{uses, defs, uses_of, defs_of}
use Rattle.tg_instr.specs.Running.{behind}
use Rattle.tg_instr.proofs.Same.{same_itself, same_is}
use Rattle.tg_live.specs.Flow.{place_of, onward, onward_from, successors, goes_on}
use Rattle.tg_live.specs.Live.{is_among, uses_at, defs_at, is_defined}
use Rattle.tg_live.specs.Interference.{moves, defines_beside_at, IsDefinedBeside}
use Rattle.tg_tree.specs.Actions.{Activation}
use Rattle.tg_regalloc_proof.specs.Named.{passes}
use Rattle.tg_regalloc_proof.specs.Places.{Places, are_one}
use Rattle.tg_regalloc_proof.specs.laws.Replaced.{IsLiveAt, living}
use Rattle.tg_regalloc_proof.proofs.Contents.{leads}
use Rattle.tg_regalloc_proof.proofs.Scenes.{Flows}
use Rattle.tg_regalloc_proof.proofs.Suffixes.{IsRest, whole, next}

uses_there : (front rest : List Instr) (x : Instr) → slice_index_or (map uses_of (front ++ x ∷ rest))
    (length front) [] ≡ uses_of x
uses_there [] rest x = refl
uses_there (y ∷ ys) rest x = uses_there ys rest x

defs_there : (front rest : List Instr) (x : Instr) → slice_index_or (map defs_of (front ++ x ∷ rest))
    (length front) [] ≡ defs_of x
defs_there [] rest x = refl
defs_there (y ∷ ys) rest x = defs_there ys rest x

instr_there : (front rest : List Instr) (x : Instr) → slice_get (front ++ x ∷ rest) (length front) ≡ Some x
instr_there [] rest x = refl
instr_there (y ∷ ys) rest x = instr_there ys rest x

onward_there : (all : List Instr) (k : ℕ) (front rest : List Instr) (x : Instr) →
    slice_index_or (onward_from all k (front ++ x ∷ rest)) (length front) [] ≡ onward all (k + length front) (shape x)
onward_there all k [] rest x = ap (λ n. onward all n (shape x)) (sym (add-zero k))
onward_there all k (y ∷ ys) rest x =
    onward_there all (suc k) ys rest x ∙ ap (λ n. onward all n (shape x)) (let e : suc k + length ys ≡ k + suc
    (length ys) = omega arith in e)

front_of : (all rest : List Instr) → IsRest all rest → (front : List Instr) × (all ≡ front ++ rest)
front_of all _ whole = ([], refl)
front_of all _ (next x rest i) =
    let z = front_of all (x ∷ rest) i in (z.0 ++ x ∷ [], z.1 ∙ sym (append_assoc z.0 (x ∷ []) rest))

eq_self : (n : ℕ) → nat_eq n n ≡ true
eq_self n = same_itself (Reg n)

or_last : (b c : Bool) → c ≡ true → (b || c) ≡ true
or_last true c e = refl
or_last false c e = e

passes_on : (all : List Instr) (at : ℕ) (q : InstructionShape) → passes q ≡ true → list_any (nat_eq (suc at))
    (onward all at q) ≡ true
passes_on all at (Goes m) e = absurd (true≢false (sym e))
passes_on all at (Tests rel l r m) e = or_last (nat_eq (suc at) (place_of m all)) _ (ap (λ b. b || false) (eq_self
    (suc at)))
passes_on all at (Fails n) e = absurd (true≢false (sym e))
passes_on all at Returns e = absurd (true≢false (sym e))
passes_on all at _ e = ap (λ b. b || false) (eq_self (suc at))

defs_pass : (d : Opnd) (q : InstructionShape) → list_any (is_same d) (defs q) ≡ true → passes q ≡ true
defs_pass d (Goes m) e = absurd (true≢false (sym e))
defs_pass d (Fails n) e = absurd (true≢false (sym e))
defs_pass d Returns e = absurd (true≢false (sym e))
defs_pass d _ e = refl

module _ (all : List Instr) where
  hop : (o : Opnd) (at to : ℕ) → goes_on all at to ≡ true → is_defined all o at ≡ false → IsLiveAt all to o →
      IsLiveAt all at o
  hop o at to g n l = (to ∷ l.0, and_from _ _ (not_from_false _ n) (and_from _ _ g l.1))

  -- the instruction of a place
  module _ (front rest : List Instr) (x : Instr) (e : all ≡ front ++ x ∷ rest) where
    uses_here : uses_at all (length front) ≡ uses (shape x)
    uses_here = ap (λ l. slice_index_or (map uses_of l) (length front) []) e ∙ uses_there front rest x

    defs_here : defs_at all (length front) ≡ defs (shape x)
    defs_here = ap (λ l. slice_index_or (map defs_of l) (length front) []) e ∙ defs_there front rest x

    onward_here : slice_index_or (successors all) (length front) [] ≡ onward all (length front) (shape x)
    onward_here = ap (λ l. slice_index_or (onward_from all 0 l) (length front) []) e ∙
        (onward_there all 0 front rest x
        ∙ ap (λ n. onward all n (shape x)) (let z : 0 + length front ≡ length front = omega arith in z))

    long : length all ≡ length front + suc (length rest)
    long = ap (λ l. length l) e ∙ length-append front (x ∷ rest)

    here : length all - length (x ∷ rest) ≡ length front
    here = let z = long in omega arith

    there : length all - length rest ≡ suc (length front)
    there = let z = long in omega arith

    live_used : (o : Opnd) → list_any (is_same o) (uses (shape x)) ≡ true → IsLiveAt all (length front) o
    live_used o h = ([], ap (λ l. is_among o l) uses_here ∙ h)

    not_defined : (o : Opnd) → list_any (is_same o) (defs (shape x)) ≡ false → is_defined all o (length front) ≡ false
    not_defined o h = ap (λ l. is_among o l) defs_here ∙ h

    goes_next : passes (shape x) ≡ true → goes_on all (length front) (suc (length front)) ≡ true
    goes_next p = ap (λ l. list_any (nat_eq (suc (length front))) l) onward_here ∙ passes_on all (length front)
        (shape x) p

    live_on : passes (shape x) ≡ true → (o : Opnd) → IsLiveAt all (suc (length front)) o → list_any (is_same o)
        (defs (shape x)) ≡ false →
        IsLiveAt all (length front) o
    live_on p o l n = hop o (length front) (suc (length front)) (goes_next p) (not_defined o n) l

    beside : (d o : Opnd) → list_any (is_same d) (defs (shape x)) ≡ true → IsLiveAt all (suc (length front)) o →
        is_same d o ≡ false →
        moves (shape x) d o ≡ false → IsDefinedBeside all d o
    beside d o h l n m =
        record {
          at = length front;
          defines = ap (λ i. defines_beside_at i d o) (ap (λ l. slice_get l (length front)) e
              ∙ instr_there front rest x)
              ∙ and_from _ _ h (and_from _ _ (not_from_false _ n) (not_from_false _ m));
          live = record {
            next = suc (length front);
            path = l.0;
            goes = goes_next (defs_pass d (shape x) h);
            leads = l.1;
          };
        }

  -- the place of a mark
  abbrev MarkAt : (m : ℕ) (l r : List Instr) → Type 0
  MarkAt m l r = (front : List Instr) × (k : ℕ) × (l ≡ front ++ Mark k ∷ r) × (place_of m l ≡ length front)

  list_some : (l r : List Instr) → Some l ≡ Some r → l ≡ r
  list_some l r e = cc

  eq_turned : (j k : ℕ) (b : Bool) → (j == k) ≡ b → (k == j) ≡ b
  eq_turned j k true e = let same : j ≡ k = eqb-true j k e in ap (λ i. k == i) same ∙ eq_self k
  eq_turned j k false e = by (k == j) refl
    where
      by : (b : Bool) → (k == j) ≡ b → b ≡ false
      by true h = let same : k ≡ j = eqb-true k j h in absurd (true≢false (sym (eq_self j) ∙ (ap (λ i. j == i)
          (sym same) ∙ e)))
      by false h = refl

  one_more : (m : ℕ) (x : Instr) (l r : List Instr) → is_mark m x ≡ false → MarkAt m l r → MarkAt m (x ∷ l) r
  one_more m x l r n z =
      (x ∷ z.0, z.1, ap (λ i. x ∷ i) z.2, ap (λ b. if b then 0 else suc (place_of m l)) n ∙ ap suc z.3)

  mark_at : (m : ℕ) (x : Instr) (l r : List Instr) → (behind m l ≡ Some r → MarkAt m l r) → behind m (x ∷ l)
      ≡ Some r → MarkAt m (x ∷ l) r
  mark_at m (Mark k) l r f e = by (k == m) refl e
    where
      by : (b : Bool) → (k == m) ≡ b → (if b then Some l else behind m l) ≡ Some r → MarkAt m (Mark k ∷ l) r
      by true h g = (
        [],
        k,
        ap (λ i. Mark k ∷ i) (list_some l r g),
        ap (λ b. if b then 0 else suc (place_of m l))
            (eq_turned k m true h),
      )
      by false h g = one_more m (Mark k) l r (eq_turned k m false h) (f g)
  mark_at m x l r f e = one_more m x l r refl (f e)

  behind_is : (m : ℕ) (l r : List Instr) → behind m l ≡ Some r → MarkAt m l r
  behind_is m [] r e = cc
  behind_is m (x ∷ l) r e = mark_at m x l r (λ z. behind_is m l r z) e

  goes_mark : (at m : ℕ) (q : InstructionShape) → leads q m → list_any (nat_eq (place_of m all)) (onward all at q) ≡ true
  goes_mark at m (Goes k) l =
      subst (λ i. list_any (nat_eq (place_of m all)) (place_of i all ∷ []) ≡ true) l (ap (λ b. b || false)
      (eq_self (place_of m all)))
  goes_mark at m (Tests rel x y k) l =
      subst (λ i. list_any (nat_eq (place_of m all)) (place_of i all ∷ suc at ∷ []) ≡ true) l
      (ap (λ b. b || list_any (nat_eq (place_of m all)) (suc at ∷ [])) (eq_self (place_of m all)))
  goes_mark at m _ l = absurd l

  leads_defs : (m : ℕ) (q : InstructionShape) → leads q m → (o : Opnd) → list_any (is_same o) (defs q) ≡ false
  leads_defs m (Goes k) l o = refl
  leads_defs m (Tests rel x y k) l o = refl
  leads_defs m _ l o = absurd l

  same_turned : (o d : Opnd) → is_same o d ≡ false → is_same d o ≡ false
  same_turned o d e = by (is_same d o) refl
    where
      by : (b : Bool) → is_same d o ≡ b → b ≡ false
      by true h = absurd (true≢false (sym (same_itself o) ∙ (ap (λ i. is_same o i) (sym (same_is d o h)) ∙ e)))
      by false h = refl

  -- what is defined beside something that is live stands in another place
  module _ (P : Places) (apart : (d o : Opnd) → IsDefinedBeside all d o → are_one (P.place o) (P.place d) ≡ false) where
    pub flows_of : (a : Activation) (x : Instr) (rest : List Instr) → IsRest all (x ∷ rest) →
        Flows a P (shape x) (living all (x ∷ rest)) (living all rest) (λ m o. (r : List Instr) ×
        (behind m all ≡ Some r) × living all r o)
    flows_of a x rest i = by (front_of all (x ∷ rest) i)
      where
        by : (front : List Instr) × (all ≡ front ++ x ∷ rest) →
            Flows a P (shape x) (living all (x ∷ rest)) (living all rest) (λ m o.
            (r : List Instr) × (behind m all ≡ Some r) × living all r o)
        by z =
            record {
              used = λ o h. to_here o (live_used z.0 rest x z.1 o h);
              on = λ p o l n. to_here o (live_on z.0 rest x z.1 p o (from_there o l) n);
              across = λ m l o j. to_here o (over m l o j.0 (behind_is m all j.0 j.1) j.2);
              proper = λ d o h l n m. apart d o (beside z.0 rest x z.1 d o h (from_there o l) (same_turned o d n) m);
            }
          where
            to_here : (o : Opnd) → IsLiveAt all (length z.0) o → living all (x ∷ rest) o
            to_here o l = subst (λ n. IsLiveAt all n o) (sym (here z.0 rest x z.1)) l

            from_there : (o : Opnd) → living all rest o → IsLiveAt all (suc (length z.0)) o
            from_there o l = subst (λ n. IsLiveAt all n o) (there z.0 rest x z.1) l

            over : (m : ℕ) → leads (shape x) m → (o : Opnd) (r : List Instr) → MarkAt m all r → living all r o →
                IsLiveAt all (length z.0) o
            over m l o r k j =
                hop o (length z.0) (place_of m all) (ap (λ p. list_any (nat_eq (place_of m all)) p)
                (onward_here z.0 rest x z.1) ∙ goes_mark (length z.0) m (shape x) l)
                (not_defined z.0 rest x z.1 o (leads_defs m (shape x) l o))
                (subst (λ n. IsLiveAt all n o) (sym k.3)
                (live_on k.0 r (Mark k.1) k.2 refl o (subst (λ n. IsLiveAt all n o) (there k.0 r
                (Mark k.1) k.2) j) refl))

-- what is defined beside something that is live is another operand
pub beside_differ : (all : List Instr) (d o : Opnd) → IsDefinedBeside all d o → is_same o d ≡ false
beside_differ all d o b = same_turned all d o (by (slice_get all b.at) b.defines)
  where
    not_true : (b : Bool) → not b ≡ true → b ≡ false
    not_true true e = absurd (true≢false (sym e))
    not_true false e = refl

    by : (i : Option Instr) → defines_beside_at i d o ≡ true → is_same d o ≡ false
    by None h = absurd (true≢false (sym h))
    by (Some x) h = not_true (is_same d o) (and_parts _ _ (and_parts _ _ h).1).0
