-- Lines with slots, by how they are made; their labels and calls lead to what is left with its slots.
use Rattle.std.proofs.Common.{ℕ, ◌≡◌, ◌+◌, ◌==◌, List, [], ◌∷◌, refl, ap, sym, ◌∙◌, subst, arith}
use Rattle.std.proofs.Common.{Bool, true, false, Option, Some, None, eqb-true, not, ◌||◌}
use Rattle.std.proofs.lemmas.Bool.{and_parts, not-true}
use Rattle.std.proofs.lemmas.Bool.Decides.{nat_tests}
use Rattle.std.specs.Prelude.{if◌then◌else◌}
use Rattle.std.specs.Str.{bytes_eq}
use Rattle.tg_isa.specs.declared.mips.Mips.{Mips}
use Rattle.tg_isa.specs.declared.mips.Mips.TheVariants as row
use Rattle.tg_emit.specs.declared.assembly.Line.{Line}
use Rattle.tg_emit.specs.declared.assembly.Line.TheVariants.{Label, One, La, Statics}
use Rattle.tg_emit_proof.specs.LinesRun.{Place, left, at_zero, Returns, calls, behind, behind_call, place_of}
use Rattle.tg_delay.specs.Filling.{reads, writes, is_among, touch, controls, stays, movable, nop, slotted, filled}
use Rattle.tg_delay_proof.specs.DelayedRun.{over_slot}

-- Induction over lines by how they are filled.
module _ (P : List Line → List Line → Type 0)
    (nil : P [] [])
    (label : (name : List ℕ) (rest : List Line) → P rest (filled rest) → P (Label name ∷ rest) (Label name ∷ filled rest))
    (la : (r : ℕ) (name : List ℕ) (rest : List Line) → P rest (filled rest) → P (La r name ∷ rest) (La r name ∷ filled rest))
    (statics : (bytes : List ℕ) (rest : List Line) → P rest (filled rest) →
    P (Statics bytes ∷ rest) (Statics bytes ∷ filled rest))
    (straight : (one : Mips) (target : List ℕ) (rest : List Line) → controls one ≡ false → P rest (filled rest) →
    P (One one target ∷ rest) (One one target ∷ filled rest))
    (lone : (one : Mips) (target : List ℕ) (rest : List Line) → controls one ≡ true → P rest (filled rest) →
    P (One one target ∷ rest) (One one target ∷ nop ∷ filled rest))
    (pair : (one : Mips) (target : List ℕ) (other : Mips) (there : List ℕ) (rest : List Line) →
    movable one other ≡ true → P rest (filled rest) →
    P (One one target ∷ One other there ∷ rest) (One other there ∷ One one target ∷ filled rest)) where
  slot_by : (one : Mips) (target : List ℕ) (rest : List Line) → P rest (filled rest) →
      P (One one target ∷ rest) (slotted one target (filled rest))
  slot_by one target rest h = by (controls one) refl
    where
      by : (b : Bool) → controls one ≡ b → P (One one target ∷ rest)
          (if b then One one target ∷ nop ∷ filled rest else One one target ∷ filled rest)
      by true e = lone one target rest e h
      by false e = straight one target rest e h

  pub by_filling : (lines : List Line) → P lines (filled lines)
  by_filling [] = nil
  by_filling (One one target ∷ One other there ∷ rest) =
      by (movable one other) refl (by_filling rest) (by_filling (One other there ∷ rest))
    where
      by : (b : Bool) → movable one other ≡ b → P rest (filled rest) →
          P (One other there ∷ rest) (filled (One other there ∷ rest)) →
          P (One one target ∷ One other there ∷ rest)
          (if b then One other there ∷ One one target ∷ filled rest else
          slotted one target (filled (One other there ∷ rest)))
      by true e h k = pair one target other there rest e h
      by false e h k = slot_by one target (One other there ∷ rest) k
  by_filling (One one target ∷ rest) = slot_by one target rest (by_filling rest)
  by_filling (Label name ∷ rest) = label name rest (by_filling rest)
  by_filling (La r name ∷ rest) = la r name rest (by_filling rest)
  by_filling (Statics bytes ∷ rest) = statics bytes rest (by_filling rest)

-- a place with its slots
abbrev pub with_slots : Place → Place
with_slots (left rest) = left (filled rest)
with_slots at_zero = at_zero

abbrev pub some_with_slots : Option Place → Option Place
some_with_slots (Some p) = Some (with_slots p)
some_with_slots None = None

-- labels
pub behind_filled : (name : List ℕ) (lines : List Line) → behind name (filled lines) ≡ some_with_slots (behind name lines)
behind_filled name lines =
    by_filling (λ ls ms. behind name ms ≡ some_with_slots (behind name ls)) refl labelled (λ r n rest h. h) (λ bytes rest h. h)
    (λ one target rest e h. h) (λ one target rest e h. h) (λ one target other there rest e h. h) lines
  where
    labelled : (other : List ℕ) (rest : List Line) → behind name (filled rest) ≡ some_with_slots (behind name rest) →
        behind name (Label other ∷ filled rest) ≡ some_with_slots (behind name (Label other ∷ rest))
    labelled other rest h = by (bytes_eq name other)
      where
        by : (b : Bool) → (if b then Some (left (filled rest)) else behind name (filled rest))
            ≡ some_with_slots (if b then Some (left rest) else behind name rest)
        by true = refl
        by false = h

-- calls
abbrev pub is_call : Mips → Bool
is_call (row.Jal n) = true
is_call one = false

pub calls_is : (one : Mips) (target : List ℕ) (rest : List Line) →
    calls (One one target ∷ rest) ≡ (if is_call one then 1 + calls rest else calls rest)
calls_is (row.Jal n) target rest = refl
calls_is one target rest = refl

pub behind_call_is : (returns : Returns) (v : ℕ) (one : Mips) (target : List ℕ) (rest : List Line) →
    behind_call returns v (One one target ∷ rest)
    ≡ (if is_call one then (if returns (calls rest) == v then Some (left rest) else behind_call returns v rest)
    else behind_call returns v rest)
behind_call_is returns v (row.Jal n) target rest = refl
behind_call_is returns v one target rest = refl

pub no_call : (one : Mips) → controls one ≡ false → is_call one ≡ false
no_call (row.Jal n) h = h
no_call one h = refl

pub stays_controls : (one : Mips) → stays one ≡ false → controls one ≡ false
stays_controls row.Syscall h = refl
stays_controls (row.Break n) h = refl
stays_controls one h = h

-- what makes a row movable
pub record Moves (one other : Mips) : Type 0 where
  pub turns : controls other ≡ true
  pub stays_not : stays one ≡ false
  pub writes_no_read : touch (writes one) (reads other) ≡ false
  pub reads_no_write : touch (reads one) (writes other) ≡ false
  pub writes_no_write : touch (writes one) (writes other) ≡ false

pub moves : (one other : Mips) → movable one other ≡ true → Moves one other
moves one other h =
    let a = and_parts (controls other) _ h in
    let b = and_parts (not (stays one)) _ a.1 in
    let c = and_parts (not (touch (writes one) (reads other))) _ b.1 in
    let d = and_parts (not (touch (reads one) (writes other))) (not (touch (writes one) (writes other))) c.1 in
    record {
      turns = a.0;
      stays_not = not-true _ b.0;
      writes_no_read = not-true _ c.0;
      reads_no_write = not-true _ d.0;
      writes_no_write = not-true _ d.1;
    }

neither : (a b : Bool) → (a || b) ≡ false → (a ≡ false) × (b ≡ false)
neither true b h = cc
neither false b h = (refl, h)

pub untouched : (registers those : List ℕ) (r : ℕ) → touch registers those ≡ false → is_among those r ≡ true →
    is_among registers r ≡ false
untouched registers [] r h k = cc
untouched registers (q ∷ those) r h k =
    by (r == q) refl k (neither (is_among registers q) (touch registers those) h)
    (λ e m. untouched registers those r e m)
  where
    by : (b : Bool) → (r == q) ≡ b → (b || is_among those r) ≡ true →
        (is_among registers q ≡ false) × (touch registers those ≡ false) →
        (touch registers those ≡ false → is_among those r ≡ true → is_among registers r ≡ false) →
        is_among registers r ≡ false
    by true e m n later = subst (λ x. is_among registers x ≡ false) (sym (eqb-true r q e)) n.0
    by false e m n later = later n.1 m

pub first_among : (a : ℕ) (more : List ℕ) → is_among (a ∷ more) a ≡ true
first_among a more = let e : (a == a) ≡ true = grind (arith, nat_tests) in ap (λ b. b || is_among more a) e

pub second_among : (a b : ℕ) → is_among (a ∷ b ∷ []) b ≡ true
second_among a b = let e : (b == b) ≡ true = grind (arith, nat_tests) in by (b == a) (b == b) e
  where
    by : (x y : Bool) → y ≡ true → (x || (y || false)) ≡ true
    by true y e = refl
    by false y e = ap (λ z. z || false) e

if_false : {A : Type 0} (b : Bool) (x y : A) → b ≡ false → (if b then x else y) ≡ y
if_false b x y e = ap (λ c. if c then x else y) e

-- a row that is no call
pub calls_past : (one : Mips) (target : List ℕ) (rest : List Line) → is_call one ≡ false →
    calls (One one target ∷ rest) ≡ calls rest
calls_past one target rest e = calls_is one target rest ∙ if_false (is_call one) (1 + calls rest) (calls rest) e

pub behind_past : (returns : Returns) (v : ℕ) (one : Mips) (target : List ℕ) (rest : List Line) →
    is_call one ≡ false → behind_call returns v (One one target ∷ rest) ≡ behind_call returns v rest
behind_past returns v one target rest e =
    behind_call_is returns v one target rest
    ∙ if_false (is_call one) (if returns (calls rest) == v then Some (left rest) else behind_call returns v rest)
    (behind_call returns v rest) e

-- a row in front of two lists that have as many calls
calls_same : (one : Mips) (target : List ℕ) (xs ys : List Line) → calls xs ≡ calls ys →
    calls (One one target ∷ xs) ≡ calls (One one target ∷ ys)
calls_same one target xs ys e =
    calls_is one target xs
    ∙ (ap (λ n. if is_call one then 1 + n else n) e ∙ sym (calls_is one target ys))

no_call_moves : (one other : Mips) → movable one other ≡ true → is_call one ≡ false
no_call_moves one other h = no_call one (stays_controls one (moves one other h).stays_not)

pub calls_filled : (lines : List Line) → calls (filled lines) ≡ calls lines
calls_filled lines =
    by_filling (λ ls ms. calls ms ≡ calls ls) refl (λ name rest h. h) (λ r n rest h. h) (λ bytes rest h. h)
    (λ one target rest e h. calls_same one target (filled rest) rest h)
    (λ one target rest e h. calls_same one target (nop ∷ filled rest) rest h) paired lines
  where
    paired : (one : Mips) (target : List ℕ) (other : Mips) (there : List ℕ) (rest : List Line) →
        movable one other ≡ true → calls (filled rest) ≡ calls rest →
        calls (One other there ∷ One one target ∷ filled rest) ≡ calls (One one target ∷ One other there ∷ rest)
    paired one target other there rest e h =
        let uncalled = no_call_moves one other e in
        calls_same other there (One one target ∷ filled rest) rest (calls_past one target (filled rest) uncalled ∙ h)
        ∙ sym (calls_past one target (One other there ∷ rest) uncalled)

-- the words of calls lead behind the slots
module _ (returns : Returns) (v : ℕ) where
  abbrev LeadsBack : List Line → List Line → Type 0
  LeadsBack ls ms = over_slot (behind_call returns v ms) ≡ some_with_slots (behind_call returns v ls)

  slot_back : (slot : Mips) (x : List ℕ) (other : Mips) (there : List ℕ) (rest : List Line) → is_call slot ≡ false →
      LeadsBack rest (filled rest) → LeadsBack (One other there ∷ rest) (One other there ∷ One slot x ∷ filled rest)
  slot_back slot x other there rest uncalled h =
      ap over_slot (behind_call_is returns v other there (One slot x ∷ filled rest))
      ∙ (ap (λ o. over_slot (if is_call other then
      (if returns (calls (One slot x ∷ filled rest)) == v then Some (left (One slot x ∷ filled rest)) else o) else o))
      (behind_past returns v slot x (filled rest) uncalled)
      ∙ (ap (λ n. over_slot (if is_call other then
      (if returns n == v then Some (left (One slot x ∷ filled rest)) else behind_call returns v (filled rest)) else
      behind_call returns v (filled rest))) (calls_past slot x (filled rest) uncalled ∙ calls_filled rest)
      ∙ (by (is_call other) (returns (calls rest) == v)
      ∙ ap some_with_slots (sym (behind_call_is returns v other there rest)))))
    where
      by : (b c : Bool) →
          over_slot (if b then
          (if c then Some (left (One slot x ∷ filled rest)) else behind_call returns v (filled rest)) else
          behind_call returns v (filled rest))
          ≡ some_with_slots (if b then (if c then Some (left rest) else behind_call returns v rest) else
          behind_call returns v rest)
      by true true = refl
      by true false = h
      by false c = h

  call_filled : (lines : List Line) → LeadsBack lines (filled lines)
  call_filled lines =
      by_filling LeadsBack refl (λ name rest h. h) (λ r n rest h. h) (λ bytes rest h. h) straight
      (λ one target rest e h. slot_back (row.Sll 0 0 0) [] one target rest refl h) paired lines
    where
      straight : (one : Mips) (target : List ℕ) (rest : List Line) → controls one ≡ false →
          LeadsBack rest (filled rest) → LeadsBack (One one target ∷ rest) (One one target ∷ filled rest)
      straight one target rest e h =
          let uncalled = no_call one e in
          ap over_slot (behind_past returns v one target (filled rest) uncalled)
          ∙ (h ∙ ap some_with_slots (sym (behind_past returns v one target rest uncalled)))

      paired : (one : Mips) (target : List ℕ) (other : Mips) (there : List ℕ) (rest : List Line) →
          movable one other ≡ true → LeadsBack rest (filled rest) →
          LeadsBack (One one target ∷ One other there ∷ rest) (One other there ∷ One one target ∷ filled rest)
      paired one target other there rest e h =
          let uncalled = no_call_moves one other e in
          slot_back one target other there rest uncalled h
          ∙ ap some_with_slots (sym (behind_past returns v one target (One other there ∷ rest) uncalled))

  pub place_filled : (lines : List Line) →
      over_slot (place_of returns v (filled lines)) ≡ some_with_slots (place_of returns v lines)
  place_filled lines = by (v == 0)
    where
      by : (b : Bool) → over_slot (if b then Some at_zero else behind_call returns v (filled lines))
          ≡ some_with_slots (if b then Some at_zero else behind_call returns v lines)
      by true = refl
      by false = call_filled lines
