-- Fields and elements of types.
use Rattle.std.specs.Prelude.{Option, Some, None, ◌==◌, ◌&&◌, if◌then◌else◌}
use Rattle.std.proofs.Common.{◌≡◌, ℕ, suc, ◌+◌, ◌<◌, drop, get_or, List, [], ◌∷◌, length, Bool, true, false, refl, sym, ap, ◌∙◌, arith}
use Rattle.tg_syntax.specs.Tree.{Inits, no_inits, init}
use Rattle.tg_syntax.specs.declared.trees.Init.{Init as CodeInit}
use Rattle.tg_syntax.specs.glue.Lists.{inits_of}
use Rattle.tg_typecheck.proofs.TreeSteps.{from_here, none_left}
use Rattle.tg_typecheck.specs.declared.faults.TypeRule.{TypeRule}
use Rattle.tg_typecheck.specs.declared.faults.TypeRule.TheVariants.{T7, T9}
use Rattle.tg_typecheck.specs.Types.{Ty, record_type, array_type, Shape, record_shape, array_shape}
use Rattle.tg_symbols.specs.Tables.{looked_up}
use Rattle.tg_typecheck.specs.Checks.{Noted, fine, fault, present, give, refuse, shape_at, ◌>>=◌}
use Rattle.tg_semantics.specs.Environments.{name_of}
use Rattle.tg_typecheck.specs.Typing.{fields_in, fields_of, element_type_in, element_of, placed, are_fields}
use Rattle.tg_typecheck.specs.glue.Kinds.{record_byte, array_byte}
use Rattle.tg_typecheck.specs.glue.Shapes.{fields_in_shape, element_in_shape}
use Rattle.tg_typecheck.specs.glue.Selections.{init_count}
use Rattle.tg_symbols.specs.Links.{placed_at}

-- what isn't a record
pub not_record : (t : Ty) (at : ℕ) (n : Noted) → None ≡ record_byte t → fields_of t at n ≡ fault T7 at
unfolding refuse
not_record (record_type b) at n e = grind arith
not_record _ at n e = refl

pub of_shape : (t : Ty) (at byte : ℕ) (o : Option Shape) (n : Noted) → Some byte ≡ record_byte t → o ≡ looked_up byte n.shapes →
    fields_of t at n ≡ fields_in o at n
unfolding ◌>>=◌ shape_at
of_shape (record_type b) at byte o n e d =
    let i : byte ≡ b = grind arith in
    ap (λ s. fields_in s at n) (ap (λ x. looked_up x n.shapes) (sym i) ∙ sym d)
of_shape _ at byte o n e d = grind arith

pub no_shape : (at : ℕ) (n : Noted) → fields_in None at n ≡ fault T7 at
unfolding refuse
no_shape at n = refl

pub fields_is : (s : Shape) (at : ℕ) (n : Noted) (fs : List (ℕ × Ty)) → Some fs ≡ fields_in_shape s → fields_in (Some s) at n ≡ fine fs n
unfolding give
fields_is (record_shape gs) at n fs e = ap (λ o. elim o [ Some hs ↦ fine hs n | None ↦ fine fs n ]) (sym e)
fields_is (array_shape t) at n fs e = grind arith

pub fields_not : (s : Shape) (at : ℕ) (n : Noted) → None ≡ fields_in_shape s → fields_in (Some s) at n ≡ fault T7 at
unfolding refuse
fields_not (record_shape gs) at n e = grind arith
fields_not (array_shape t) at n e = refl

-- what isn't an array
pub not_array : (t : Ty) (at : ℕ) (n : Noted) → None ≡ array_byte t → element_of t at n ≡ fault T9 at
unfolding refuse
not_array (array_type b) at n e = grind arith
not_array _ at n e = refl

pub of_array : (t : Ty) (at byte : ℕ) (o : Option Shape) (n : Noted) → Some byte ≡ array_byte t → o ≡ looked_up byte n.shapes →
    element_of t at n ≡ element_type_in o at n
unfolding ◌>>=◌ shape_at
of_array (array_type b) at byte o n e d =
    let i : byte ≡ b = grind arith in
    ap (λ s. element_type_in s at n) (ap (λ x. looked_up x n.shapes) (sym i) ∙ sym d)
of_array _ at byte o n e d = grind arith

pub no_array : (at : ℕ) (n : Noted) → element_type_in None at n ≡ fault T9 at
unfolding refuse
no_array at n = refl

pub element_is : (s : Shape) (at : ℕ) (n : Noted) (t : Ty) → Some t ≡ element_in_shape s → element_type_in (Some s) at n ≡ fine t n
unfolding give
element_is (array_shape u) at n t e = ap (λ o. elim o [ Some v ↦ fine v n | None ↦ fine t n ]) (sym e)
element_is (record_shape gs) at n t e = grind arith

pub element_not : (s : Shape) (at : ℕ) (n : Noted) → None ≡ element_in_shape s → element_type_in (Some s) at n ≡ fault T9 at
unfolding refuse
element_not (array_shape u) at n e = grind arith
element_not (record_shape gs) at n e = refl

-- the place and the type of a field are found apart
apart : (b : Bool) (from : ℕ) (t : Ty) (p : Option (ℕ × Ty)) (k : Option ℕ) (o : Option Ty) → ((j : ℕ) (u : Ty) → k ≡ Some j → o ≡ Some u → p ≡ Some (j, u)) →
    (j : ℕ) (u : Ty) → (if b then Some from else k) ≡ Some j → (if b then Some t else o) ≡ Some u → (if b then Some (from, t) else p) ≡ Some (j, u)
apart true from t p k o f j u h i =
    let x : from ≡ j = grind arith in
    let y : t ≡ u = ap (λ w. elim w [ Some v ↦ v | None ↦ t ]) i in
    ap (λ z. Some (z, t)) x ∙ ap (λ z. Some (j, z)) y
apart false from t p k o f j u h i = f j u h i

pub placed_is : (x from : ℕ) (fs : List (ℕ × Ty)) (j : ℕ) (u : Ty) → placed_at x from fs ≡ Some j → looked_up x fs ≡ Some u → placed x from fs ≡ Some (j, u)
placed_is x from [] j u h i = grind arith
placed_is x from (f ∷ fs) j u h i =
    apart (f.0 == x) from f.1 (placed x (suc from) fs) (placed_at x (suc from) fs) (looked_up x fs) (placed_is x (suc from) fs) j u h i

none_apart : (b : Bool) (from : ℕ) (t : Ty) (p : Option (ℕ × Ty)) (k : Option ℕ) → (k ≡ None → p ≡ None) → (if b then Some from else k) ≡ None →
    (if b then Some (from, t) else p) ≡ None
none_apart true from t p k f h = grind arith
none_apart false from t p k f h = f h

pub placed_not : (x from : ℕ) (fs : List (ℕ × Ty)) → placed_at x from fs ≡ None → placed x from fs ≡ None
placed_not x from [] h = refl
placed_not x from (f ∷ fs) h = none_apart (f.0 == x) from f.1 (placed x (suc from) fs) (placed_at x (suc from) fs) (placed_not x (suc from) fs) h

both_none : (b : Bool) (from : ℕ) (t : Ty) (k : Option ℕ) (o : Option Ty) → (o ≡ None → k ≡ None) → (if b then Some t else o) ≡ None →
    (if b then Some from else k) ≡ None
both_none true from t k o f h = grind arith
both_none false from t k o f h = f h

pub named_not : (x from : ℕ) (fs : List (ℕ × Ty)) → looked_up x fs ≡ None → placed_at x from fs ≡ None
named_not x from [] h = refl
named_not x from (f ∷ fs) h = both_none (f.0 == x) from f.1 (placed_at x (suc from) fs) (looked_up x fs) (named_not x (suc from) fs) h

pub present_is : {A : Type 0} (rule : TypeRule) (at : ℕ) (n : Noted) {o : Option A} {a : A} → o ≡ Some a → present rule at o n ≡ fine a n
unfolding give
present_is rule at n e = ap (λ o. present rule at o n) e

pub present_not : {A : Type 0} (rule : TypeRule) (at : ℕ) (n : Noted) {o : Option A} → o ≡ None → present rule at o n ≡ fault rule at
unfolding refuse
present_not rule at n e = ap (λ o. present rule at o n) e

no_and : (b c : Bool) → false ≡ c → false ≡ (b && c)
no_and true c e = e
no_and false c e = refl

pub lengths_differ : (inits : Inits) (fs : List (ℕ × Ty)) → (init_count inits ≡ length fs → ⊥) → false ≡ are_fields inits fs
lengths_differ no_inits [] d = absurd (d refl)
lengths_differ no_inits (f ∷ fs) d = refl
lengths_differ (init x e rest) [] d = refl
lengths_differ (init x e rest) (f ∷ fs) d = no_and (name_of x == f.0) (are_fields rest fs) (lengths_differ rest fs (λ i. d (ap suc i)))

and_true : (b c : Bool) → (b && c) ≡ true → c ≡ true
and_true true c e = e
and_true false c e = cc

pub same_lengths : (inits : Inits) (fs : List (ℕ × Ty)) → are_fields inits fs ≡ true → length fs ≡ init_count inits
same_lengths no_inits [] e = refl
same_lengths no_inits (f ∷ fs) e = cc
same_lengths (init x e rest) [] d = cc
same_lengths (init x e rest) (f ∷ fs) d = ap suc (same_lengths rest fs (and_true (name_of x == f.0) (are_fields rest fs) d))

-- what is left of fields and of their values
pub record FieldsLeft (is : List CodeInit) (fs : List (ℕ × Ty)) (k : ℕ) : Type 0 where
  pub same : length is ≡ length fs
  pub onward : are_fields (inits_of is) fs ≡ are_fields (inits_of (drop k is)) (drop k fs)

pub left_none : (is : List CodeInit) (fs : List (ℕ × Ty)) → length is ≡ length fs → FieldsLeft is fs 0
left_none is fs e = record { same = e; onward = refl }

pub left_one : (is : List CodeInit) (fs : List (ℕ × Ty)) (k : ℕ) (i : CodeInit) (f : ℕ × Ty) → FieldsLeft is fs k → k < length is → i ≡ get_or is k i →
    f ≡ get_or fs k f → (name_of i.field == f.0) ≡ true → FieldsLeft is fs (k + 1)
left_one is fs k i f a l d e h = record {
  same = a.same;
  onward =
      a.onward ∙ (ap (λ x. are_fields (inits_of x) (drop k fs)) (from_here is k i l d)
      ∙ (ap (λ y. are_fields (inits_of (i ∷ drop (k + 1) is)) y) (from_here fs k f (omega (arith, l, a.same)) e) ∙ ap
      (λ b. b && are_fields (inits_of (drop (k + 1) is)) (drop (k + 1) fs)) h));
}

pub left_differs : (is : List CodeInit) (fs : List (ℕ × Ty)) (k : ℕ) (i : CodeInit) (f : ℕ × Ty) → FieldsLeft is fs k → k < length is → i ≡ get_or is k i →
    f ≡ get_or fs k f → (name_of i.field == f.0) ≡ false → false ≡ are_fields (inits_of is) fs
left_differs is fs k i f a l d e h =
    sym (a.onward ∙ (ap (λ x. are_fields (inits_of x) (drop k fs)) (from_here is k i l d)
    ∙ (ap (λ y. are_fields (inits_of (i ∷ drop (k + 1) is)) y) (from_here fs k f (omega (arith, l, a.same)) e) ∙ ap
    (λ b. b && are_fields (inits_of (drop (k + 1) is)) (drop (k + 1) fs)) h)))

pub left_all : (is : List CodeInit) (fs : List (ℕ × Ty)) (k : ℕ) → FieldsLeft is fs k → k ≡ length is → true ≡ are_fields (inits_of is) fs
left_all is fs k a e =
    sym (a.onward ∙ (ap (λ x. are_fields (inits_of x) (drop k fs)) (none_left is k e) ∙ ap (λ y. are_fields no_inits y) (none_left fs k (e ∙ a.same))))
