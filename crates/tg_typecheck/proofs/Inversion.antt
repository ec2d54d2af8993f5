-- What checks that came out fine say of their parts.
use Rattle.std.proofs.Common.{◌≡◌, ℕ, suc, List, [], ◌∷◌, ◌++◌, Option, Some, None, Bool, true, false, refl, sym, ap, ◌∙◌, subst}
use Rattle.std.specs.Prelude.{not, ◌||◌, ◌==◌, if◌then◌else◌}
use Rattle.tg_syntax.specs.declared.tokens.Ident.{Ident}
use Rattle.tg_syntax.specs.declared.trees.Op.{Op}
use Rattle.tg_syntax.specs.declared.trees.Op.TheVariants.{Equal, NotEqual, Less, LessEqual, Greater, GreaterEqual}
use Rattle.tg_typecheck.specs.declared.faults.TypeRule.{TypeRule}
use Rattle.tg_typecheck.specs.declared.notes.Means.{Means}
use Rattle.tg_typecheck.specs.declared.notes.Means.TheVariants as means
use Rattle.tg_typecheck.specs.declared.notes.Note.{Note}
use Rattle.tg_typecheck.specs.Types.{Ty, int_type, string_type, nil_type, none_type, record_type, array_type, Shape, record_shape, array_shape, are_nil}
use Rattle.tg_typecheck.specs.Types.{has_order, same, is_nil_for, fits, alike, joined_type}
use Rattle.tg_symbols.specs.Tables.{looked_up}
use Rattle.tg_typecheck.specs.Checks.{Noted, CheckResult, fine, fault, Check, on_fine, ◌>>=◌, give, refuse, keep, present, note, shape_at, add_shape}
use Rattle.tg_semantics.specs.Environments.{name_of}
use Rattle.tg_typecheck.specs.Scopes.{Signature, Binding, variable_at, function_at, standard_one, at_of}
use Rattle.tg_typecheck.specs.Typing.{expect, expect_none, variable_of, function_of, fields_in, fields_of, element_type_in, element_of, placed, select}
use Rattle.tg_typecheck.specs.Typing.{ordered, equated, left_side, equal_sides, right_side}
use Rattle.std.proofs.lemmas.Bool.{eqb-true}
use Rattle.tg_typecheck.specs.Has.{Fits, the_same, nil_for, Alike, records, arrays, nil_and, and_nil, Compares, Identifies, Callee, declared, standard}
use Rattle.tg_typecheck.specs.Has.{use_of, Says, SaysOf}

-- both steps of two are fine
pub record Steps {A B : Type 0} (m : Check A) (next : A → Check B) (b : B) (start end : Noted) : Type 0 where
  pub value : A
  pub between : Noted
  pub first : m start ≡ fine value between
  pub onward : next value between ≡ fine b end

steps_of : {A B : Type 0} (m : Check A) (next : A → Check B) (b : B) (start end : Noted) (o : CheckResult A) → m start ≡ o → on_fine o next ≡ fine b end →
    Steps m next b start end
steps_of m next b start end (fine a noted) is e = record { value = a; between = noted; first = is; onward = e }
steps_of m next b start end (fault rule at) is e = cc

pub steps : {A B : Type 0} {m : Check A} {next : A → Check B} {b : B} {start end : Noted} → (m >>= next) start ≡ fine b end → Steps m next b start end
unfolding ◌>>=◌
steps {m = m} {next = next} {b = b} {start = start} {end = end} e = steps_of m next b start end (m start) refl e

pub kept : (rule : TypeRule) (at : ℕ) (b : Bool) (x : Unit {0}) (g h : Noted) → keep rule at b g ≡ fine x h → (b ≡ true) × (g ≡ h)
unfolding give refuse
kept rule at true x g h e = (refl, cc)
kept rule at false x g h e = cc

pub given : {A : Type 0} (a b : A) (g h : Noted) → give a g ≡ fine b h → (a ≡ b) × (g ≡ h)
unfolding give
given a b g h e = (cc, cc)

pub presented : {A : Type 0} (rule : TypeRule) (at : ℕ) (o : Option A) (a : A) (g h : Noted) → present rule at o g ≡ fine a h → (o ≡ Some a) × (g ≡ h)
unfolding give refuse
presented rule at (Some b) a g h e = (cc, cc)
presented rule at None a g h e = cc

pub refused : {A : Type 0} (rule : TypeRule) (at : ℕ) (a : A) (g h : Noted) → refuse rule at g ≡ fine a h → ⊥
unfolding refuse
refused rule at a g h e = cc

-- the notes with one more, and the shapes
abbrev pub noting : (at : ℕ) → Means → Noted → Noted
noting at m g = record g { notes = g.notes ++ record { at = at; means = m } ∷ [] }

abbrev pub shaping : (at : ℕ) → Shape → Noted → Noted
shaping at s g = record g { shapes = (at, s) ∷ g.shapes }

noted : (at : ℕ) (m : Means) (x : Unit {0}) (g h : Noted) → note at m g ≡ fine x h → noting at m g ≡ h
unfolding note
noted at m x g h e = cc

pub shape_added : (at : ℕ) (s : Shape) (x : Unit {0}) (g h : Noted) → add_shape at s g ≡ fine x h → shaping at s g ≡ h
unfolding add_shape
shape_added at s x g h e = cc

pub shape_found : (at : ℕ) (o : Option Shape) (g h : Noted) → shape_at at g ≡ fine o h → (looked_up at g.shapes ≡ o) × (g ≡ h)
unfolding shape_at
shape_found at o g h e = (cc, cc)

-- tests of types
pub same_is : (t u : Ty) → same t u ≡ true → t ≡ u
same_is int_type int_type e = refl
same_is string_type string_type e = refl
same_is nil_type nil_type e = refl
same_is none_type none_type e = refl
same_is (record_type a) (record_type b) e = ap record_type (eqb-true a b e)
same_is (array_type a) (array_type b) e = ap array_type (eqb-true a b e)
same_is _ _ e = cc

pub fits_is : (t u : Ty) → fits t u ≡ true → Fits t u
fits_is t u e = by (same t u) refl e
  where
    nil_is : (t u : Ty) → is_nil_for t u ≡ true → Fits t u
    nil_is nil_type (record_type at) e = nil_for
    nil_is _ _ e = cc

    by : (b : Bool) → same t u ≡ b → (b || is_nil_for t u) ≡ true → Fits t u
    by true is e = subst (λ x. Fits t x) (same_is t u is) the_same
    by false is e = nil_is t u e

pub fits_int : (t : Ty) → Fits t int_type → t ≡ int_type
fits_int _ the_same = refl

pub expected : (wanted got : Ty) (at : ℕ) (x : Unit {0}) (g h : Noted) → expect wanted got at g ≡ fine x h → Fits got wanted × (g ≡ h)
expected wanted got at x g h e =
    let p = steps e in
    let a = kept _ _ _ _ _ _ p.first in
    let b = kept _ _ _ _ _ _ p.onward in
    (fits_is got wanted b.0, a.1 ∙ b.1)

pub expected_int : (got : Ty) (at : ℕ) (x : Unit {0}) (g h : Noted) → expect int_type got at g ≡ fine x h → (got ≡ int_type) × (g ≡ h)
expected_int got at x g h e =
    let p = expected int_type got at x g h e in
    (fits_int got p.0, p.1)

pub expected_none : (got : Ty) (at : ℕ) (x : Unit {0}) (g h : Noted) → expect_none got at g ≡ fine x h → (got ≡ none_type) × (g ≡ h)
expected_none got at x g h e =
    let p = kept _ _ _ _ _ _ e in
    (same_is got none_type p.0, p.1)

or_false : (c : Bool) → (c || (false || false)) ≡ true → c ≡ true
or_false true e = refl
or_false false e = cc

-- both arms fit what the whole is
pub arms_fit : (t u : Ty) → alike t u ≡ true → Fits t (joined_type t u) × Fits u (joined_type t u)
arms_fit int_type int_type e = (the_same, the_same)
arms_fit string_type string_type e = (the_same, the_same)
arms_fit nil_type nil_type e = (the_same, the_same)
arms_fit none_type none_type e = (the_same, the_same)
arms_fit (record_type a) (record_type b) e =
    let k : a ≡ b = eqb-true a b (or_false (a == b) e) in
    (the_same, subst (λ x. Fits (record_type b) (record_type x)) (sym k) the_same)
arms_fit (array_type a) (array_type b) e =
    let k : a ≡ b = eqb-true a b (or_false (a == b) e) in
    (the_same, subst (λ x. Fits (array_type b) (array_type x)) (sym k) the_same)
arms_fit nil_type (record_type b) e = (nil_for, the_same)
arms_fit (record_type a) nil_type e = (the_same, nil_for)
arms_fit _ _ e = cc

-- what an operator's checks say of its sides
pub data Sides (op : Op) : Ty → Ty → Type 0 where
  both_ints : Sides op int_type int_type
  both_strings : Compares op → Sides op string_type string_type
  both_same : {t u : Ty} → Identifies op → Alike t u → Sides op t u

alike_sides : (op : Op) → Compares op → Identifies op → (t u : Ty) → not (same t none_type) ≡ true → not (are_nil t u) ≡ true → alike t u ≡ true →
    Sides op t u
alike_sides op c i int_type int_type n a e = both_ints
alike_sides op c i string_type string_type n a e = both_strings c
alike_sides op c i nil_type nil_type n a e = cc
alike_sides op c i none_type none_type n a e = cc
alike_sides op c i (record_type k) (record_type l) n a e =
    let j : k ≡ l = eqb-true k l (or_false (k == l) e) in subst (λ x. Sides op (record_type k) (record_type x)) j (both_same i records)
alike_sides op c i (array_type k) (array_type l) n a e =
    let j : k ≡ l = eqb-true k l (or_false (k == l) e) in subst (λ x. Sides op (array_type k) (array_type x)) j (both_same i arrays)
alike_sides op c i nil_type (record_type l) n a e = both_same i nil_and
alike_sides op c i (record_type k) nil_type n a e = both_same i and_nil
alike_sides op c i _ _ n a e = cc

ordered_pair : (op : Op) → Compares op → (t u : Ty) → has_order t ≡ true → Fits u t → Sides op t u
ordered_pair op c int_type _ e the_same = both_ints
ordered_pair op c string_type _ e the_same = both_strings c
ordered_pair op c nil_type u e f = cc
ordered_pair op c none_type u e f = cc
ordered_pair op c (record_type k) u e f = cc
ordered_pair op c (array_type k) u e f = cc

-- what a comparison of a type is noted as
abbrev pub compared : Ty → Means
compared t = if same t string_type then means.Content else means.Number

-- what an operator notes: one that compares, the type that it compares
pub data Notes (op : Op) (at : ℕ) (t : Ty) (g : Noted) : Noted → Type 0 where
  one_note : ((ns : List Note) → Says ns at (compared t) → SaysOf ns op at (compared t)) → Notes op at t g (noting at (compared t) g)
  no_note : ((ns : List Note) → SaysOf ns op at (compared t)) → Notes op at t g g

abbrev Facts : Op → (at : ℕ) → Ty → Ty → (g g1 g2 h : Noted) → Type 0
Facts op at t u g g1 g2 h = Sides op t u × Notes op at t g g1 × (g2 ≡ h)

noted_one : (op : Op) (at : ℕ) (t : Ty) (g g1 g2 h : Noted) → ((ns : List Note) → Says ns at (compared t) → SaysOf ns op at (compared t)) → g ≡ g1 →
    noting at (compared t) g1 ≡ g2 → g2 ≡ h → Notes op at t g h
noted_one op at t g g1 g2 h wrap a b c = subst (λ y. Notes op at t g y) (ap (λ y. noting at (compared t) y) a ∙ b ∙ c) (one_note wrap)

ordered_sides : (op : Op) → Compares op → (t u left : Ty) (at la ra : ℕ) → ((ns : List Note) → Says ns at (compared t) → SaysOf ns op at (compared t)) →
    (x : Unit {0}) (g g1 g2 h : Noted) → ordered t at la g ≡ fine left g1 → expect left u ra g2 ≡ fine x h → Facts op at t u g g1 g2 h
ordered_sides op c t u left at la ra wrap x g g1 g2 h e e' =
    let p = steps e in
    let q = steps p.onward in
    let r = steps q.onward in
    let n = kept _ _ _ _ _ _ p.first in
    let o = kept _ _ _ _ _ _ q.first in
    let l = given _ _ _ _ r.onward in
    let f = expected left u ra x g2 h e' in (
      ordered_pair op c t u o.0 (subst (λ y. Fits u y) (sym l.0) f.0),
      noted_one op at t g q.between r.between g1 wrap (n.1 ∙ o.1) (noted _ _ _ _ _ r.first) l.1,
      f.1,
    )

equated_sides : (op : Op) → Compares op → Identifies op → (t u left : Ty) (at la ra whole : ℕ) →
    ((ns : List Note) → Says ns at (compared t) → SaysOf ns op at (compared t)) → (x : Unit {0}) (g g1 g2 h : Noted) → equated t at la g ≡ fine left g1 →
    equal_sides left u ra whole g2 ≡ fine x h → Facts op at t u g g1 g2 h
equated_sides op c i t u left at la ra whole wrap x g g1 g2 h e e' =
    let p = steps e in
    let q = steps p.onward in
    let n = kept _ _ _ _ _ _ p.first in
    let l = given _ _ _ _ q.onward in
    let a = steps e' in
    let b = steps a.onward in
    let m = kept _ _ _ _ _ _ a.first in
    let o = kept _ _ _ _ _ _ b.first in
    let j = kept _ _ _ _ _ _ b.onward in (
      alike_sides op c i t u n.0 (subst (λ y. not (are_nil y u) ≡ true) (sym l.0) o.0) (subst (λ y. alike y u ≡ true) (sym l.0) j.0),
      noted_one op at t g p.between q.between g1 wrap n.1 (noted _ _ _ _ _ q.first) l.1,
      m.1 ∙ o.1 ∙ j.1,
    )

arithmetic_sides : (op : Op) (t u left : Ty) (at la ra : ℕ) → ((ns : List Note) → SaysOf ns op at (compared t)) → (x : Unit {0}) (g g1 g2 h : Noted) →
    (expect int_type t la >>= (λ _. give int_type)) g ≡ fine left g1 → expect left u ra g2 ≡ fine x h → Facts op at t u g g1 g2 h
arithmetic_sides op t u left at la ra wrap x g g1 g2 h e e' =
    let p = steps e in
    let n = expected_int _ _ _ _ _ p.first in
    let l = given _ _ _ _ p.onward in
    let f = expected left u ra x g2 h e' in
    let i : u ≡ int_type = fits_int u (subst (λ y. Fits u y) (sym l.0) f.0) in (
      subst (λ y. Sides op y u) (sym n.0) (subst (λ y. Sides op int_type y) (sym i) both_ints),
      subst (λ y. Notes op at t g y) (n.1 ∙ l.1) (no_note wrap),
      f.1,
    )

pub sides : (op : Op) (t u left : Ty) (at la ra whole : ℕ) (x : Unit {0}) (g g1 g2 h : Noted) → left_side op t at la g ≡ fine left g1 →
    right_side op left u ra whole g2 ≡ fine x h → Facts op at t u g g1 g2 h
sides Less t u left at la ra whole x g g1 g2 h e e' = ordered_sides Less (λ a b c. (b, refl)) t u left at la ra (λ ns s. s) x g g1 g2 h e e'
sides LessEqual t u left at la ra whole x g g1 g2 h e e' = ordered_sides LessEqual (λ a b c. (not c, refl)) t u left at la ra (λ ns s. s) x g g1 g2 h e e'
sides Greater t u left at la ra whole x g g1 g2 h e e' = ordered_sides Greater (λ a b c. (c, refl)) t u left at la ra (λ ns s. s) x g g1 g2 h e e'
sides GreaterEqual t u left at la ra whole x g g1 g2 h e e' =
    ordered_sides GreaterEqual (λ a b c. (not b, refl)) t u left at la ra (λ ns s. s) x g g1 g2 h e e'
sides Equal t u left at la ra whole x g g1 g2 h e e' =
    equated_sides Equal (λ a b c. (a, refl)) (λ a. (a, refl)) t u left at la ra whole (λ ns s. s) x g g1 g2 h e e'
sides NotEqual t u left at la ra whole x g g1 g2 h e e' =
    equated_sides NotEqual (λ a b c. (not a, refl)) (λ a. (not a, refl)) t u left at la ra whole (λ ns s. s) x g g1 g2 h e e'
sides op t u left at la ra whole x g g1 g2 h e e' = arithmetic_sides op t u left at la ra (λ ns. tt) x g g1 g2 h e e'

-- names
pub variable_got : (x : Ident) (o : Option Binding) (t : Ty) (g h : Noted) → variable_of x o g ≡ fine t h →
    (at : ℕ) × (loop : Bool) × (o ≡ Some (variable_at at t loop)) × (noting (at_of x) (means.Variable at) g ≡ h)
variable_got x None t g h e = absurd (refused _ _ _ _ _ e)
variable_got x (Some (function_at at s)) t g h e = absurd (refused _ _ _ _ _ e)
variable_got x (Some (standard_one f)) t g h e = absurd (refused _ _ _ _ _ e)
variable_got x (Some (variable_at at u loop)) t g h e =
    let p = steps e in
    let q = given _ _ _ _ p.onward in
    (at, loop, ap (λ y. Some (variable_at at y loop)) q.0, noted _ _ _ _ _ p.first ∙ q.1)

pub callee_got : (f : Ident) (o : Option Binding) (s : Signature) (g h : Noted) → function_of f o g ≡ fine s h →
    (b : Binding) × (o ≡ Some b) × Callee b s × (noting (at_of f) (use_of b) g ≡ h)
callee_got f None s g h e = absurd (refused _ _ _ _ _ e)
callee_got f (Some (variable_at at t loop)) s g h e = absurd (refused _ _ _ _ _ e)
callee_got f (Some (function_at at sig)) s g h e =
    let p = steps e in
    let q = given _ _ _ _ p.onward in
    (function_at at sig, refl, subst (λ y. Callee (function_at at sig) y) q.0 declared, noted _ _ _ _ _ p.first ∙ q.1)
callee_got f (Some (standard_one k)) s g h e =
    let p = steps e in
    let q = given _ _ _ _ p.onward in
    (standard_one k, refl, subst (λ y. Callee (standard_one k) y) q.0 (standard k), noted _ _ _ _ _ p.first ∙ q.1)

-- records and arrays
fields_in_got : (o : Option Shape) (at : ℕ) (fs : List (ℕ × Ty)) (g h : Noted) → fields_in o at g ≡ fine fs h → (o ≡ Some (record_shape fs)) × (g ≡ h)
fields_in_got None at fs g h e = absurd (refused _ _ _ _ _ e)
fields_in_got (Some (array_shape t)) at fs g h e = absurd (refused _ _ _ _ _ e)
fields_in_got (Some (record_shape gs)) at fs g h e = let p = given _ _ _ _ e in (ap (λ y. Some (record_shape y)) p.0, p.1)

pub fields_got : (t : Ty) (at : ℕ) (fs : List (ℕ × Ty)) (g h : Noted) → fields_of t at g ≡ fine fs h →
    (byte : ℕ) × (t ≡ record_type byte) × (looked_up byte h.shapes ≡ Some (record_shape fs)) × (g ≡ h)
fields_got (record_type byte) at fs g h e =
    let p = steps e in
    let q = shape_found _ _ _ _ p.first in
    let r = fields_in_got _ _ _ _ _ p.onward in
    (byte, refl, ap (λ y. looked_up byte y.shapes) (sym (q.1 ∙ r.1)) ∙ q.0 ∙ r.0, q.1 ∙ r.1)
fields_got _ at fs g h e = absurd (refused _ _ _ _ _ e)

element_in_got : (o : Option Shape) (at : ℕ) (t : Ty) (g h : Noted) → element_type_in o at g ≡ fine t h → (o ≡ Some (array_shape t)) × (g ≡ h)
element_in_got None at t g h e = absurd (refused _ _ _ _ _ e)
element_in_got (Some (record_shape fs)) at t g h e = absurd (refused _ _ _ _ _ e)
element_in_got (Some (array_shape u)) at t g h e = let p = given _ _ _ _ e in (ap (λ y. Some (array_shape y)) p.0, p.1)

pub element_got : (t : Ty) (at : ℕ) (u : Ty) (g h : Noted) → element_of t at g ≡ fine u h →
    (byte : ℕ) × (t ≡ array_type byte) × (looked_up byte h.shapes ≡ Some (array_shape u)) × (g ≡ h)
element_got (array_type byte) at u g h e =
    let p = steps e in
    let q = shape_found _ _ _ _ p.first in
    let r = element_in_got _ _ _ _ _ p.onward in
    (byte, refl, ap (λ y. looked_up byte y.shapes) (sym (q.1 ∙ r.1)) ∙ q.0 ∙ r.0, q.1 ∙ r.1)
element_got _ at u g h e = absurd (refused _ _ _ _ _ e)

placed_named : (f from : ℕ) (fs : List (ℕ × Ty)) (found : ℕ × Ty) → placed f from fs ≡ Some found → looked_up f fs ≡ Some found.1
placed_named f from [] found e = cc
placed_named f from (field ∷ rest) found e = by (field.0 == f) (placed_named f (suc from) rest found) e
  where
    by : (c : Bool) → (placed f (suc from) rest ≡ Some found → looked_up f rest ≡ Some found.1) →
        (if c then Some (from, field.1) else placed f (suc from) rest) ≡ Some found → (if c then Some field.1 else looked_up f rest) ≡ Some found.1
    by true r e = let k : (from, field.1) ≡ found = cc in ap (λ y. Some y.1) k
    by false r e = r e

pub selected : (fs : List (ℕ × Ty)) (f : Ident) (t : Ty) (g h : Noted) → select fs f g ≡ fine t h →
    (k : ℕ) × (looked_up (name_of f) fs ≡ Some t) × (placed (name_of f) 0 fs ≡ Some (k, t)) × (noting (at_of f) (means.Field k) g ≡ h)
selected fs f t g h e =
    let p = steps e in
    let q = steps p.onward in
    let a = presented _ _ _ _ _ _ p.first in
    let c = given _ _ _ _ q.onward in (
      p.value.0,
      placed_named (name_of f) 0 fs p.value a.0 ∙ ap (λ y. Some y) c.0,
      a.0 ∙ ap (λ y. Some (p.value.0, y)) c.0,
      ap (λ y. noting (at_of f) (means.Field p.value.0) y) a.1 ∙ noted _ _ _ _ _ q.first ∙ c.1,
    )
