-- What a code may name: operands, slots, labels, faults and marks that pass tests, and what is drawn.
use Rattle.std.proofs.Common.{ℕ, ◌≡◌, ◌≤◌, ◌+◌, List, [], ◌∷◌, ◌++◌, Option, Some, None, Bool, true, false, cond, nat_lt, refl, sym, ap, ◌∙◌, arith}
use Rattle.std.proofs.Common.{zero-add, add_assoc}
use Rattle.std.proofs.lemmas.Bool.Decides.{nat_tests}
use Rattle.std.specs.Prelude.{IsTrue, ◌&&◌, ◌||◌, not, nat_le, nat_eq}
use Rattle.std.specs.List.{list_all}
use Rattle.tg_tree.specs.Named.{Named, function, literal, fault, temporary}
use Rattle.tg_instr.proofs.Tests.{left_holds, right_holds, both_hold}
use Rattle.tg_instr.specs.declared.operands.Opnd.{Opnd}
use Rattle.tg_instr.specs.declared.operands.Opnd.TheVariants.{Temp, Reg}
use Rattle.tg_instr.specs.declared.instr.Instr.{Instr}
use Rattle.tg_instr.specs.declared.instr.Instr.TheVariants.{FrameLoad, FrameStore, Address, Jump, Branch, Call, Fault}
use Rattle.tg_instr.specs.Codes.{is_mark}
use Rattle.tg_instr.specs.Renaming.{named}
use Rattle.tg_munch.specs.Naming.{is_written, is_read}
use Rattle.tg_munch.specs.mirror.Choosing.{NumbersDrawn}

-- tests of slots, names and marks that are led to; the first mark that is drawn; and a mark that is counted
pub record Scope : Type 0 where
  pub slots : ℕ
  pub is_slot : ℕ → Bool
  pub is_name : Named → Bool
  pub is_target : ℕ → Bool
  pub first_mark : ℕ
  pub mark : ℕ
  pub has_slots : (k : ℕ) → IsTrue (nat_lt k slots) → IsTrue (is_slot k)

-- no less is drawn
pub record Grows (d e : NumbersDrawn) : Type 0 where
  pub temp : d.temp ≤ e.temp
  pub mark : d.mark ≤ e.mark

pub grows_none : (d : NumbersDrawn) → Grows d d
grows_none d = record { temp = omega arith; mark = omega arith }

pub grows_on : {d e f : NumbersDrawn} → Grows d e → Grows e f → Grows d f
grows_on a b = record { temp = omega (arith, a.temp, b.temp); mark = omega (arith, a.mark, b.mark) }

abbrev pub is_temp : Scope → NumbersDrawn → ℕ → Bool
is_temp w e t = w.is_name (temporary t) || nat_lt t e.temp

-- an operand that may be read, and one that may be written
abbrev pub is_readable : Scope → NumbersDrawn → Opnd → Bool
is_readable w e (Temp t) = is_temp w e t.0
is_readable w e (Reg r) = is_read r

abbrev pub is_writable : Scope → NumbersDrawn → Opnd → Bool
is_writable w e (Temp t) = is_temp w e t.0
is_writable w e (Reg r) = is_written r

abbrev pub is_option : (Opnd → Bool) → Option Opnd → Bool
is_option p (Some x) = p x
is_option p None = true

abbrev pub is_place : Scope → NumbersDrawn → ℕ → Bool
is_place w e m = w.is_target m || (nat_le w.first_mark m && nat_lt m e.mark)

abbrev pub reaches : Scope → NumbersDrawn → Instr → Bool
reaches w e (FrameLoad to k) = w.is_slot k
reaches w e (FrameStore from k) = w.is_slot k
reaches w e (Address to label) = w.is_name (literal label.0)
reaches w e (Call label) = w.is_name (function label.0)
reaches w e (Fault n) = w.is_name (fault n)
reaches w e (Jump m) = is_place w e m
reaches w e (Branch test m) = is_place w e m
reaches w e _ = true

abbrev pub may_name : Scope → NumbersDrawn → Instr → Bool
may_name w e one =
    is_option (is_writable w e) (named one).to
    && (is_option (is_readable w e) (named one).first
    && (is_option (is_readable w e) (named one).second && reaches w e one))

-- an instruction that is no mark either
abbrev pub may_put : Scope → NumbersDrawn → Instr → Bool
may_put w e one = not (is_mark w.mark one) && may_name w e one

abbrev pub Readable : Scope → NumbersDrawn → Opnd → Type 0
Readable w e x = IsTrue (is_readable w e x)

abbrev pub Writable : Scope → NumbersDrawn → Opnd → Type 0
Writable w e x = IsTrue (is_writable w e x)

abbrev pub Asked : Scope → NumbersDrawn → Option Opnd → Type 0
Asked w e x = IsTrue (is_option (is_writable w e) x)

-- all that stays so where more is drawn
or_on : (a b c : Bool) → (IsTrue b → IsTrue c) → IsTrue (a || b) → IsTrue (a || c)
or_on true b c f h = refl
or_on false b c f h = f h

pub or_right : (a b : Bool) → IsTrue b → IsTrue (a || b)
or_right true b h = refl
or_right false b h = h

pub or_left : (a b : Bool) → IsTrue a → IsTrue (a || b)
or_left true b h = refl
or_left false b h = absurd (false_is_not_true h)
  where
    false_is_not_true : false ≡ true → ⊥
    false_is_not_true e = cc

pub below_on : (m n t : ℕ) → m ≤ n → IsTrue (nat_lt t m) → IsTrue (nat_lt t n)
below_on m n t le h = grind (arith, nat_tests)

temp_on : (w : Scope) {d e : NumbersDrawn} → Grows d e → (t : ℕ) → IsTrue (is_temp w d t) → IsTrue (is_temp w e t)
temp_on w {d} {e} g t h = or_on (w.is_name (temporary t)) (nat_lt t d.temp) (nat_lt t e.temp)
    (below_on d.temp e.temp t g.temp) h

place_on : (w : Scope) {d e : NumbersDrawn} → Grows d e → (m : ℕ) → IsTrue (is_place w d m) → IsTrue (is_place w e m)
place_on w {d} {e} g m h =
    or_on (w.is_target m) (nat_le w.first_mark m && nat_lt m d.mark) (nat_le w.first_mark m && nat_lt m e.mark)
    (λ k. both_hold (nat_le w.first_mark m) (nat_lt m e.mark) (left_holds (nat_le w.first_mark m) (nat_lt m d.mark) k)
    (below_on d.mark e.mark m g.mark (right_holds (nat_le w.first_mark m) (nat_lt m d.mark) k)))
    h

pub readable_on : (w : Scope) {d e : NumbersDrawn} → Grows d e → (x : Opnd) → Readable w d x → Readable w e x
readable_on w g (Temp t) h = temp_on w g t.0 h
readable_on w g (Reg r) h = h

pub writable_on : (w : Scope) {d e : NumbersDrawn} → Grows d e → (x : Opnd) → Writable w d x → Writable w e x
writable_on w g (Temp t) h = temp_on w g t.0 h
writable_on w g (Reg r) h = h

pub asked_on : (w : Scope) {d e : NumbersDrawn} → Grows d e → (x : Option Opnd) → Asked w d x → Asked w e x
asked_on w g (Some x) h = writable_on w g x h
asked_on w g None h = refl

-- what may be written may be read
pub readable : (w : Scope) (d : NumbersDrawn) (x : Opnd) → Writable w d x → Readable w d x
readable w d (Temp t) h = h
readable w d (Reg r) h = or_right (nat_eq r 0) _ (or_right (nat_eq r 29) (is_written r) h)

source_on : (w : Scope) {d e : NumbersDrawn} → Grows d e → (x : Option Opnd) → IsTrue (is_option (is_readable w d) x) →
    IsTrue (is_option (is_readable w e) x)
source_on w g (Some x) h = readable_on w g x h
source_on w g None h = refl

reaches_on : (w : Scope) {d e : NumbersDrawn} → Grows d e → (one : Instr) → IsTrue (reaches w d one) → IsTrue (reaches w e one)
reaches_on w g (Jump m) h = place_on w g m h
reaches_on w g (Branch test m) h = place_on w g m h
reaches_on w g _ h = h

one_on : (w : Scope) {d e : NumbersDrawn} → Grows d e → (one : Instr) → IsTrue (may_name w d one) → IsTrue (may_name w e one)
one_on w {d} {e} g one h =
    let a = left_holds (is_option (is_writable w d) (named one).to) _ h in
    let r = right_holds (is_option (is_writable w d) (named one).to) _ h in
    let b = left_holds (is_option (is_readable w d) (named one).first) _ r in
    let s = right_holds (is_option (is_readable w d) (named one).first) _ r in
    let c = left_holds (is_option (is_readable w d) (named one).second) _ s in
    let z = right_holds (is_option (is_readable w d) (named one).second) (reaches w d one) s in
    both_hold _ _ (asked_on w g (named one).to a) (both_hold _ _ (source_on w g (named one).first b)
    (both_hold _ _ (source_on w g (named one).second c) (reaches_on w g one z)))

pub all_on : (w : Scope) {d e : NumbersDrawn} → Grows d e → (list : List Instr) → IsTrue (list_all (may_name w d) list) →
    IsTrue (list_all (may_name w e) list)
all_on w g [] h = refl
all_on w {d} g (one ∷ rest) h =
    both_hold _ _ (one_on w g one (left_holds _ _ h)) (all_on w g rest (right_holds (may_name w d one) _ h))

-- how often a mark stands in a list, and among those that are drawn from one to another
abbrev pub counted : Bool → ℕ
counted b = cond b 1 0

abbrev pub occurs : ℕ → List Instr → ℕ
occurs m [] = 0
occurs m (one ∷ rest) = counted (is_mark m one) + occurs m rest

abbrev pub spanned : (first past m : ℕ) → ℕ
spanned first past m = counted (nat_le first m && nat_lt m past)

pub occurs_append : (m : ℕ) (xs ys : List Instr) → occurs m (xs ++ ys) ≡ occurs m xs + occurs m ys
occurs_append m [] ys = sym (zero-add (occurs m ys))
occurs_append m (one ∷ xs) ys =
    ap (λ n. counted (is_mark m one) + n) (occurs_append m xs ys)
    ∙ sym (add_assoc (counted (is_mark m one)) (occurs m xs) (occurs m ys))

pub span_none : (n m : ℕ) → 0 ≡ spanned n n m
span_none n m = grind (arith, nat_tests)

pub span_join : (a b c m : ℕ) → a ≤ b → b ≤ c → spanned a b m + spanned b c m ≡ spanned a c m
span_join a b c m h k = grind (arith, nat_tests)

pub span_one : (k m : ℕ) → 0 + (0 + (0 + (counted (nat_eq m k) + 0))) ≡ spanned k (k + 1) m
span_one k m = grind (arith, nat_tests)
