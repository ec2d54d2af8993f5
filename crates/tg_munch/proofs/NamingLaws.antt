-- Laws of what the instructions of a function name.
use Rattle.std.proofs.Common.{ℕ, ◌≡◌, ◌<◌, ◌≤◌, List, [], ◌∷◌, Option, Some, None, Bool, true, false, nat_lt, refl, arith}
use Rattle.std.proofs.lemmas.Bool.Decides.{nat_tests}
use Rattle.std.specs.Prelude.{IsTrue, ◌&&◌, ◌||◌}
use Rattle.std.specs.List.{Contains, list_all}
use Rattle.tg_frame.specs.declared.accesses.Access.{Access}
use Rattle.tg_frame.specs.declared.accesses.Access.TheVariants.{InTemp, InFrame}
use Rattle.tg_frame.specs.Homes.{slot_bound, temp_bound}
use Rattle.tg_tree.specs.Tree.{Linear, Function}
use Rattle.tg_tree.specs.Named.{NamesAreAllowed, Named, function, literal, fault, temporary, constant, named_flat, HasItsTemps}
use Rattle.tg_instr.proofs.Tests.{left_holds, right_holds, both_hold}
use Rattle.tg_instr.specs.declared.operands.Opnd.{Opnd}
use Rattle.tg_instr.specs.declared.operands.Opnd.TheVariants.{Temp, Reg}
use Rattle.tg_instr.specs.declared.instr.Instr.{Instr}
use Rattle.tg_instr.specs.declared.instr.Instr.TheVariants.{Sll, Srl, Sra, Mfhi, Mflo, Mult, Div, Add, Sub, Addu, Subu, And, Or, Xor, Nor, Slt, Sltu}
use Rattle.tg_instr.specs.declared.instr.Instr.TheVariants.{Addi, Addiu, Slti, Sltiu, Andi, Ori, Xori, Lui, Lb, Lbu, Lw, Sb, Sw, Move, FrameLoad}
use Rattle.tg_instr.specs.declared.instr.Instr.TheVariants.{FrameStore, FrameAddress, Address, Branch, Call, Fault}
use Rattle.tg_instr.specs.Codes.{is_below, has_temps_below, has_slots_below, has_register}
use Rattle.tg_instr.specs.Renaming.{named}
use Rattle.tg_munch.specs.mirror.Choosing.{NumbersDrawn}
use Rattle.tg_munch.specs.mirror.Bodies.{mark_above, munched}
use Rattle.tg_munch.specs.Naming.{is_written, is_read, names_registers, names_allowed}
use Rattle.tg_munch.proofs.Scopes.{Scope, is_readable, is_writable, is_option, is_temp, reaches, may_name, below_on}
use Rattle.tg_munch.proofs.NamingCode.{HomePasses, HomesPass, lays_body}
use Rattle.tg_munch.proofs.Passing.{pass_code, slots_pass, temps_pass, all_homes_pass}

-- where each that passes one test passes another
pub all_imply : {X : Type 0} (p q : X → Bool) → ((x : X) → IsTrue (p x) → IsTrue (q x)) → (xs : List X) →
    IsTrue (list_all p xs) → IsTrue (list_all q xs)
all_imply p q f [] h = refl
all_imply p q f (x ∷ xs) h = both_hold _ _ (f x (left_holds _ _ h)) (all_imply p q f xs (right_holds (p x) _ h))

-- a function's drawing begins after its temporaries and marks
abbrev pub start : Function (List Linear) → NumbersDrawn
start f = record { temp = f.temps; mark = mark_above f.body }

-- the tests of names and slots that are asked for, and marks that are led to in code
abbrev pub scope : (f : Function (List Linear)) (is_slot : ℕ → Bool) (is_name : Named → Bool) →
    ((k : ℕ) → IsTrue (nat_lt k f.slots) → IsTrue (is_slot k)) → Scope
scope f is_slot is_name has = record {
  slots = f.slots;
  is_slot = is_slot;
  is_name = is_name;
  is_target = λ m. true;
  first_mark = mark_above f.body;
  mark = 0;
  has_slots = has;
}

abbrev pub any_slot : ℕ → Bool
any_slot k = true

abbrev pub any_name : Named → Bool
any_name x = true

named_in : (f : Function (List Linear)) (is_slot : ℕ → Bool) (is_name : Named → Bool)
    (has : (k : ℕ) → IsTrue (nat_lt k f.slots) → IsTrue (is_slot k)) →
    NamesAreAllowed is_name (named_flat f.body []) → HomesPass (scope f is_slot is_name has) f.params →
    IsTrue (list_all (may_name (scope f is_slot is_name has) (munched f).drawn) (munched f).code)
named_in f is_slot is_name has names homes =
    let w = scope f is_slot is_name has in
    (lays_body w f.params f.body homes (pass_code w f.body names (λ m c. refl)) (start f)).code (omega arith)

-- registers
written : (w : Scope) (d : NumbersDrawn) (x : Option Opnd) → IsTrue (is_option (is_writable w d) x) →
    IsTrue (has_register is_written x)
written w d (Some (Temp t)) h = refl
written w d (Some (Reg r)) h = h
written w d None h = refl

read : (w : Scope) (d : NumbersDrawn) (x : Option Opnd) → IsTrue (is_option (is_readable w d) x) →
    IsTrue (has_register is_read x)
read w d (Some (Temp t)) h = refl
read w d (Some (Reg r)) h = h
read w d None h = refl

registers_named : (w : Scope) (d : NumbersDrawn) (one : Instr) → IsTrue (may_name w d one) → IsTrue (names_registers one)
registers_named w d one h =
    let r = right_holds (is_option (is_writable w d) (named one).to) _ h in
    let s = right_holds (is_option (is_readable w d) (named one).first) _ r in
    both_hold _ _ (written w d (named one).to (left_holds _ _ h))
    (both_hold _ _ (read w d (named one).first (left_holds _ _ r))
    (read w d (named one).second (left_holds _ (reaches w d one) s)))

any_home : (f : Function (List Linear)) (home : Access) → HomePasses (scope f any_slot any_name (λ k h. refl)) home
any_home f (InTemp t) = refl
any_home f (InFrame k) = refl

pub registers_are_fixed : (f : Function (List Linear)) → IsTrue (list_all names_registers (munched f).code)
registers_are_fixed f =
    let w = scope f any_slot any_name (λ k h. refl) in
    all_imply (may_name w (munched f).drawn) names_registers (registers_named w (munched f).drawn) (munched f).code
    (named_in f any_slot any_name (λ k h. refl) (λ x c. refl) (all_homes_pass w f.params (any_home f)))

-- slots
pub reached : (w : Scope) (d : NumbersDrawn) (one : Instr) → IsTrue (may_name w d one) → IsTrue (reaches w d one)
reached w d one h =
    let r = right_holds (is_option (is_writable w d) (named one).to) _ h in
    let s = right_holds (is_option (is_readable w d) (named one).first) _ r in
    right_holds (is_option (is_readable w d) (named one).second) (reaches w d one) s

abbrev is_below_slots : ℕ → ℕ → Bool
is_below_slots slots k = nat_lt k slots

slots_reached : (f : Function (List Linear)) (d : NumbersDrawn) (one : Instr) →
    IsTrue (reaches (scope f (is_below_slots f.slots) any_name (λ k h. h)) d one) → IsTrue (has_slots_below f.slots one)
slots_reached f d (FrameLoad to k) h = h
slots_reached f d (FrameStore from k) h = h
slots_reached f d _ h = refl

is_less : (m n : ℕ) → m < n → IsTrue (nat_lt m n)
is_less m n h = grind (arith, nat_tests)

pub slots_are_below : (f : Function (List Linear)) → slot_bound f.params ≤ f.slots →
    IsTrue (list_all (has_slots_below f.slots) (munched f).code)
slots_are_below f le =
    let w = scope f (is_below_slots f.slots) any_name (λ k h. h) in
    let d = (munched f).drawn in
    all_imply (may_name w d) (has_slots_below f.slots) (λ one h. slots_reached f d one (reached w d one h))
    (munched f).code
    (named_in f (is_below_slots f.slots) any_name (λ k h. h) (λ x c. refl)
    (slots_pass w f.params f.slots (λ k h. is_less k f.slots h) (λ t. refl) le))

-- functions, literals and faults
abbrev labels_alone : (Named → Bool) → Named → Bool
labels_alone allowed (temporary i) = true
labels_alone allowed x = allowed x

label_allowed : (allowed : Named → Bool) (x : Named) → IsTrue (allowed x) → IsTrue (labels_alone allowed x)
label_allowed allowed (function label) h = h
label_allowed allowed (literal label) h = h
label_allowed allowed (fault n) h = h
label_allowed allowed (temporary i) h = refl
label_allowed allowed (constant n) h = h

names_reached : (f : Function (List Linear)) (allowed : Named → Bool) (d : NumbersDrawn) (one : Instr) →
    IsTrue (reaches (scope f any_slot (labels_alone allowed) (λ k h. refl)) d one) → IsTrue (names_allowed allowed one)
names_reached f allowed d (Call label) h = h
names_reached f allowed d (Address to label) h = h
names_reached f allowed d (Fault n) h = h
names_reached f allowed d _ h = refl

name_home : (f : Function (List Linear)) (allowed : Named → Bool) (home : Access) →
    HomePasses (scope f any_slot (labels_alone allowed) (λ k h. refl)) home
name_home f allowed (InTemp t) = refl
name_home f allowed (InFrame k) = refl

pub names_stay : (allowed : Named → Bool) (f : Function (List Linear)) → NamesAreAllowed allowed (named_flat f.body []) →
    IsTrue (list_all (names_allowed allowed) (munched f).code)
names_stay allowed f names =
    let w = scope f any_slot (labels_alone allowed) (λ k h. refl) in
    let d = (munched f).drawn in
    all_imply (may_name w d) (names_allowed allowed) (λ one h. names_reached f allowed d one (reached w d one h))
    (munched f).code
    (named_in f any_slot (labels_alone allowed) (λ k h. refl) (λ x c. label_allowed allowed x (names x c))
    (all_homes_pass w f.params (name_home f allowed)))

-- temporaries
abbrev temps_below : ℕ → Named → Bool
temps_below temps (temporary i) = nat_lt i temps
temps_below temps _ = true

either_below : (t m n : ℕ) → m ≤ n → (b : Bool) → nat_lt t m ≡ b → IsTrue (b || nat_lt t n) → IsTrue (nat_lt t n)
either_below t m n le true e h = below_on m n t le e
either_below t m n le false e h = h

module _ (w : Scope) (d : NumbersDrawn) (temps : ℕ)
    (same : (i : ℕ) → w.is_name (temporary i) ≡ nat_lt i temps) (grows : temps ≤ d.temp) where
  temp_below : (t : ℕ) → IsTrue (is_temp w d t) → IsTrue (nat_lt t d.temp)
  temp_below t h =
      let e = same t in
      let g : (nat_lt t temps || nat_lt t d.temp) ≡ true = cc in
      either_below t temps d.temp grows (nat_lt t temps) refl g

  readable_below : (x : Opnd) → IsTrue (is_readable w d x) → IsTrue (is_below d.temp x)
  readable_below (Temp t) h = temp_below t.0 h
  readable_below (Reg r) h = refl

  writable_below : (x : Opnd) → IsTrue (is_writable w d x) → IsTrue (is_below d.temp x)
  writable_below (Temp t) h = temp_below t.0 h
  writable_below (Reg r) h = refl

  alone : (a : Bool) → IsTrue a → IsTrue (a && true)
  alone a h = both_hold a true h refl

  both : (a b : Bool) → IsTrue a → IsTrue b → IsTrue (a && (b && true))
  both a b h k = both_hold a _ h (alone b k)

  to_only : (to : Opnd) (b : Bool) → IsTrue (is_writable w d to && b) → IsTrue (is_below d.temp to && true)
  to_only to b h = alone _ (writable_below to (left_holds _ b h))

  from_only : (x : Opnd) (b : Bool) → IsTrue (is_readable w d x && b) → IsTrue ((is_below d.temp x && true) && true)
  from_only x b h = alone _ (alone _ (readable_below x (left_holds _ b h)))

  to_from : (to x : Opnd) → IsTrue (is_writable w d to && (is_readable w d x && true)) →
      IsTrue ((is_below d.temp x && true) && (is_below d.temp to && true))
  to_from to x h =
      let r = right_holds (is_writable w d to) (is_readable w d x && true) h in
      both_hold _ _ (alone _ (readable_below x (left_holds _ true r)))
      (alone _ (writable_below to (left_holds _ (is_readable w d x && true) h)))

  two : (x y : Opnd) (b : Bool) → IsTrue (is_readable w d x && (is_readable w d y && b)) →
      IsTrue ((is_below d.temp x && (is_below d.temp y && true)) && true)
  two x y b h =
      let r = right_holds (is_readable w d x) (is_readable w d y && b) h in
      alone _ (both _ _ (readable_below x (left_holds _ (is_readable w d y && b) h))
      (readable_below y (left_holds _ b r)))

  to_two : (to x y : Opnd) → IsTrue (is_writable w d to && (is_readable w d x && (is_readable w d y && true))) →
      IsTrue ((is_below d.temp x && (is_below d.temp y && true)) && (is_below d.temp to && true))
  to_two to x y h =
      let r = right_holds (is_writable w d to) (is_readable w d x && (is_readable w d y && true)) h in
      let s = right_holds (is_readable w d x) (is_readable w d y && true) r in
      both_hold _ _ (both _ _ (readable_below x (left_holds _ (is_readable w d y && true) r))
      (readable_below y (left_holds _ true s)))
      (alone _ (writable_below to (left_holds _ (is_readable w d x && (is_readable w d y && true)) h)))

  one_below : (one : Instr) → IsTrue (may_name w d one) → IsTrue (has_temps_below d.temp one)
  one_below (Sll rd rt n) h = to_from rd rt h
  one_below (Srl rd rt n) h = to_from rd rt h
  one_below (Sra rd rt n) h = to_from rd rt h
  one_below (Mfhi rd) h = to_only rd true h
  one_below (Mflo rd) h = to_only rd true h
  one_below (Mult rs rt) h = two rs rt true h
  one_below (Div rs rt) h = two rs rt true h
  one_below (Add rd rs rt) h = to_two rd rs rt h
  one_below (Sub rd rs rt) h = to_two rd rs rt h
  one_below (Addu rd rs rt) h = to_two rd rs rt h
  one_below (Subu rd rs rt) h = to_two rd rs rt h
  one_below (And rd rs rt) h = to_two rd rs rt h
  one_below (Or rd rs rt) h = to_two rd rs rt h
  one_below (Xor rd rs rt) h = to_two rd rs rt h
  one_below (Nor rd rs rt) h = to_two rd rs rt h
  one_below (Slt rd rs rt) h = to_two rd rs rt h
  one_below (Sltu rd rs rt) h = to_two rd rs rt h
  one_below (Addi rt rs n) h = to_from rt rs h
  one_below (Addiu rt rs n) h = to_from rt rs h
  one_below (Slti rt rs n) h = to_from rt rs h
  one_below (Sltiu rt rs n) h = to_from rt rs h
  one_below (Andi rt rs n) h = to_from rt rs h
  one_below (Ori rt rs n) h = to_from rt rs h
  one_below (Xori rt rs n) h = to_from rt rs h
  one_below (Lui rt n) h = to_only rt true h
  one_below (Lb rt n rs) h = to_from rt rs h
  one_below (Lbu rt n rs) h = to_from rt rs h
  one_below (Lw rt n rs) h = to_from rt rs h
  one_below (Sb rt n rs) h = two rt rs true h
  one_below (Sw rt n rs) h = two rt rs true h
  one_below (Move to from) h = to_from to from h
  one_below (FrameLoad to k) h = to_only to (w.is_slot k) h
  one_below (FrameStore from k) h = from_only from (w.is_slot k) h
  one_below (FrameAddress to) h = to_only to true h
  one_below (Address to label) h = to_only to (w.is_name (literal label.0)) h
  one_below (Branch test m) h = two test.left test.right _ h
  one_below _ h = refl

temp_allowed : (temps : ℕ) (names : List Named) → ((i : ℕ) → Contains names (temporary i) → i < temps) →
    NamesAreAllowed (temps_below temps) names
temp_allowed temps names h (function label) c = refl
temp_allowed temps names h (literal label) c = refl
temp_allowed temps names h (fault n) c = refl
temp_allowed temps names h (temporary i) c = is_less i temps (h i c)
temp_allowed temps names h (constant n) c = refl

pub temps_are_below : (f : Function (List Linear)) → temp_bound f.params ≤ f.temps →
    HasItsTemps (λ body. named_flat body []) f →
    IsTrue (list_all (has_temps_below (munched f).drawn.temp) (munched f).code)
temps_are_below f le temps =
    let w = scope f any_slot (temps_below f.temps) (λ k h. refl) in
    let d = (munched f).drawn in
    let names = temp_allowed f.temps (named_flat f.body []) temps in
    let here = temps_pass w f.params f.temps (λ t h. is_less t f.temps h) (λ k. refl) le in
    let grown = (lays_body w f.params f.body here (pass_code w f.body names (λ m c. refl)) (start f)).grows in
    all_imply (may_name w d) (has_temps_below d.temp) (one_below w d f.temps (λ i. refl) grown.temp) (munched f).code
    (named_in f any_slot (temps_below f.temps) (λ k h. refl) names here)
