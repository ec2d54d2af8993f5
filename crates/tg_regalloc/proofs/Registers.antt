-- The registers and the slots that code in the frame names.
use Rattle.std.proofs.Common.{ℕ, ◌≡◌, ◌+◌, List, [], ◌∷◌, Bool, true, false, Option, Some, None, refl, arith}
use Rattle.std.specs.Prelude.{IsTrue, nat_lt}
use Rattle.std.specs.List.{list_all}
use Rattle.std.proofs.lemmas.Bool.Decides.{nat_tests}
use Rattle.tg_tree.specs.declared.operators.Rel.{Rel}
use Rattle.tg_instr.specs.declared.operands.Opnd.{Opnd}
use Rattle.tg_instr.specs.declared.operands.Opnd.TheVariants.{Temp, Reg}
use Rattle.tg_instr.specs.declared.instr.Test.{Test}
use Rattle.tg_instr.specs.declared.instr.Instr.{Instr}
use Rattle.tg_instr.specs.declared.instr.Instr.TheVariants.{Move, FrameLoad, FrameStore, Branch}
use Rattle.tg_instr.specs.Operands.{is_one_row}
use Rattle.tg_instr.specs.Codes.{is_below, is_register, has_temps_below, has_registers_alone, has_slots_below, is_allocated, has_register, names_registers}
use Rattle.tg_instr.specs.Renaming.{named, renamed, tested, stays_one_row}
use Rattle.tg_instr.specs.Uses.{uses_of, defs_of}
use Rattle.tg_instr.proofs.Tests.{left_holds, right_holds, both_hold, all_append}
use Rattle.tg_regalloc.specs.Conditions.{is_fixed}
use Rattle.tg_regalloc.specs.glue.Below.{is_option_below}
use Rattle.tg_regalloc.specs.mirror.InFrame.{through_named, loaded, stored, moved, through_slots, instruction_in_frame, code_in_frame}
use Rattle.tg_regalloc.proofs.Naming.{to_below, first_below, second_below, stays}
use Rattle.tg_regalloc.proofs.RegisterNames.{fixed_allocated, names_weaker, names_renamed}

-- the register through which an operand goes
abbrev number : ℕ → Option Opnd → ℕ
number r (Some (Temp t)) = r
number r (Some (Reg q)) = q
number r None = r

through_is : (r : ℕ) (o : Option Opnd) → through_named r o ≡ Reg (number r o)
through_is r (Some (Temp t)) = refl
through_is r (Some (Reg q)) = refl
through_is r None = refl

-- registers alone
alone_tested : (rel : Rel) (b c m : ℕ) (fits : Bool) (e : is_one_row rel (Reg b) (Reg c) ≡ fits) (test : Test) → IsTrue fits →
    IsTrue (has_registers_alone (Branch (tested rel (Reg b) (Reg c) fits e test) m))
alone_tested rel b c m true e test f = refl
alone_tested rel b c m false e test f = cc

pub alone_renamed : (one : Instr) (a b c : ℕ) → IsTrue (stays_one_row one (Reg b) (Reg c)) → IsTrue (has_registers_alone (renamed one (Reg a) (Reg b) (Reg c)))
alone_renamed (Branch test m) a b c f = alone_tested test.rel b c m (is_one_row test.rel (Reg b) (Reg c)) refl test f
alone_renamed _ a b c f = refl

register_below : (n : ℕ) (x : Opnd) → IsTrue (is_register x) → IsTrue (is_below n x)
register_below n (Temp t) h = cc
register_below n (Reg r) h = refl

registers_below : (n : ℕ) (xs : List Opnd) → IsTrue (list_all is_register xs) → IsTrue (list_all (is_below n) xs)
registers_below n [] h = refl
registers_below n (x ∷ xs) h = both_hold _ _ (register_below n x (left_holds _ _ h)) (registers_below n xs (right_holds (is_register x) _ h))

pub alone_below : (n : ℕ) (list : List Instr) → IsTrue (list_all has_registers_alone list) → IsTrue (list_all (has_temps_below n) list)
alone_below n [] h = refl
alone_below n (one ∷ rest) h =
    let here : IsTrue (has_registers_alone one) = left_holds _ _ h in
    both_hold _ _ (both_hold _ _ (registers_below n (uses_of one) (left_holds _ _ here))
    (registers_below n (defs_of one) (right_holds (list_all is_register (uses_of one)) _ here)))
    (alone_below n rest (right_holds (has_registers_alone one) _ h))

-- a renamed instruction's slots are those that it had
slots_renamed : (base temps : ℕ) (one : Instr) (x y z : Opnd) → IsTrue (has_slots_below base one) → IsTrue (has_slots_below (base + temps) (renamed one x y z))
slots_renamed base temps (FrameLoad to k) x y z h = grind (arith, nat_tests)
slots_renamed base temps (FrameStore from k) x y z h = grind (arith, nat_tests)
slots_renamed base temps _ x y z h = refl

slot_below : (base temps t : ℕ) → IsTrue (nat_lt t temps) → IsTrue (nat_lt (base + t) (base + temps))
slot_below base temps t h = grind (arith, nat_tests)

-- what holds of the loads, the renamed instruction and the stores holds of all
abbrev Good : (Instr → Bool) → ℕ → ℕ → Type 0
Good p base temps = (r t : ℕ) → IsTrue (is_allocated r) → IsTrue (nat_lt t temps) → IsTrue (p (FrameLoad (Reg r) (base + t))) ×
    IsTrue (p (FrameStore (Reg r) (base + t)))

good_loaded : (p : Instr → Bool) (base temps r : ℕ) → Good p base temps → IsTrue (is_allocated r) → (o : Option Opnd) → IsTrue (is_option_below temps o) →
    IsTrue (list_all p (loaded base r o))
good_loaded p base temps r good free (Some (Temp t)) h = both_hold _ _ (good r t.0 free h).0 refl
good_loaded p base temps r good free (Some (Reg q)) h = refl
good_loaded p base temps r good free None h = refl

good_stored : (p : Instr → Bool) (base temps r : ℕ) → Good p base temps → IsTrue (is_allocated r) → (o : Option Opnd) → IsTrue (is_option_below temps o) →
    IsTrue (list_all p (stored base r o))
good_stored p base temps r good free (Some (Temp t)) h = both_hold _ _ (good r t.0 free h).1 refl
good_stored p base temps r good free (Some (Reg q)) h = refl
good_stored p base temps r good free None h = refl

good_moved : (p : Instr → Bool) (base temps : ℕ) → Good p base temps → (to from : Opnd) → IsTrue (is_option_below temps (Some to)) →
    IsTrue (is_option_below temps (Some from)) → IsTrue (has_register is_fixed (Some to)) → IsTrue (has_register is_fixed (Some from)) →
    ((r q : ℕ) → IsTrue (is_allocated r) → IsTrue (is_allocated q) → IsTrue (p (Move (Reg r) (Reg q)))) → IsTrue (list_all p (moved base to from))
good_moved p base temps good (Temp t) (Temp s) h k f g m = both_hold _ _ (good 8 s.0 refl k).0 (both_hold _ _ (good 8 t.0 refl h).1 refl)
good_moved p base temps good (Temp t) (Reg q) h k f g m = both_hold _ _ (good q t.0 (fixed_allocated q g) h).1 refl
good_moved p base temps good (Reg r) (Temp s) h k f g m = both_hold _ _ (good r s.0 (fixed_allocated r f) k).0 refl
good_moved p base temps good (Reg r) (Reg q) h k f g m = both_hold _ _ (m r q (fixed_allocated r f) (fixed_allocated q g)) refl

good_through : (p : Instr → Bool) (base temps : ℕ) → Good p base temps → (one : Instr) → IsTrue (has_temps_below temps one) →
    IsTrue (p (renamed one (through_named 8 (named one).to) (through_named 8 (named one).first) (through_named 9 (named one).second))) →
    IsTrue (list_all p (through_slots base one (named one)))
good_through p base temps good one below here =
    all_append p (loaded base 8 (named one).first) _ (good_loaded p base temps 8 good refl (named one).first (first_below temps one below))
    (all_append p (loaded base 9 (named one).second) _ (good_loaded p base temps 9 good refl (named one).second (second_below temps one below))
    (both_hold _ _ here (good_stored p base temps 8 good refl (named one).to (to_below temps one below))))

good_one : (p : Instr → Bool) (base temps : ℕ) → Good p base temps →
    ((r q : ℕ) → IsTrue (is_allocated r) → IsTrue (is_allocated q) → IsTrue (p (Move (Reg r) (Reg q)))) → (one : Instr) →
    IsTrue (has_temps_below temps one) → IsTrue (names_registers is_fixed one) →
    IsTrue (p (renamed one (through_named 8 (named one).to) (through_named 8 (named one).first) (through_named 9 (named one).second))) →
    IsTrue (list_all p (instruction_in_frame base one))
good_one p base temps good m (Move to from) below fixed here =
    good_moved p base temps good to from (to_below temps (Move to from) below) (first_below temps (Move to from) below)
    (left_holds _ _ fixed) (left_holds _ _ (right_holds (has_register is_fixed (Some to)) _ fixed)) m
good_one p base temps good m one below fixed here = good_through p base temps good one below here

-- a test that loads, stores and moves pass, and each renamed instruction
pub good_code : (p q : Instr → Bool) (base temps : ℕ) → Good p base temps →
    ((r q : ℕ) → IsTrue (is_allocated r) → IsTrue (is_allocated q) → IsTrue (p (Move (Reg r) (Reg q)))) →
    ((one : Instr) → IsTrue (q one) → IsTrue (names_registers is_fixed one) →
    IsTrue (p (renamed one (through_named 8 (named one).to) (through_named 8 (named one).first) (through_named 9 (named one).second)))) →
    (list : List Instr) → IsTrue (list_all (has_temps_below temps) list) → IsTrue (list_all (names_registers is_fixed) list) → IsTrue (list_all q list) →
    IsTrue (list_all p (code_in_frame base list))
good_code p q base temps good m here [] below fixed h = refl
good_code p q base temps good m here (one ∷ rest) below fixed h =
    all_append p (instruction_in_frame base one) (code_in_frame base rest)
    (good_one p base temps good m one (left_holds _ _ below) (left_holds _ _ fixed) (here one (left_holds _ _ h) (left_holds _ _ fixed)))
    (good_code p q base temps good m here rest (right_holds (has_temps_below temps one) _ below)
    (right_holds (names_registers is_fixed one) _ fixed) (right_holds (q one) _ h))

abbrev always : Instr → Bool
always one = true

all_always : (list : List Instr) → IsTrue (list_all always list)
all_always [] = refl
all_always (one ∷ rest) = all_always rest

-- registers alone
renamed_alone : (one : Instr) →
    IsTrue (has_registers_alone (renamed one (through_named 8 (named one).to) (through_named 8 (named one).first) (through_named 9 (named one).second)))
renamed_alone one =
    let f = stays one in
    rw (through_is 8 (named one).to, through_is 8 (named one).first, through_is 9 (named one).second)
    (alone_renamed one (number 8 (named one).to) (number 8 (named one).first) (number 9 (named one).second)
    (rw (← through_is 8 (named one).first, ← through_is 9 (named one).second) f))

pub registers_alone : (base temps : ℕ) (list : List Instr) → IsTrue (list_all (has_temps_below temps) list) →
    IsTrue (list_all (names_registers is_fixed) list) → IsTrue (list_all has_registers_alone (code_in_frame base list))
registers_alone base temps list below fixed =
    good_code has_registers_alone always base temps (λ r t a h. (refl, refl)) (λ r q a b. refl) (λ one h g. renamed_alone one)
    list below fixed (all_always list)

through_allocated : (r : ℕ) → IsTrue (is_allocated r) → (o : Option Opnd) → IsTrue (has_register is_fixed o) →
    IsTrue (has_register is_allocated (Some (through_named r o)))
through_allocated r free (Some (Temp t)) h = free
through_allocated r free (Some (Reg q)) h = fixed_allocated q h
through_allocated r free None h = free

renamed_names : (one : Instr) → IsTrue (names_registers is_fixed one) →
    IsTrue (names_registers is_allocated (renamed one (through_named 8 (named one).to) (through_named 8 (named one).first)
    (through_named 9 (named one).second)))
renamed_names one h =
    let rest = right_holds (has_register is_fixed (named one).to) _ h in
    names_renamed is_allocated one _ _ _ (names_weaker is_fixed is_allocated fixed_allocated one h)
    (through_allocated 8 refl (named one).to (left_holds _ _ h)) (through_allocated 8 refl (named one).first (left_holds _ _ rest))
    (through_allocated 9 refl (named one).second (right_holds (has_register is_fixed (named one).first) _ rest))

pub registers_allocated : (base temps : ℕ) (list : List Instr) → IsTrue (list_all (has_temps_below temps) list) →
    IsTrue (list_all (names_registers is_fixed) list) → IsTrue (list_all (names_registers is_allocated) (code_in_frame base list))
registers_allocated base temps list below fixed =
    good_code (names_registers is_allocated) always base temps (λ r t a h. (both_hold _ _ a refl, both_hold _ _ refl (both_hold _ _ a refl)))
    (λ r q a b. both_hold _ _ a (both_hold _ _ b refl)) (λ one h g. renamed_names one g) list below fixed (all_always list)

pub slots_below : (base temps : ℕ) (list : List Instr) → IsTrue (list_all (has_temps_below temps) list) →
    IsTrue (list_all (names_registers is_fixed) list) → IsTrue (list_all (has_slots_below base) list) →
    IsTrue (list_all (has_slots_below (base + temps)) (code_in_frame base list))
slots_below base temps list below fixed h =
    good_code (has_slots_below (base + temps)) (has_slots_below base) base temps
    (λ r t a lt. (slot_below base temps t lt, slot_below base temps t lt)) (λ r q a b. refl)
    (λ one k g. slots_renamed base temps one _ _ _ k) list below fixed h
