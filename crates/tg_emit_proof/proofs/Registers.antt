-- Registers of code that get a content.
use Rattle.std.proofs.Common.{ℕ, ◌≡◌, ◌≢◌, ◌<◌, ◌^◌, ◌==◌, List, length, refl, sym, ◌∙◌, subst, arith, eqb-true, Bool}
use Rattle.std.proofs.Common.{true, false}
use Rattle.std.proofs.lemmas.Bool.Decides.{nat_tests}
use Rattle.std.proofs.lemmas.Grind.{common_steps}
use Rattle.std.proofs.lemmas.List.{get_or-set_same, get_or-set_other}
use Rattle.std.proofs.lemmas.List.Elements.{All-set}
use Rattle.std.specs.Prelude.{All, IsTrue, if◌then◌else◌, slice_index, slice_set}
use Rattle.tg_machine_state.specs.State.{MachineState, register, set_register}
use Rattle.tg_simulation.specs.Ran.{Ended, Wrong, WantsFuel}
use Rattle.tg_machine_state.specs.Services as machine
use Rattle.tg_machine_state.specs.Services.{Step}
use Rattle.tg_tree.specs.Memory.{Memory}
use Rattle.tg_tree.specs.Actions.{Activation}
use Rattle.tg_tree.specs.Operators.{Given, word, stops_by}
use Rattle.tg_instr.specs.declared.operands.Opnd.{Opnd}
use Rattle.tg_instr.specs.declared.operands.Opnd.TheVariants.{Reg}
use Rattle.tg_instr.specs.Shapes.{Operand}
use Rattle.tg_instr.specs.Contents.{Content, Word, Contents, set, held}
use Rattle.tg_instr.specs.Codes.{is_allocated, is_register_of}
use Rattle.tg_emit_proof.specs.Setting.{Setting}
use Rattle.tg_emit_proof.specs.glue.Standing.{Finds, IsHeld, HasRegisters, HasMemory, HasSizes}
use Rattle.tg_emit_proof.proofs.Basics.{no_true}

-- a register that code may name
abbrev pub IsNamed : Opnd → Type 0
IsNamed x = IsTrue (is_register_of is_allocated x)

-- no code over registers names $at
pub not_at : (r : ℕ) → IsTrue (is_allocated r) → r ≢ 1
not_at r n e = no_true (subst (λ q. is_allocated q ≡ true) e n)

-- another register stays
pub other_register :
    (s : MachineState) (r q v : ℕ) → q ≢ r → register (set_register s r v) q ≡ register s q
other_register s r q v h = by (r == 0)
  where
    by :
        (b : Bool) →
        register (if b then s else record s { registers = slice_set s.registers r v }) q ≡ register s q
    by true = refl
    by false = get_or-set_other s.registers r q v 0 h

other_than : (q r : ℕ) → (q == r) ≡ false → q ≢ r
other_than q r h e = grind (arith, nat_tests, h, e)

-- a register of code gets a content
module _ (found : ℕ → ℕ) (a : Activation) (contents : Contents) (s : MachineState)
    (has : HasRegisters found a contents s) where
  pub got : (r v : ℕ) (c : Content) → IsTrue (is_allocated r) → (r == 29) ≡ false → IsHeld found c v → v < 2 ^ 32 →
      HasRegisters found a (set (Operand (Reg r)) c contents) (set_register s r v)
  got r v c n p h k = by (r == 0) refl
    where
      below : r < 32
      below = grind (arith, nat_tests, n)

      one : (q : ℕ) → IsTrue (is_allocated q) → (r == 0) ≡ false → (x : Bool) → (q == 0) ≡ x → (y : Bool) →
          (q == 29) ≡ y → (z : Bool) → (q == r) ≡ z →
          IsHeld found (if x then Word 0 else if y then held a contents
          (Operand (Reg 29)) else if z then c else contents (Operand (Reg q)))
          (slice_index (slice_set s.registers r v) q)
      one q m o true e y f z g =
          let w : 0 ≢ r = λ i. other_than r 0 o (sym i) in
          subst (λ i. slice_index (slice_set s.registers r v) i ≡ 0) (sym (eqb-true q 0 e))
          (get_or-set_other s.registers r 0 v 0 w ∙ has.each 0 refl)
      one q m o false e true f z g =
          let w : 29 ≢ r = λ i. other_than r 29 p (sym i) in
          subst (λ i. IsHeld found (held a contents (Operand (Reg 29))) (slice_index (slice_set s.registers r v) i))
          (sym (eqb-true q 29 f))
          (subst (λ u. IsHeld found (held a contents (Operand (Reg 29))) u)
          (sym (get_or-set_other s.registers r 29 v 0 w)) (has.each 29 refl))
      one q m o false e false f true g =
          subst (λ i. IsHeld found c (slice_index (slice_set s.registers r v) i)) (sym (eqb-true q r g))
          (subst (λ u. IsHeld found c u)
          (sym (get_or-set_same s.registers r v 0 (let l = has.count in let b = below in omega (arith, l, b)))) h)
      one q m o false e false f false g =
          let same : held a contents (Operand (Reg q)) ≡ contents (Operand (Reg q)) = rw (e, f) refl in
          subst (λ u. IsHeld found (contents (Operand (Reg q))) u)
          (sym (get_or-set_other s.registers r q v 0 (other_than q r g)))
          (subst (λ d. IsHeld found d (register s q)) same (has.each q m))

      kept : (q : ℕ) → IsTrue (is_allocated q) → (r == 0) ≡ true → (x : Bool) → (q == 0) ≡ x → (y : Bool) →
          (q == 29) ≡ y → (z : Bool) → (q == r) ≡ z →
          IsHeld found (if x then Word 0 else if y then held a contents
          (Operand (Reg 29)) else if z then c else contents (Operand (Reg q))) (register s q)
      kept q m o true e y f z g = subst (λ i. register s i ≡ 0) (sym (eqb-true q 0 e)) (has.each 0 refl)
      kept q m o false e true f z g =
          subst (λ i. IsHeld found (held a contents (Operand (Reg 29))) (register s i)) (sym (eqb-true q 29 f))
          (has.each 29 refl)
      kept q m o false e false f true g = absurd (no_true (sym e ∙ eq_zero q r o g))
        where
          eq_zero : (q r : ℕ) → (r == 0) ≡ true → (q == r) ≡ true → (q == 0) ≡ true
          eq_zero q r o g = grind (arith, nat_tests, o, g)
      kept q m o false e false f false g =
          let same : held a contents (Operand (Reg q)) ≡ contents (Operand (Reg q)) = rw (e, f) refl in
          subst (λ d. IsHeld found d (register s q)) same (has.each q m)

      by : (b : Bool) → (r == 0) ≡ b →
          HasRegisters found a (set (Operand (Reg r)) c contents) (if b then s else record s {
            registers =
                slice_set s.registers r v;
          })
      by true o = record {
        count = has.count;
        words = has.words;
        each = λ q m. kept q m o (q == 0) refl (q == 29) refl (q == r) refl;
        high = has.high;
        low = has.low;
        high_word = has.high_word;
        low_word = has.low_word;
      }
      by false o = record {
        count = (let l : length (slice_set s.registers r v) ≡ length s.registers = grind (arith, common_steps) in l)
            ∙ has.count;
        words = All-set (λ u. u < 2 ^ 32) s.registers r v k has.words;
        each = λ q m. one q m o (q == 0) refl (q == 29) refl (q == r) refl;
        high = has.high;
        low = has.low;
        high_word = has.high_word;
        low_word = has.low_word;
      }

-- what a row does of what its instruction gives
abbrev pub given_step : MachineState → (r : ℕ) → Given → Step
given_step s r (word v) = machine.Goes (set_register s r v)
given_step s r (stops_by (Ended e)) = machine.Ends e
given_step s r (stops_by _) = machine.Goes s

abbrev pub IsGivenWord : Given → Type 0
IsGivenWord (word v) = v < 2 ^ 32
IsGivenWord (stops_by (Ended e)) = Unit {0}
IsGivenWord (stops_by Wrong) = Unit {0}
IsGivenWord (stops_by WantsFuel) = ⊥

-- memory and sizes are the same where registers alone differ
module _ (t : MachineState) (rs : List ℕ) (high low : ℕ) where
  abbrev pub with_registers : MachineState
  with_registers = record t { registers = rs; hi = high; lo = low }

  pub sizes_stay : (g : Setting) → HasSizes g t → HasSizes g with_registers
  sizes_stay g h = record { heap = h.heap; taken = h.taken; whole = h.whole; statics = h.statics }

  pub memory_stays : (finds : Finds) (m : Memory) → HasMemory finds m t → HasMemory finds m with_registers
  memory_stays finds m h = record {
    statics = h.statics;
    heap = h.heap;
    stack = h.stack;
    cells = h.cells;
    whole_statics = h.whole_statics;
    whole_heap = h.whole_heap;
  }

-- $at is free
pub at_free : (found : ℕ → ℕ) (a : Activation) (contents : Contents) (s : MachineState) (v : ℕ) → v < 2 ^ 32 →
    HasRegisters found a contents s → HasRegisters found a contents (set_register s 1 v)
at_free found a contents s v f has = record {
  count = (let l : length (slice_set s.registers 1 v) ≡ length s.registers = grind (arith, common_steps) in l)
      ∙ has.count;
  words = All-set (λ u. u < 2 ^ 32) s.registers 1 v f has.words;
  each = λ r n. subst (λ u. IsHeld found (held a contents (Operand (Reg r))) u)
      (sym (other_register s 1 r v (not_at r n))) (has.each r n);
  high = has.high;
  low = has.low;
  high_word = has.high_word;
  low_word = has.low_word;
}

-- A state in which $at has a number, where a row can't hold it.
abbrev pub with_number : (near : Bool) → MachineState → (number : ℕ) → MachineState
with_number near s n = record s { registers = if near then s.registers else slice_set s.registers 1 n }

pub numbered : (near : Bool) (found : ℕ → ℕ) (a : Activation) (contents : Contents) (s : MachineState) (n : ℕ) →
    n < 2 ^ 32 → HasRegisters found a contents s → HasRegisters found a contents (with_number near s n)
numbered true found a contents s n f has = record {
  count = has.count;
  words = has.words;
  each = has.each;
  high = has.high;
  low = has.low;
  high_word = has.high_word;
  low_word = has.low_word;
}
numbered false found a contents s n f has = at_free found a contents s n f has

-- and $sp another word
abbrev pub moved : (near : Bool) → MachineState → (number sp : ℕ) → MachineState
moved near s n v = set_register (with_number near s n) 29 v

set_length : (rs : List ℕ) (i v : ℕ) → length (slice_set rs i v) ≡ length rs
set_length rs i v = grind (arith, common_steps)

pub moved_count : (near : Bool) (s : MachineState) (n v : ℕ) → length s.registers ≡ 32 →
    length (moved near s n v).registers ≡ 32
moved_count true s n v c = set_length s.registers 29 v ∙ c
moved_count false s n v c = set_length (slice_set s.registers 1 n) 29 v ∙ (set_length s.registers 1 n ∙ c)

pub moved_words : (near : Bool) (s : MachineState) (n v : ℕ) → n < 2 ^ 32 → v < 2 ^ 32 →
    All (λ u. u < 2 ^ 32) s.registers → All (λ u. u < 2 ^ 32) (moved near s n v).registers
moved_words true s n v k l h = All-set (λ u. u < 2 ^ 32) s.registers 29 v l h
moved_words false s n v k l h =
    All-set (λ u. u < 2 ^ 32) (slice_set s.registers 1 n) 29 v l (All-set (λ u. u < 2 ^ 32) s.registers 1 n k h)

pub moved_stack : (near : Bool) (s : MachineState) (n v : ℕ) → length s.registers ≡ 32 →
    register (moved near s n v) 29 ≡ v
moved_stack true s n v c = get_or-set_same s.registers 29 v 0 (omega (arith, c))
moved_stack false s n v c =
    let e = set_length s.registers 1 n in
    get_or-set_same (slice_set s.registers 1 n) 29 v 0 (omega (arith, c, e))

pub moved_other : (near : Bool) (s : MachineState) (n v r : ℕ) → r ≢ 1 → r ≢ 29 →
    register (moved near s n v) r ≡ register s r
moved_other true s n v r a p = get_or-set_other s.registers 29 r v 0 p
moved_other false s n v r a p =
    get_or-set_other (slice_set s.registers 1 n) 29 r v 0 p ∙ get_or-set_other s.registers 1 r n 0 a
