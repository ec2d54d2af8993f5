-- Each instruction that is a row of the table and leads nowhere.
use Rattle.std.proofs.Common.{ℕ, ◌≡◌, ◌<◌, ◌*◌, ◌^◌, ◌==◌, ◌+ℤ◌, ◌-ℤ◌, List, [], ◌∷◌, ◌++◌, length, refl, ap, ◌∙◌}
use Rattle.std.proofs.Common.{subst, arith, Bool, true, false, Option, Some, None}
use Rattle.std.specs.Prelude.{All, if◌then◌else◌, bit_and, bit_or, bit_xor, nat_lt, get_or}
use Rattle.std.specs.List.{list_all}
use Rattle.tg_base.specs.Words.{add, sub, less, quot, rem, signed, exact_sum, exact_difference, product_high}
use Rattle.tg_base.specs.Words.{product_low, extended, extended_byte, shift_left, shift_right, shift_signed, neither}
use Rattle.tg_base.specs.Words.{flag}
use Rattle.tg_machine_state.specs.State.{MachineState, register, set_register}
use Rattle.tg_machine_state.specs.Services as machine_does
use Rattle.tg_machine_state.specs.declared.ends.RunEnd.TheVariants.{Break}
use Rattle.tg_simulation.specs.Ran.{Stop, Wrong}
use Rattle.tg_isa.specs.declared.mips.Mips.TheVariants as row
use Rattle.tg_isa.specs.Effects.{effect, put, put_exact, stored, extended_load}
use Rattle.tg_tree.specs.Memory as memory
use Rattle.tg_tree.specs.Memory.{Memory}
use Rattle.tg_tree.specs.Operators.{word, stops_by, exactly}
use Rattle.tg_instr.specs.declared.operands.Opnd.{Opnd}
use Rattle.tg_instr.specs.declared.instr.Instr.{Instr}
use Rattle.tg_instr.specs.declared.instr.Instr.TheVariants as instr
use Rattle.tg_instr.specs.Shapes.{unless_zero, with_sign}
use Rattle.tg_instr.proofs.Tests.{left_holds, right_holds}
use Rattle.tg_emit.specs.Ranges.{InstructionFits}
use Rattle.tg_emit.specs.mirror.Rows.{register_of}
use Rattle.tg_instr.specs.Codes.{is_allocated, is_register_of}
use Rattle.tg_emit_proof.specs.Setting.{Setting, from}
use Rattle.tg_emit_proof.specs.glue.Situation.{At, InstructionGoesOn}
use Rattle.tg_emit_proof.proofs.Basics.{some_is}
use Rattle.tg_emit_proof.proofs.Reaching.{load_there, load_byte_there, store_there, store_byte_there}
use Rattle.tg_emit_proof.proofs.Registers.{IsNamed, given_step}
use Rattle.tg_emit_proof.proofs.Straight.{ends_there, names, word_of, from_none, from_one, from_high, from_low}
use Rattle.tg_emit_proof.proofs.Straight.{from_two, copies, loads, saves, halves}
use Rattle.tg_emit_proof.proofs.WordsFit.{product_fits, exact_fits, flag_fits, sign_fits, shift_right_fits}
use Rattle.tg_emit_proof.proofs.WordsFit.{shift_signed_fits, quot_fits, rem_fits, and_fits, or_fits, xor_fits}
use Rattle.tg_emit_proof.proofs.WordsFit.{neither_fits}

pub two_named : (x y : Opnd) → list_all (is_register_of is_allocated) (x ∷ y ∷ []) ≡ true → IsNamed x × IsNamed y
two_named x y h =
    let l = right_holds (is_register_of is_allocated x) (list_all (is_register_of is_allocated) (y ∷ [])) h in (
      left_holds (is_register_of is_allocated x) (list_all (is_register_of is_allocated) (y ∷ [])) h,
      left_holds (is_register_of is_allocated y) true l,
    )

three_named : (x y z : Opnd) → list_all (is_register_of is_allocated) (x ∷ y ∷ z ∷ []) ≡ true → IsNamed x × IsNamed y
    × IsNamed z
three_named x y z h =
    let l = two_named y z (right_holds (is_register_of is_allocated x)
    (list_all (is_register_of is_allocated) (y ∷ z ∷ [])) h) in
    (left_holds (is_register_of is_allocated x) (list_all (is_register_of is_allocated) (y ∷ z ∷ [])) h, l.0, l.1)

-- an element of a list of which all are so
middle_there : {A : Type 0} (front rest : List A) (one : A) → get_or (front ++ one ∷ rest) (length front) one ≡ one
middle_there [] rest one = refl
middle_there (x ∷ front) rest one = middle_there front rest one

middle_short : {A : Type 0} (front rest : List A) (one : A) → length front < length (front ++ one ∷ rest)
middle_short [] rest one = omega arith
middle_short (x ∷ front) rest one = let h = middle_short front rest one in omega (arith, h)

pub fits_here : (g : Setting) (one : Instr) (k : At g one) → InstructionFits one
fits_here g one k =
    subst InstructionFits (middle_there k.stands.front k.rest one)
    (subst (λ l. All InstructionFits l) k.stands.code (k.known.numbers k.function k.stands.function)
    (length k.stands.front) one (middle_short k.stands.front k.rest one))

exact_is : (s : MachineState) (r : ℕ) (o : Option ℕ) → put_exact s r o ≡ given_step s r (exactly o)
exact_is s r (Some v) = refl
exact_is s r None = refl

half_fits : (n : ℕ) → n < 2 ^ 16 → n < 2 ^ 32
half_fits n h = omega (arith, h)

word_is : (u v : ℕ) → word u ≡ word v → u ≡ v
word_is u v h = cc

stop_is : (s t : Stop) → stops_by s ≡ stops_by t → t ≡ s
stop_is s t h = cc

module _ (g : Setting) where
  pub add_goes : (to x y : Opnd) → InstructionGoesOn g (instr.Add to x y)
  add_goes to x y k =
      let n = three_named x y to (names g (instr.Add to x y) k) in
      let u = register k.state (register_of x) in
      let v = register k.state (register_of y) in
      let h = word_of g (instr.Add to x y) k (register_of x) in
      let i = word_of g (instr.Add to x y) k (register_of y) in
      from_two g (instr.Add to x y) k to x y (λ a b. exactly (exact_sum a b))
      (row.Add (register_of to) (register_of x) (register_of y)) n.2 n.0 n.1
      (record { lines = refl; straight = refl }) (exact_is k.state (register_of to) (exact_sum u v))
      (exact_fits (signed u +ℤ signed v))

  pub sub_goes : (to x y : Opnd) → InstructionGoesOn g (instr.Sub to x y)
  sub_goes to x y k =
      let n = three_named x y to (names g (instr.Sub to x y) k) in
      let u = register k.state (register_of x) in
      let v = register k.state (register_of y) in
      let h = word_of g (instr.Sub to x y) k (register_of x) in
      let i = word_of g (instr.Sub to x y) k (register_of y) in
      from_two g (instr.Sub to x y) k to x y (λ a b. exactly (exact_difference a b))
      (row.Sub (register_of to) (register_of x) (register_of y)) n.2 n.0 n.1
      (record { lines = refl; straight = refl }) (exact_is k.state (register_of to) (exact_difference u v))
      (exact_fits (signed u -ℤ signed v))

  pub addu_goes : (to x y : Opnd) → InstructionGoesOn g (instr.Addu to x y)
  addu_goes to x y k =
      let n = three_named x y to (names g (instr.Addu to x y) k) in
      let u = register k.state (register_of x) in
      let v = register k.state (register_of y) in
      let h = word_of g (instr.Addu to x y) k (register_of x) in
      let i = word_of g (instr.Addu to x y) k (register_of y) in
      from_two g (instr.Addu to x y) k to x y (λ a b. word (add a b))
      (row.Addu (register_of to) (register_of x) (register_of y)) n.2 n.0 n.1
      (record { lines = refl; straight = refl }) (refl) (omega arith)

  pub subu_goes : (to x y : Opnd) → InstructionGoesOn g (instr.Subu to x y)
  subu_goes to x y k =
      let n = three_named x y to (names g (instr.Subu to x y) k) in
      let u = register k.state (register_of x) in
      let v = register k.state (register_of y) in
      let h = word_of g (instr.Subu to x y) k (register_of x) in
      let i = word_of g (instr.Subu to x y) k (register_of y) in
      from_two g (instr.Subu to x y) k to x y (λ a b. word (sub a b))
      (row.Subu (register_of to) (register_of x) (register_of y)) n.2 n.0 n.1
      (record { lines = refl; straight = refl }) (refl) (omega arith)

  pub and_goes : (to x y : Opnd) → InstructionGoesOn g (instr.And to x y)
  and_goes to x y k =
      let n = three_named x y to (names g (instr.And to x y) k) in
      let u = register k.state (register_of x) in
      let v = register k.state (register_of y) in
      let h = word_of g (instr.And to x y) k (register_of x) in
      let i = word_of g (instr.And to x y) k (register_of y) in
      from_two g (instr.And to x y) k to x y (λ a b. word (bit_and a b))
      (row.And (register_of to) (register_of x) (register_of y)) n.2 n.0 n.1
      (record { lines = refl; straight = refl }) (refl) (and_fits u v h)

  pub or_goes : (to x y : Opnd) → InstructionGoesOn g (instr.Or to x y)
  or_goes to x y k =
      let n = three_named x y to (names g (instr.Or to x y) k) in
      let u = register k.state (register_of x) in
      let v = register k.state (register_of y) in
      let h = word_of g (instr.Or to x y) k (register_of x) in
      let i = word_of g (instr.Or to x y) k (register_of y) in
      from_two g (instr.Or to x y) k to x y (λ a b. word (bit_or a b))
      (row.Or (register_of to) (register_of x) (register_of y)) n.2 n.0 n.1
      (record { lines = refl; straight = refl }) (refl) (or_fits u v h i)

  pub xor_goes : (to x y : Opnd) → InstructionGoesOn g (instr.Xor to x y)
  xor_goes to x y k =
      let n = three_named x y to (names g (instr.Xor to x y) k) in
      let u = register k.state (register_of x) in
      let v = register k.state (register_of y) in
      let h = word_of g (instr.Xor to x y) k (register_of x) in
      let i = word_of g (instr.Xor to x y) k (register_of y) in
      from_two g (instr.Xor to x y) k to x y (λ a b. word (bit_xor a b))
      (row.Xor (register_of to) (register_of x) (register_of y)) n.2 n.0 n.1
      (record { lines = refl; straight = refl }) (refl) (xor_fits u v h i)

  pub nor_goes : (to x y : Opnd) → InstructionGoesOn g (instr.Nor to x y)
  nor_goes to x y k =
      let n = three_named x y to (names g (instr.Nor to x y) k) in
      let u = register k.state (register_of x) in
      let v = register k.state (register_of y) in
      let h = word_of g (instr.Nor to x y) k (register_of x) in
      let i = word_of g (instr.Nor to x y) k (register_of y) in
      from_two g (instr.Nor to x y) k to x y (λ a b. word (neither a b))
      (row.Nor (register_of to) (register_of x) (register_of y)) n.2 n.0 n.1
      (record { lines = refl; straight = refl }) (refl) (neither_fits u v)

  pub slt_goes : (to x y : Opnd) → InstructionGoesOn g (instr.Slt to x y)
  slt_goes to x y k =
      let n = three_named x y to (names g (instr.Slt to x y) k) in
      let u = register k.state (register_of x) in
      let v = register k.state (register_of y) in
      let h = word_of g (instr.Slt to x y) k (register_of x) in
      let i = word_of g (instr.Slt to x y) k (register_of y) in
      from_two g (instr.Slt to x y) k to x y (λ a b. word (flag (less a b)))
      (row.Slt (register_of to) (register_of x) (register_of y)) n.2 n.0 n.1
      (record { lines = refl; straight = refl }) (refl) (flag_fits (less u v))

  pub sltu_goes : (to x y : Opnd) → InstructionGoesOn g (instr.Sltu to x y)
  sltu_goes to x y k =
      let n = three_named x y to (names g (instr.Sltu to x y) k) in
      let u = register k.state (register_of x) in
      let v = register k.state (register_of y) in
      let h = word_of g (instr.Sltu to x y) k (register_of x) in
      let i = word_of g (instr.Sltu to x y) k (register_of y) in
      from_two g (instr.Sltu to x y) k to x y (λ a b. word (flag (nat_lt a b)))
      (row.Sltu (register_of to) (register_of x) (register_of y)) n.2 n.0 n.1
      (record { lines = refl; straight = refl }) (refl) (flag_fits (nat_lt u v))

  pub sll_goes : (to x : Opnd) (n : ℕ) → InstructionGoesOn g (instr.Sll to x n)
  sll_goes to x n k =
      let m = two_named x to (names g (instr.Sll to x n) k) in
      let u = register k.state (register_of x) in
      let h = word_of g (instr.Sll to x n) k (register_of x) in
      let i = (fits_here g (instr.Sll to x n) k).row.2 in
      from_one g (instr.Sll to x n) k to x (λ a. word (shift_left a n))
      (row.Sll (register_of to) (register_of x) n) m.1 m.0
      (record { lines = refl; straight = refl }) (refl) (omega arith)

  pub srl_goes : (to x : Opnd) (n : ℕ) → InstructionGoesOn g (instr.Srl to x n)
  srl_goes to x n k =
      let m = two_named x to (names g (instr.Srl to x n) k) in
      let u = register k.state (register_of x) in
      let h = word_of g (instr.Srl to x n) k (register_of x) in
      let i = (fits_here g (instr.Srl to x n) k).row.2 in
      from_one g (instr.Srl to x n) k to x (λ a. word (shift_right a n))
      (row.Srl (register_of to) (register_of x) n) m.1 m.0
      (record { lines = refl; straight = refl }) (refl) (shift_right_fits u n h)

  pub sra_goes : (to x : Opnd) (n : ℕ) → InstructionGoesOn g (instr.Sra to x n)
  sra_goes to x n k =
      let m = two_named x to (names g (instr.Sra to x n) k) in
      let u = register k.state (register_of x) in
      let h = word_of g (instr.Sra to x n) k (register_of x) in
      let i = (fits_here g (instr.Sra to x n) k).row.2 in
      from_one g (instr.Sra to x n) k to x (λ a. word (shift_signed a n))
      (row.Sra (register_of to) (register_of x) n) m.1 m.0
      (record { lines = refl; straight = refl }) (refl) (shift_signed_fits u n h)

  pub addi_goes : (to x : Opnd) (n : ℕ) → InstructionGoesOn g (instr.Addi to x n)
  addi_goes to x n k =
      let m = two_named x to (names g (instr.Addi to x n) k) in
      let u = register k.state (register_of x) in
      let h = word_of g (instr.Addi to x n) k (register_of x) in
      let i = (fits_here g (instr.Addi to x n) k).row.2 in
      from_one g (instr.Addi to x n) k to x (λ a. exactly (exact_sum a (extended n)))
      (row.Addi (register_of to) (register_of x) n) m.1 m.0
      (record { lines = refl; straight = refl }) (exact_is k.state (register_of to) (exact_sum u (extended n)))
      (exact_fits (signed u +ℤ signed (extended n)))

  pub addiu_goes : (to x : Opnd) (n : ℕ) → InstructionGoesOn g (instr.Addiu to x n)
  addiu_goes to x n k =
      let m = two_named x to (names g (instr.Addiu to x n) k) in
      let u = register k.state (register_of x) in
      let h = word_of g (instr.Addiu to x n) k (register_of x) in
      let i = (fits_here g (instr.Addiu to x n) k).row.2 in
      from_one g (instr.Addiu to x n) k to x (λ a. word (add a (extended n)))
      (row.Addiu (register_of to) (register_of x) n) m.1 m.0
      (record { lines = refl; straight = refl }) (refl) (omega arith)

  pub slti_goes : (to x : Opnd) (n : ℕ) → InstructionGoesOn g (instr.Slti to x n)
  slti_goes to x n k =
      let m = two_named x to (names g (instr.Slti to x n) k) in
      let u = register k.state (register_of x) in
      let h = word_of g (instr.Slti to x n) k (register_of x) in
      let i = (fits_here g (instr.Slti to x n) k).row.2 in
      from_one g (instr.Slti to x n) k to x (λ a. word (flag (less a (extended n))))
      (row.Slti (register_of to) (register_of x) n) m.1 m.0
      (record { lines = refl; straight = refl }) (refl) (flag_fits (less u (extended n)))

  pub sltiu_goes : (to x : Opnd) (n : ℕ) → InstructionGoesOn g (instr.Sltiu to x n)
  sltiu_goes to x n k =
      let m = two_named x to (names g (instr.Sltiu to x n) k) in
      let u = register k.state (register_of x) in
      let h = word_of g (instr.Sltiu to x n) k (register_of x) in
      let i = (fits_here g (instr.Sltiu to x n) k).row.2 in
      from_one g (instr.Sltiu to x n) k to x (λ a. word (flag (nat_lt a (extended n))))
      (row.Sltiu (register_of to) (register_of x) n) m.1 m.0
      (record { lines = refl; straight = refl }) (refl) (flag_fits (nat_lt u (extended n)))

  pub andi_goes : (to x : Opnd) (n : ℕ) → InstructionGoesOn g (instr.Andi to x n)
  andi_goes to x n k =
      let m = two_named x to (names g (instr.Andi to x n) k) in
      let u = register k.state (register_of x) in
      let h = word_of g (instr.Andi to x n) k (register_of x) in
      let i = (fits_here g (instr.Andi to x n) k).row.2 in
      from_one g (instr.Andi to x n) k to x (λ a. word (bit_and a n))
      (row.Andi (register_of to) (register_of x) n) m.1 m.0
      (record { lines = refl; straight = refl }) (refl) (and_fits u n h)

  pub ori_goes : (to x : Opnd) (n : ℕ) → InstructionGoesOn g (instr.Ori to x n)
  ori_goes to x n k =
      let m = two_named x to (names g (instr.Ori to x n) k) in
      let u = register k.state (register_of x) in
      let h = word_of g (instr.Ori to x n) k (register_of x) in
      let i = (fits_here g (instr.Ori to x n) k).row.2 in
      from_one g (instr.Ori to x n) k to x (λ a. word (bit_or a n))
      (row.Ori (register_of to) (register_of x) n) m.1 m.0
      (record { lines = refl; straight = refl }) (refl) (or_fits u n h (half_fits n i))

  pub xori_goes : (to x : Opnd) (n : ℕ) → InstructionGoesOn g (instr.Xori to x n)
  xori_goes to x n k =
      let m = two_named x to (names g (instr.Xori to x n) k) in
      let u = register k.state (register_of x) in
      let h = word_of g (instr.Xori to x n) k (register_of x) in
      let i = (fits_here g (instr.Xori to x n) k).row.2 in
      from_one g (instr.Xori to x n) k to x (λ a. word (bit_xor a n))
      (row.Xori (register_of to) (register_of x) n) m.1 m.0
      (record { lines = refl; straight = refl }) (refl) (xor_fits u n h (half_fits n i))

  pub lui_goes : (to : Opnd) (n : ℕ) → InstructionGoesOn g (instr.Lui to n)
  lui_goes to n k =
      let m = names g (instr.Lui to n) k in
      let i = (fits_here g (instr.Lui to n) k).row.1 in
      from_none g (instr.Lui to n) k to (n * 65536) (row.Lui (register_of to) n)
      (left_holds (is_register_of is_allocated to) true m)
      (record { lines = refl; straight = refl }) refl (omega (arith, i))

  pub mfhi_goes : (to : Opnd) → InstructionGoesOn g (instr.Mfhi to)
  mfhi_goes to k =
      from_high g (instr.Mfhi to) k to (row.Mfhi (register_of to))
      (left_holds (is_register_of is_allocated to) true (names g (instr.Mfhi to) k))
      (record { lines = refl; straight = refl }) refl

  pub mflo_goes : (to : Opnd) → InstructionGoesOn g (instr.Mflo to)
  mflo_goes to k =
      from_low g (instr.Mflo to) k to (row.Mflo (register_of to))
      (left_holds (is_register_of is_allocated to) true (names g (instr.Mflo to) k))
      (record { lines = refl; straight = refl }) refl

  pub move_goes : (to x : Opnd) → InstructionGoesOn g (instr.Move to x)
  move_goes to x k =
      let n = two_named x to (names g (instr.Move to x) k) in
      let h = word_of g (instr.Move to x) k (register_of x) in
      let z : register k.state 0 ≡ 0 = k.stands.registers.each 0 refl in
      let same : add (register k.state 0) (register k.state (register_of x)) ≡ register k.state (register_of x) =
      omega (arith, z, h) in
      copies g (instr.Move to x) k to x (row.Addu (register_of to) 0 (register_of x)) n.1 n.0
      (record { lines = refl; straight = refl })
      (ap (λ v. machine_does.Goes (set_register k.state (register_of to) v)) same)

  -- loads and stores
  pub lw_goes : (to : Opnd) (n : ℕ) (base : Opnd) → InstructionGoesOn g (instr.Lw to n base)
  lw_goes to n base k =
      let m = two_named base to (names g (instr.Lw to n base) k) in
      loads g (instr.Lw to n base) k to base (extended n) memory.load
      (row.Lw (register_of to) n (register_of base)) m.1 m.0
      (record { lines = refl; straight = refl })
      (λ v e.
      let t = load_there g k.finds k.world.memory k.state k.stands.memory k.stands.sizes k.known.room_most
      k.known.stack_most
      (add (register k.state (register_of base)) (extended n)) v e in
      (ap (put k.state (register_of to)) t.0, t.1))

  pub lbu_goes : (to : Opnd) (n : ℕ) (base : Opnd) → InstructionGoesOn g (instr.Lbu to n base)
  lbu_goes to n base k =
      let m = two_named base to (names g (instr.Lbu to n base) k) in
      loads g (instr.Lbu to n base) k to base (extended n) memory.load_byte
      (row.Lbu (register_of to) n (register_of base)) m.1 m.0
      (record { lines = refl; straight = refl })
      (λ v e.
      let t = load_byte_there g k.finds k.world.memory k.state k.stands.memory k.stands.sizes k.known.room_most
      k.known.stack_most
      (add (register k.state (register_of base)) (extended n)) v e in
      let f = t.1 in (ap (put k.state (register_of to)) t.0, omega (arith, f)))

  pub lb_goes : (to : Opnd) (n : ℕ) (base : Opnd) → InstructionGoesOn g (instr.Lb to n base)
  lb_goes to n base k =
      let m = two_named base to (names g (instr.Lb to n base) k) in
      loads g (instr.Lb to n base) k to base (extended n) (λ m a. with_sign (memory.load_byte m a))
      (row.Lb (register_of to) n (register_of base)) m.1 m.0
      (record { lines = refl; straight = refl }) (λ v e. by v (memory.load_byte k.world.memory there) refl e)
    where
      there : ℕ
      there = add (register k.state (register_of base)) (extended n)

      by : (v : ℕ) (o : Option ℕ) → memory.load_byte k.world.memory there ≡ o → with_sign o ≡ Some v →
          (effect (row.Lb (register_of to) n (register_of base)) k.state
          ≡ machine_does.Goes (set_register k.state (register_of to) v)) × (v < 2 ^ 32)
      by v None e h = cc
      by v (Some b) e h =
          let t = load_byte_there g k.finds k.world.memory k.state k.stands.memory k.stands.sizes k.known.room_most
          k.known.stack_most there b e in
          let x = some_is (extended_byte b) v h in (
            ap (λ r. put k.state (register_of to) (extended_load r)) t.0
                ∙ ap (λ w. machine_does.Goes (set_register k.state (register_of to) w)) x,
            subst (λ w. w < 2 ^ 32) x (sign_fits b t.1),
          )

  pub sw_goes : (from : Opnd) (n : ℕ) (base : Opnd) → InstructionGoesOn g (instr.Sw from n base)
  sw_goes from n base k =
      let m = two_named from base (names g (instr.Sw from n base) k) in
      saves g (instr.Sw from n base) k from base (extended n) memory.store
      (row.Sw (register_of from) n (register_of base)) m.0 m.1
      (record { lines = refl; straight = refl })
      (λ after e.
      let t = store_there g k.finds k.world.memory k.state k.stands.memory k.stands.sizes k.known.room_most
      k.known.stack_most
      (add (register k.state (register_of base)) (extended n)) (register k.state (register_of from)) after
      (word_of g (instr.Sw from n base) k (register_of from)) e in
      (t.0, ap stored t.1, t.2))

  pub sb_goes : (from : Opnd) (n : ℕ) (base : Opnd) → InstructionGoesOn g (instr.Sb from n base)
  sb_goes from n base k =
      let m = two_named from base (names g (instr.Sb from n base) k) in
      saves g (instr.Sb from n base) k from base (extended n) memory.store_byte
      (row.Sb (register_of from) n (register_of base)) m.0 m.1
      (record { lines = refl; straight = refl })
      (λ after e.
      let t = store_byte_there g k.finds k.world.memory k.state k.stands.memory k.stands.sizes k.known.room_most
      k.known.stack_most
      (add (register k.state (register_of base)) (extended n)) (register k.state (register_of from)) after e in
      (t.0, ap stored t.1, t.2))

  -- products and quotients
  pub mult_goes : (x y : Opnd) → InstructionGoesOn g (instr.Mult x y)
  mult_goes x y k =
      let n = two_named x y (names g (instr.Mult x y) k) in
      let a = register k.state (register_of x) in
      let b = register k.state (register_of y) in
      let h = word_of g (instr.Mult x y) k (register_of x) in
      let i = word_of g (instr.Mult x y) k (register_of y) in
      halves g (instr.Mult x y) k x y (λ c d. word (product_low c d)) (λ c d. word (product_high c d))
      (row.Mult (register_of x) (register_of y)) n.0 n.1
      (record { lines = refl; straight = refl })
      (λ u v e f.
      let p = word_is (product_low a b) u e in
      let q = word_is (product_high a b) v f in
      let w : product_low a b < 2 ^ 32 = omega arith in (
        ap (λ z. machine_does.Goes (record k.state { hi = product_high a b; lo = z })) p
            ∙ ap (λ z. machine_does.Goes (record k.state { hi = z; lo = u })) q,
        subst (λ z. z < 2 ^ 32) p w,
        subst (λ z. z < 2 ^ 32) q (product_fits a b h i),
      ))
      (λ s e. cc) (λ s e. cc)

  pub div_goes : (x y : Opnd) → InstructionGoesOn g (instr.Div x y)
  div_goes x y k =
      let n = two_named x y (names g (instr.Div x y) k) in
      halves g (instr.Div x y) k x y (unless_zero quot) (unless_zero rem)
      (row.Div (register_of x) (register_of y)) n.0 n.1
      (record { lines = refl; straight = refl }) (λ u v e f. by u v (b == 0) e f)
      (λ s e. only (b == 0) (quot a b) s e) (λ s e. only (b == 0) (rem a b) s e)
    where
      a : ℕ
      a = register k.state (register_of x)

      b : ℕ
      b = register k.state (register_of y)

      only : (t : Bool) (q : ℕ) (s : Stop) → (if t then stops_by Wrong else word q) ≡ stops_by s → s ≡ Wrong
      only true q s e = stop_is Wrong s e
      only false q s e = cc

      by : (u v : ℕ) (t : Bool) → (if t then stops_by Wrong else word (quot a b)) ≡ word u →
          (if t then stops_by Wrong else word (rem a b)) ≡ word v →
          (machine_does.Goes (if t then k.state else record k.state { hi = rem a b; lo = quot a b })
          ≡ machine_does.Goes (record k.state { hi = v; lo = u }))
          × (u < 2 ^ 32) × (v < 2 ^ 32)
      by u v true e f = cc
      by u v false e f =
          let p = word_is (quot a b) u e in
          let q = word_is (rem a b) v f in
          let h = word_of g (instr.Div x y) k (register_of x) in (
            ap (λ z. machine_does.Goes (record k.state { hi = rem a b; lo = z })) p
                ∙ ap (λ z. machine_does.Goes (record k.state { hi = z; lo = u })) q,
            subst (λ z. z < 2 ^ 32) p (quot_fits a b h),
            subst (λ z. z < 2 ^ 32) q (rem_fits a b h),
          )

  pub fault_goes : (n : ℕ) → InstructionGoesOn g (instr.Fault n)
  fault_goes n k =
      ends_there g (instr.Fault n) k (row.Break n) (Break n) 1 (omega arith)
      (record { lines = refl; straight = refl }) refl
