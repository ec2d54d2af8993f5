-- Numbers and offsets of more than 16 bits, which go through $at.
use Rattle.std.proofs.Common.{ℕ, ◌≡◌, ◌<◌, ◌≤◌, ◌+◌, ◌*◌, ◌/◌, ◌%◌, ◌^◌, ◌==◌, List, [], ◌∷◌, ◌++◌, length, refl}
use Rattle.std.proofs.Common.{ap, sym, ◌∙◌, arith, Bool, true, false}
use Rattle.std.proofs.lemmas.Bool.Decides.{nat_tests}
use Rattle.std.proofs.lemmas.Grind.{common_steps, or_after_shift}
use Rattle.std.proofs.lemmas.List.{get_or-set_same, set-set}
use Rattle.std.specs.Prelude.{IsTrue, Ok, if◌then◌else◌, slice_set, nat_lt, bit_or}
use Rattle.tg_base.specs.Words.{add, extended}
use Rattle.tg_machine_state.specs.State.{MachineState, register, set_register, load_word, store_word}
use Rattle.tg_machine_state.specs.Services as machine
use Rattle.tg_simulation.specs.laws.Simulating.{Comes}
use Rattle.tg_simulation.proofs.Simulations.{comes_on}
use Rattle.tg_isa.specs.declared.mips.Mips.TheVariants as row
use Rattle.tg_isa.specs.Effects.{effect, put, stored, effective_address}
use Rattle.tg_isa.proofs.Anywhere.{load_word_seen}
use Rattle.tg_emit.specs.declared.assembly.Line.{Line}
use Rattle.tg_emit.specs.mirror.Lines.{alone, in_at, above_stack, load_at, store_at}
use Rattle.tg_instr.specs.Codes.{is_allocated}
use Rattle.tg_emit_proof.specs.Setting.{Setting, from}
use Rattle.tg_emit_proof.proofs.Registers.{other_register, with_number}
use Rattle.tg_emit_proof.proofs.Rows.{row_comes, comes_more}

-- A register gets a number of 32 bits in two halves.

halves : (n : ℕ) → n < 2 ^ 32 → bit_or (n / 65536 * 65536) (n % 65536) ≡ n
halves n h =
    let e : n / 65536 * 65536 % 2 ^ 32 ≡ n / 65536 * 65536 = omega (arith, h) in
    let w : n / 65536 * 65536 + n % 65536 ≡ n = omega arith in
    ap (λ v. bit_or v (n % 65536)) (sym e)
    ∙ (or_after_shift (n / 65536) 65536 (2 ^ 32) (n % 65536) refl (omega arith) (omega (arith, h)) ∙ w)

pub below : (r : ℕ) → IsTrue (is_allocated r) → r < 32
below r n = grind (arith, nat_tests, n)

-- a register that is set twice
set_again : (s : MachineState) (r u v : ℕ) → set_register (set_register s r u) r v ≡ set_register s r v
set_again s r u v = by (r == 0)
  where
    same : slice_set (slice_set s.registers r u) r v ≡ slice_set s.registers r v
    same = set-set s.registers r u v

    by : (b : Bool) →
        (if b then (if b then s else record s { registers = slice_set s.registers r u }) else
        record (if b then s else record s { registers = slice_set s.registers r u }) {
          registers = slice_set (if b then s else record s { registers = slice_set s.registers r u }).registers r v;
        })
        ≡ (if b then s else record s { registers = slice_set s.registers r v })
    by true = refl
    by false = ap (λ rs. record s { registers = rs }) same

pub set_halves : (s : MachineState) (r a : ℕ) → length s.registers ≡ 32 → r < 32 → a < 2 ^ 32 →
    set_register (set_register s r (a / 65536 * 65536)) r
    (bit_or (register (set_register s r (a / 65536 * 65536)) r) (a % 65536)) ≡ set_register s r a
set_halves s r a c l f = set_again s r (a / 65536 * 65536) _ ∙ by (r == 0) refl
  where
    high : ℕ
    high = a / 65536 * 65536

    by : (b : Bool) → (r == 0) ≡ b → set_register s r (bit_or (register (set_register s r high) r) (a % 65536))
        ≡ set_register s r a
    by true e = rw e refl
    by false e =
        let h : register (set_register s r high) r ≡ high =
        ap (λ (b : Bool). register (if b then s else record s { registers = slice_set s.registers r high }) r) e
        ∙ get_or-set_same s.registers r high 0 (omega (arith, c, l)) in
        ap (λ v. set_register s r v) (ap (λ v. bit_or v (a % 65536)) h ∙ halves a f)

module _ (g : Setting) where
  pub in_at_comes : (n : ℕ) (rest : List Line) (s : MachineState) (input : List ℕ) →
      length s.registers ≡ 32 → n < 2 ^ 32 →
      Comes 2 (from g (in_at n ++ rest) s input) (from g rest (set_register s 1 n) input)
  in_at_comes n rest s input count fits =
      let high : MachineState = set_register s 1 (n / 65536 * 65536) in
      comes_on 1 1 _ _ _
      (row_comes g (row.Lui 1 (n / 65536)) [] _ s high input refl refl)
      (row_comes g (row.Ori 1 1 (n % 65536)) [] rest high (set_register s 1 n) input refl
      (ap machine.Goes (set_halves s 1 n count (omega arith) fits)))

  -- a register gets $sp and a number
  pub above_comes : (r n v : ℕ) (rest : List Line) (s : MachineState) (input : List ℕ) →
      length s.registers ≡ 32 → n < 2 ^ 32 → add (register s 29) n ≡ v →
      Comes 3 (from g (above_stack r n ++ rest) s input)
      (from g rest (set_register (with_number (nat_lt n 32768) s n) r v) input)
  above_comes r n v rest s input count fits sum = by (nat_lt n 32768) refl
    where
      by : (b : Bool) → nat_lt n 32768 ≡ b →
          Comes 3
          (from g ((if b then alone (row.Addiu r 29 n) ∷ [] else in_at n ++ alone (row.Addu r 29 1) ∷ []) ++ rest) s
          input)
          (from g rest (set_register (with_number b s n) r v) input)
      by true e =
          let word : extended n ≡ n = rw e refl in
          comes_more 1 3 _ _ (omega arith)
          (row_comes g (row.Addiu r 29 n) [] rest s (set_register s r v) input refl
          (ap (λ u. machine.Goes (set_register s r u)) (ap (add (register s 29)) word ∙ sum)))
      by false e =
          let t : MachineState = set_register s 1 n in
          let sp : register t 29 ≡ register s 29 = other_register s 1 29 n (λ e. omega (arith, e)) in
          let at : register t 1 ≡ n = get_or-set_same s.registers 1 n 0 (omega (arith, count)) in
          comes_on 2 1 _ (from g (alone (row.Addu r 29 1) ∷ rest) t input) _
          (in_at_comes n (alone (row.Addu r 29 1) ∷ rest) s input count fits)
          (row_comes g (row.Addu r 29 1) [] rest t (set_register t r v) input refl
          (ap (λ u. machine.Goes (set_register t r u))
          (ap (λ u. add u (register t 1)) sp ∙ (ap (add (register s 29)) at ∙ sum))))

  -- a load at a large offset of the stack, through $at
  abbrev upper : ℕ → ℕ
  upper n = (n + 32768) / 65536 * 65536

  abbrev with_upper : MachineState → ℕ → MachineState
  with_upper s n = set_register s 1 (upper n)

  -- $at gets what the lower half of the offset lacks
  abbrev pub with_at : MachineState → ℕ → MachineState
  with_at s n = set_register (with_upper s n) 1 (add (register (with_upper s n) 1) (register (with_upper s n) 29))

  far_sum : (n sp : ℕ) → n < 2 ^ 29 → sp + n < 2 ^ 32 → add (add (upper n) sp) (extended (n % 65536)) ≡ sp + n
  far_sum n sp h k = by (nat_lt (n % 65536) 32768) refl
    where
      by : (b : Bool) → nat_lt (n % 65536) 32768 ≡ b →
          add (add (upper n) sp) (if b then n % 65536 else n % 65536 + 4294901760) ≡ sp + n
      by true e = let l : n % 65536 < 32768 = grind (arith, nat_tests, e) in omega (arith, h, k, l)
      by false e = let l : 32768 ≤ n % 65536 = grind (arith, nat_tests, e) in omega (arith, h, k, l)

  pub far_address : (s : MachineState) (n : ℕ) → length s.registers ≡ 32 → n < 2 ^ 29 → register s 29 + n < 2 ^ 32 →
      effective_address (with_at s n) 1 (n % 65536) ≡ register s 29 + n
  far_address s n c h k =
      let some : 1 < length s.registers = omega (arith, c) in
      let set_length : length (slice_set s.registers 1 (upper n)) ≡ length s.registers =
      grind (arith, common_steps) in
      let still : 1 < length (slice_set s.registers 1 (upper n)) = omega (arith, some, set_length) in
      let u : register (with_upper s n) 1 ≡ upper n = get_or-set_same s.registers 1 (upper n) 0 some in
      let p : register (with_upper s n) 29 ≡ register s 29 =
      other_register s 1 29 (upper n) (λ e. omega (arith, e)) in
      let a : register (with_at s n) 1 ≡ add (register (with_upper s n) 1) (register (with_upper s n) 29) =
      get_or-set_same (slice_set s.registers 1 (upper n)) 1
      (add (register (with_upper s n) 1) (register (with_upper s n) 29)) 0 still in
      ap (λ v. add v (extended (n % 65536))) (a
      ∙ (ap (λ v. add v (register (with_upper s n) 29)) u ∙ ap (add (upper n)) p)) ∙ far_sum n (register s 29) h k

  pub far_load : (r n v : ℕ) (rest : List Line) (s : MachineState) (input : List ℕ) → nat_lt n 32768 ≡ false →
      length s.registers ≡ 32 → n < 2 ^ 29 →
      register s 29 + n < 2 ^ 32 → load_word s (register s 29 + n) ≡ Ok v →
      Comes 3 (from g (load_at r n ++ rest) s input) (from g rest (set_register (with_at s n) r v) input)
  far_load r n v rest s input big c h k is =
      let loads : effect (row.Lw r (n % 65536) 1) (with_at s n) ≡ machine.Goes (set_register (with_at s n) r v) =
      ap (put (with_at s n) r) (ap (load_word (with_at s n)) (far_address s n c h k)
      ∙ (load_word_seen s.code s.place (with_at s n).registers s (register s 29 + n) ∙ is)) in
      rw big
      (comes_on 1 2 _ _ _ (row_comes g (row.Lui 1 ((n + 32768) / 65536)) [] _ s (with_upper s n) input refl refl)
      (comes_on 1 1 _ _ _ (row_comes g (row.Addu 1 1 29) [] _ (with_upper s n) (with_at s n) input refl refl)
      (row_comes g (row.Lw r (n % 65536) 1) [] rest (with_at s n) (set_register (with_at s n) r v) input refl loads)))

  pub far_store : (r n : ℕ) (rest : List Line) (s t : MachineState) (input : List ℕ) → nat_lt n 32768 ≡ false →
      length s.registers ≡ 32 → n < 2 ^ 29 →
      register s 29 + n < 2 ^ 32 → store_word (with_at s n) (register s 29 + n) (register (with_at s n) r) ≡ Ok t →
      Comes 3 (from g (store_at r n ++ rest) s input) (from g rest t input)
  far_store r n rest s t input big c h k is =
      let stores : effect (row.Sw r (n % 65536) 1) (with_at s n) ≡ machine.Goes t =
      ap (λ a. stored (store_word (with_at s n) a (register (with_at s n) r))) (far_address s n c h k)
      ∙ ap stored is in
      rw big
      (comes_on 1 2 _ _ _ (row_comes g (row.Lui 1 ((n + 32768) / 65536)) [] _ s (with_upper s n) input refl refl)
      (comes_on 1 1 _ _ _ (row_comes g (row.Addu 1 1 29) [] _ (with_upper s n) (with_at s n) input refl refl)
      (row_comes g (row.Sw r (n % 65536) 1) [] rest (with_at s n) t input refl stores)))
