-- The fetch of a word of the code, and where branches and jumps lead from it.
use Rattle.std.proofs.Common.{ℕ, ◌≡◌, ◌<◌, ◌≤◌, ◌+◌, ◌-◌, ◌*◌, ◌/◌, ◌%◌, ◌^◌, ◌==◌, List, length, refl, arith, Bool}
use Rattle.std.proofs.Common.{true, false, Some}
use Rattle.std.specs.Prelude.{Ok, nat_lt, nat_le, slice_index}
use Rattle.std.proofs.lemmas.Bool.Decides.{nat_tests}
use Rattle.tg_base.specs.Words.{add, extended}
use Rattle.tg_machine_state.specs.State.{MachineState, code_base, offset}
use Rattle.tg_isa.specs.declared.mips.Mips.{Mips}
use Rattle.tg_isa.specs.Table.{word_of}
use Rattle.tg_isa.specs.Rows.{IsRow}
use Rattle.tg_isa.specs.Effects.{fetch}
use Rattle.tg_asm_text.specs.Placement.{offset_to}
use Rattle.tg_isa.proofs.Inverse.{decode_of-word_of}
use Rattle.tg_isa.specs.laws.Anywhere.{on}

-- the machine's place of a word of the code
abbrev pub place_at : (word : ℕ) → ℕ
place_at n = code_base + 4 * n

not_zero : (n : ℕ) → (place_at n == 0) ≡ false
not_zero n = grind (arith, nat_tests)

is_whole : (n : ℕ) → (place_at n % 4 == 0) ≡ true
is_whole n = let e : place_at n % 4 ≡ 0 = omega arith in rw e refl

inside : (at size : ℕ) → at < size → offset (place_at at) code_base (4 * size) ≡ Some (4 * at)
inside at size h =
    let low : nat_le code_base (place_at at) ≡ true = grind (arith, nat_tests) in
    let high : nat_lt (place_at at) (code_base + 4 * size) ≡ true = grind (arith, nat_tests, h) in
    let e : place_at at - code_base ≡ 4 * at = omega arith in
    rw (low, high, e) refl

quarter : (n : ℕ) → 4 * n / 4 ≡ n
quarter n = omega arith

pub fetch_is : (code : List ℕ) (at : ℕ) (one : Mips) (s : MachineState) → at < length code →
    slice_index code at ≡ word_of one → IsRow one →
    fetch (on code (place_at at) s) ≡ Ok one
fetch_is code at one s h is fits =
    rw (not_zero at, is_whole at, inside at (length code) h, quarter at, is, decode_of-word_of one fits) refl

-- the place after a word
pub next_is : (at : ℕ) → at < 66060288 → add (place_at at) 4 ≡ place_at (at + 1)
next_is at h = omega (arith, h)

-- a branch leads so many words on
ahead : (at to : ℕ) → (d : ℕ) → at < 66060288 → d < 32768 → to ≡ at + 1 + d → add (place_at (at + 1)) (4 * d % 2 ^ 32)
    ≡ place_at to
ahead at to d h k e = omega (arith, h, k, e)

back : (at to : ℕ) → (d : ℕ) → at < 66060288 → d < 65536 → 32768 ≤ d → to + 65536 ≡ at + 1 + d →
    add (place_at (at + 1)) (4 * (d + 4294901760) % 2 ^ 32) ≡ place_at to
back at to d h k l e = omega (arith, h, k, l, e)

pub branch_is : (at to : ℕ) → at < 66060288 → to ≤ at + 32768 → at + 1 ≤ to + 32768 →
    add (place_at (at + 1)) (4 * extended (offset_to at to) % 2 ^ 32) ≡ place_at to
branch_is at to h k l = by (nat_lt (offset_to at to) 32768) refl
  where
    by : (b : Bool) → nat_lt (offset_to at to) 32768 ≡ b →
        add (place_at (at + 1)) (4 * extended (offset_to at to) % 2 ^ 32) ≡ place_at to
    by true e =
        let below : offset_to at to < 32768 = grind (arith, nat_tests, e) in
        let is : to ≡ at + 1 + offset_to at to = omega (arith, k, l, below) in
        rw e (ahead at to (offset_to at to) h below is)
    by false e =
        let above : 32768 ≤ offset_to at to = grind (arith, nat_tests, e) in
        let within : offset_to at to < 65536 = omega arith in
        let is : to + 65536 ≡ at + 1 + offset_to at to = omega (arith, k, l, above) in
        rw e (back at to (offset_to at to) h within above is)

pub jump_is : (at to : ℕ) → at + 1 < 66060288 → place_at (at + 1) / 2 ^ 28 * 2 ^ 28 + 4 * (code_base / 4 + to)
    ≡ place_at to
jump_is at to h = omega (arith, h)
