-- A row does what the instruction of its word does, and a step at a place what the row there does.
use Rattle.std.proofs.Common.{ℕ, zero, suc, ◌≡◌, ◌<◌, ◌+◌, ◌-◌, ◌*◌, ◌/◌, ◌%◌, ◌==◌, Bool, true, false, List, length}
use Rattle.std.proofs.Common.{Option, Some, None, refl, sym, ap, arith}
use Rattle.std.specs.Prelude.{Ok, Err, if◌then◌else◌, nat_le, nat_lt, pos, slice_index}
use Rattle.std.proofs.Math.Dec.{eqb-suc-zero}
use Rattle.std.proofs.lemmas.Bool.{le-leb}
use Rattle.tg_machine_state.specs.declared.ends.RunEnd.{RunEnd}
use Rattle.tg_machine_state.specs.declared.ends.RunEnd.TheVariants.{Exit, BadAddress, Unaligned}
use Rattle.tg_machine_state.specs.State.{MachineState, code_base, go, offset}
use Rattle.tg_machine_state.specs.Services.{Step, Goes, Ends, Reads, Writes}
use Rattle.tg_base.specs.Words.{add}
use Rattle.tg_isa.specs.declared.mips.Mips.{Mips}
use Rattle.tg_isa.specs.declared.mips.Mips.TheVariants as mips
use Rattle.tg_isa.specs.Effects.{decoded, effect, fetch, fetched, performed, step}
use Rattle.tg_isa.specs.Table.{decode_of}
use Rattle.tg_machine.specs.declared.rows.Row.{Row}
use Rattle.tg_machine.specs.glue.Moves.{RowIsDone, IsOwn}
use Rattle.tg_machine.specs.mirror.Rows.{does, known, prepared, row_at, row_of, row_there}

pub prepared_does : (one : Mips) (s : MachineState) → does (prepared one) s ≡ effect one s
prepared_does (mips.Sll rd rt shamt) s = refl
prepared_does (mips.Srl rd rt shamt) s = refl
prepared_does (mips.Sra rd rt shamt) s = refl
prepared_does (mips.Jr rs) s = refl
prepared_does (mips.Jalr rd rs) s = refl
prepared_does mips.Syscall s = refl
prepared_does (mips.Break code) s = refl
prepared_does (mips.Mfhi rd) s = refl
prepared_does (mips.Mflo rd) s = refl
prepared_does (mips.Mult rs rt) s = refl
prepared_does (mips.Div rs rt) s = refl
prepared_does (mips.Add rd rs rt) s = refl
prepared_does (mips.Sub rd rs rt) s = refl
prepared_does (mips.Addu rd rs rt) s = refl
prepared_does (mips.Subu rd rs rt) s = refl
prepared_does (mips.And rd rs rt) s = refl
prepared_does (mips.Or rd rs rt) s = refl
prepared_does (mips.Xor rd rs rt) s = refl
prepared_does (mips.Nor rd rs rt) s = refl
prepared_does (mips.Slt rd rs rt) s = refl
prepared_does (mips.Sltu rd rs rt) s = refl
prepared_does (mips.J target) s = refl
prepared_does (mips.Jal target) s = refl
prepared_does (mips.Beq rs rt number) s = refl
prepared_does (mips.Bne rs rt number) s = refl
prepared_does (mips.Blez rs number) s = refl
prepared_does (mips.Bgtz rs number) s = refl
prepared_does (mips.Bltz rs number) s = refl
prepared_does (mips.Bgez rs number) s = refl
prepared_does (mips.Addi rt rs number) s = refl
prepared_does (mips.Addiu rt rs number) s = refl
prepared_does (mips.Slti rt rs number) s = refl
prepared_does (mips.Sltiu rt rs number) s = refl
prepared_does (mips.Andi rt rs number) s = refl
prepared_does (mips.Ori rt rs number) s = refl
prepared_does (mips.Xori rt rs number) s = refl
prepared_does (mips.Lui rt number) s = refl
prepared_does (mips.Lb rt number rs) s = refl
prepared_does (mips.Lbu rt number rs) s = refl
prepared_does (mips.Lw rt number rs) s = refl
prepared_does (mips.Sb rt number rs) s = refl
prepared_does (mips.Sw rt number rs) s = refl

pub known_does : (word : ℕ) (o : Option Mips) (s : MachineState) →
    does (known word o) (go s (add s.place 4)) ≡ performed s (decoded word o)
known_does word (Some one) s = prepared_does one (go s (add s.place 4))
known_does word None s = refl

-- a step at a place of the code
pub step_at : (s : MachineState) (place : ℕ) (one : Row) → Some one ≡ row_at s.code place →
    step (go s place) ≡ does one (go s (add place 4))
step_at s zero one h = absurd (cc h)
step_at s (suc n) one h = rw (eqb-suc-zero n) (at (suc n % 4 == 0) (offset (suc n) code_base (4 * length s.code)) h)
  where
    at : (b : Bool) (o : Option ℕ) → Some one ≡ (if b then row_there s.code o else None) →
        performed (go s (suc n)) (if b then fetched (go s (suc n)) o else Err (Unaligned (suc n))) ≡ does one (go s (add (suc n) 4))
    at true (Some i) h =
        let is : one ≡ row_of (slice_index s.code (i / 4)) = cc h in
        rw is (sym (known_does (slice_index s.code (i / 4)) (decode_of (slice_index s.code (i / 4))) (go s (suc n))))
    at true None h = absurd (cc h)
    at false o h = absurd (cc h)

-- how a fetch ends outside the code
pub fetch_outside : (s : MachineState) (place : ℕ) → row_at s.code place ≡ None →
    fetch (go s place)
    ≡ (if place == 0 then Err (Exit (pos 0)) else if place % 4 == 0 then Err (BadAddress place) else Err (Unaligned place))
fetch_outside s place h = at (place == 0) (place % 4 == 0) (offset place code_base (4 * length s.code)) h
  where
    at : (z b : Bool) (o : Option ℕ) → (if b then row_there s.code o else None) ≡ None →
        (if z then Err (Exit (pos 0)) else if b then fetched (go s place) o else Err (Unaligned place))
        ≡ (if z then Err (Exit (pos 0)) else if b then Err (BadAddress place) else Err (Unaligned place))
    at true b o h = refl
    at false true (Some i) h = absurd (cc h)
    at false true None h = refl
    at false false o h = refl

-- the row of a word of the code
pub row_found : (code : List ℕ) (i place : ℕ) → i < length code → place ≡ 4194304 + 4 * i →
    Some (row_of (slice_index code i)) ≡ row_at code place
row_found code i place lt is =
    let whole : place % 4 ≡ 0 = omega (arith, is) in
    let low : nat_le 4194304 place ≡ true = le-leb _ _ (omega (arith, is)) in
    let high : nat_lt place (4194304 + 4 * length code) ≡ true = le-leb (suc place) _ (omega (arith, is, lt)) in
    let index : (place - 4194304) / 4 ≡ i = omega (arith, is) in
    rw (whole, low, high, index) refl

-- what a row left
pub row_goes : (d : Step) (place : ℕ) (new : MachineState) → RowIsDone d (Ok place) new → d ≡ Goes (go new place)
row_goes (Goes s) place new h = ap Goes (sym h)
row_goes (Ends e) place new h = absurd h
row_goes (Reads s) place new h = absurd h
row_goes (Writes bytes s) place new h = absurd h

pub row_ends : (d : Step) (e : RunEnd) (new : MachineState) → RowIsDone d (Err e) new → (d ≡ Ends e) × IsOwn e
row_ends (Goes s) e new h = absurd h
row_ends (Ends f) e new h = (ap Ends (sym h.0), h.1)
row_ends (Reads s) e new h = absurd h
row_ends (Writes bytes s) e new h = absurd h
