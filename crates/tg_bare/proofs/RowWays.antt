-- A row leads where the instruction of its word does, and a step does what the row at its place says.
use Rattle.std.proofs.Common.{ℕ, zero, suc, ◌≡◌, ◌*◌, ◌/◌, ◌%◌, ◌==◌, Bool, true, false, length, Option, Some, None, refl, sym, ap, ◌∙◌, subst}
use Rattle.std.specs.Prelude.{Result, Ok, Err, if◌then◌else◌, slice_index, slice_set}
use Rattle.std.proofs.Math.Dec.{eqb-suc-zero}
use Rattle.tg_base.specs.Words.{add}
use Rattle.tg_machine_state.specs.declared.ends.RunEnd.{RunEnd}
use Rattle.tg_machine_state.specs.declared.ends.RunEnd.TheVariants.{BadWord, Unaligned}
use Rattle.tg_machine_state.specs.State.{MachineState, code_base, go, offset, set_register}
use Rattle.tg_machine_state.specs.Services as plain
use Rattle.tg_machine_state.specs.Services.{Step, service}
use Rattle.tg_isa.specs.declared.mips.Mips.{Mips}
use Rattle.tg_isa.specs.declared.mips.Mips.TheVariants as mips
use Rattle.tg_isa.specs.Effects.{decoded, fetch, fetched}
use Rattle.tg_isa.specs.Table.{decode_of, word_of}
use Rattle.tg_isa.specs.laws.Anywhere.{step_on}
use Rattle.tg_isa.proofs.Anywhere.{effects_are_anywhere}
use Rattle.tg_machine.specs.declared.fetches.Seen.{Seen}
use Rattle.tg_machine.specs.declared.rows.Row.{Row}
use Rattle.tg_machine.specs.declared.rows.Row.TheVariants as row
use Rattle.tg_machine.specs.Fetches.{seen_of, seen_there}
use Rattle.tg_machine.specs.glue.Moves.{IsOwn, RowIsDone}
use Rattle.tg_machine.specs.mirror.Rows.{does, known, prepared, row_at, row_there}
use Rattle.tg_machine.proofs.RowEffects.{prepared_does, row_ends, row_goes}
use Rattle.tg_bare.specs.declared.places.Places.{Places}
use Rattle.tg_bare.specs.declared.ways.Way.TheVariants as to
use Rattle.tg_bare.specs.Delayed.{Bare, Way, Straight, Turns, way, Did, Goes, Ends, Reads, Writes, behind, straight_on, taken_to, turned, led}
use Rattle.tg_bare.specs.Delayed.{performed, bare_step}
use Rattle.tg_bare.specs.glue.Inside.{machine_at}
use Rattle.tg_bare.specs.glue.Moves.{Leads, HasEntered, HasStepped, within}
use Rattle.tg_bare.specs.mirror.Ways.{row_way}

prepared_way : (one : Mips) (s : MachineState) → row_way (prepared one) s ≡ way one s
prepared_way (mips.Sll rd rt shamt) s = refl
prepared_way (mips.Srl rd rt shamt) s = refl
prepared_way (mips.Sra rd rt shamt) s = refl
prepared_way (mips.Jr rs) s = refl
prepared_way (mips.Jalr rd rs) s = refl
prepared_way mips.Syscall s = refl
prepared_way (mips.Break code) s = refl
prepared_way (mips.Mfhi rd) s = refl
prepared_way (mips.Mflo rd) s = refl
prepared_way (mips.Mult rs rt) s = refl
prepared_way (mips.Div rs rt) s = refl
prepared_way (mips.Add rd rs rt) s = refl
prepared_way (mips.Sub rd rs rt) s = refl
prepared_way (mips.Addu rd rs rt) s = refl
prepared_way (mips.Subu rd rs rt) s = refl
prepared_way (mips.And rd rs rt) s = refl
prepared_way (mips.Or rd rs rt) s = refl
prepared_way (mips.Xor rd rs rt) s = refl
prepared_way (mips.Nor rd rs rt) s = refl
prepared_way (mips.Slt rd rs rt) s = refl
prepared_way (mips.Sltu rd rs rt) s = refl
prepared_way (mips.J target) s = refl
prepared_way (mips.Jal target) s = refl
prepared_way (mips.Beq rs rt number) s = refl
prepared_way (mips.Bne rs rt number) s = refl
prepared_way (mips.Blez rs number) s = refl
prepared_way (mips.Bgtz rs number) s = refl
prepared_way (mips.Bltz rs number) s = refl
prepared_way (mips.Bgez rs number) s = refl
prepared_way (mips.Addi rt rs number) s = refl
prepared_way (mips.Addiu rt rs number) s = refl
prepared_way (mips.Slti rt rs number) s = refl
prepared_way (mips.Sltiu rt rs number) s = refl
prepared_way (mips.Andi rt rs number) s = refl
prepared_way (mips.Ori rt rs number) s = refl
prepared_way (mips.Xori rt rs number) s = refl
prepared_way (mips.Lui rt number) s = refl
prepared_way (mips.Lb rt number rs) s = refl
prepared_way (mips.Lbu rt number rs) s = refl
prepared_way (mips.Lw rt number rs) s = refl
prepared_way (mips.Sb rt number rs) s = refl
prepared_way (mips.Sw rt number rs) s = refl

-- the row at a place is that of the instruction which is fetched there, or of a word that the table doesn't have
data At (s : MachineState) (place : ℕ) (one : Row) : Type 0 where
  has_row : (i : Mips) → one ≡ prepared i → fetch (go s place) ≡ Ok i → At s place one
  no_row : (word : ℕ) → one ≡ row.Unknown word → fetch (go s place) ≡ Err (BadWord word) → At s place one

fetch_above : (s : MachineState) (n : ℕ) → fetch (go s (suc n))
    ≡ (if suc n % 4 == 0 then fetched (go s (suc n)) (offset (suc n) code_base (4 * length s.code)) else Err (Unaligned (suc n)))
fetch_above s n = rw (eqb-suc-zero n) refl

found_at : (s : MachineState) (place : ℕ) (one : Row) → row_at s.code place ≡ Some one → At s place one
found_at s zero one h = absurd (cc h)
found_at s (suc n) one h = at (suc n % 4 == 0) (offset (suc n) code_base (4 * length s.code)) (fetch_above s n) h
  where
    by_word : (w : ℕ) (o : Option Mips) → fetch (go s (suc n)) ≡ decoded w o → Some (known w o) ≡ Some one → At s (suc n) one
    by_word w (Some i) f h = has_row i (cc h) f
    by_word w None f h = no_row w (cc h) f

    at : (b : Bool) (o : Option ℕ) → fetch (go s (suc n)) ≡ (if b then fetched (go s (suc n)) o else Err (Unaligned (suc n))) →
        (if b then row_there s.code o else None) ≡ Some one → At s (suc n) one
    at true (Some i) f h = by_word (slice_index s.code (i / 4)) (decode_of (slice_index s.code (i / 4))) f h
    at true None f h = absurd (cc h)
    at false o f h = absurd (cc h)

-- what is seen at a place is the word of the instruction which is fetched there
decoded_ok : (w : ℕ) (o : Option Mips) (i : Mips) → decoded w o ≡ Ok i → o ≡ Some i
decoded_ok w (Some j) i h = cc h
decoded_ok w None i h = absurd (cc h)

pub seen_fetch : (s : MachineState) (place : ℕ) (x : Seen) (i : Mips) → seen_of (go s place) ≡ Some x → fetch (go s place) ≡ Ok i → decode_of x.word ≡ Some i
seen_fetch s zero x i h f = absurd (cc f)
seen_fetch s (suc n) x i h f = at (suc n % 4 == 0) (offset (suc n) code_base (4 * length s.code)) h (sym (fetch_above s n) ∙ f)
  where
    at : (b : Bool) (o : Option ℕ) → (if b then seen_there (go s (suc n)) o else None) ≡ Some x →
        (if b then fetched (go s (suc n)) o else Err (Unaligned (suc n))) ≡ Ok i → decode_of x.word ≡ Some i
    at true (Some k) h f =
        let w = slice_index s.code (k / 4) in
        let is : x ≡ record { place = suc n; word = w } = cc h in
        ap (λ (y : Seen). decode_of y.word) is ∙ decoded_ok w (decode_of w) i f
    at true None h f = absurd (cc h)
    at false o h f = absurd (cc h)

pub unseen_fetch : (s : MachineState) (place : ℕ) (i : Mips) → seen_of (go s place) ≡ None → fetch (go s place) ≡ Ok i → ⊥
unseen_fetch s zero i h f = cc f
unseen_fetch s (suc n) i h f = at (suc n % 4 == 0) (offset (suc n) code_base (4 * length s.code)) h (sym (fetch_above s n) ∙ f)
  where
    at : (b : Bool) (o : Option ℕ) → (if b then seen_there (go s (suc n)) o else None) ≡ None →
        (if b then fetched (go s (suc n)) o else Err (Unaligned (suc n))) ≡ Ok i → ⊥
    at true (Some k) h f = cc h
    at true None h f = cc f
    at false o h f = cc f

-- one step, at a row that goes straight on
straight_steps : (s : MachineState) (at : Places) (one : Row) → row_at s.code at.place ≡ Some one → row_way one (go s at.next) ≡ Straight →
    bare_step (machine_at s at) ≡ straight_on (does one (go s at.next))
straight_steps s at one h w = by (found_at s at.place one h)
  where
    by : At s at.place one → bare_step (machine_at s at) ≡ straight_on (does one (go s at.next))
    by (has_row i is f) =
        ap (performed (machine_at s at)) f
        ∙ ap (λ (v : Way). led v at.in_slot i (go s at.next)) (sym (ap (λ (r : Row). row_way r (go s at.next)) is ∙ prepared_way i (go s at.next)) ∙ w)
        ∙ ap straight_on (sym (ap (λ (r : Row). does r (go s at.next)) is ∙ prepared_does i (go s at.next)))
    by (no_row word is f) = ap (performed (machine_at s at)) f ∙ ap (λ (r : Row). straight_on (does r (go s at.next))) (sym is)

-- at a row that controls: the delay slot is entered, or it is one
turned_steps : (s : MachineState) (at : Places) (one : Row) (taken : Option ℕ) (t : MachineState) → row_at s.code at.place ≡ Some one →
    row_way one (go s at.next) ≡ Turns taken t →
    (i : Mips) × (fetch (go s at.place) ≡ Ok i) × (bare_step (machine_at s at) ≡ turned at.in_slot (word_of i) taken t)
turned_steps s at one taken t h w = by (found_at s at.place one h)
  where
    by : At s at.place one → (i : Mips) × (fetch (go s at.place) ≡ Ok i) × (bare_step (machine_at s at) ≡ turned at.in_slot (word_of i) taken t)
    by (has_row i is f) = (
      i,
      f,
      ap (performed (machine_at s at)) f
          ∙ ap (λ (v : Way). led v at.in_slot i (go s at.next)) (sym (ap (λ (r : Row). row_way r (go s at.next)) is ∙ prepared_way i (go s at.next)) ∙ w),
    )
    by (no_row word is f) =
        let e : Straight ≡ Turns taken t = ap (λ (r : Row). row_way r (go s at.next)) (sym is) ∙ w in
        absurd (cc e)

-- what the code does at a row
leads_straight : (d : Way) (s : MachineState) → Leads to.Straight d s → d ≡ Straight
leads_straight Straight s l = refl
leads_straight (Turns taken t) s l = absurd l

leads_turns : (place : ℕ) (d : Way) (s : MachineState) → Leads (to.Turns place) d s →
    (taken : Option ℕ) × (d ≡ Turns taken s) × (place ≡ taken_to taken (add s.place 4))
leads_turns place Straight s l = absurd l
leads_turns place (Turns taken t) s l = (taken, ap (λ (u : MachineState). Turns taken u) l.0, l.1)

leads_calls : (link place : ℕ) (d : Way) (s : MachineState) → Leads (to.Calls link place) d s →
    d ≡ Turns (Some place) (set_register s link (add s.place 4))
leads_calls link place Straight s l = absurd l
leads_calls link place (Turns taken t) s l = rw (l.0, l.1) refl

-- a row that goes straight on
pub goes_straight : (d : Step) (place : ℕ) (new : MachineState) → RowIsDone d (Ok place) new →
    HasStepped (straight_on d) (Ok (record { place = place; next = add place 4; in_slot = false })) new
goes_straight d place new h = rw (row_goes d place new h) refl

pub ends_straight : (d : Step) (e : RunEnd) (new : MachineState) → RowIsDone d (Err e) new → HasStepped (straight_on d) (Err e) new
ends_straight d e new h =
    let f = row_ends d e new h in
    rw f.0 (refl, f.1)

pub straight_done : (s new : MachineState) (at : Places) (one : Row) (result : Result Places RunEnd) → row_at s.code at.place ≡ Some one →
    Leads to.Straight (row_way one (go s at.next)) (go s at.next) → HasStepped (straight_on (does one (go s at.next))) result new →
    HasStepped (bare_step (machine_at s at)) result new
straight_done s new at one result h l d = rw (straight_steps s at one h (leads_straight _ _ l)) d

-- in a delay slot
refused : (s new : MachineState) (at : Places) (one : Row) (e : RunEnd) (taken : Option ℕ) (t : MachineState) → row_at s.code at.place ≡ Some one →
    row_way one (go s at.next) ≡ Turns taken t → at.in_slot ≡ true → ((i : Mips) → fetch (go s at.place) ≡ Ok i → e ≡ BadWord (word_of i)) →
    HasStepped (bare_step (machine_at s at)) (Err e) new
refused s new at one e taken t h w b bad =
    let k = turned_steps s at one taken t h w in
    rw (k.2 ∙ ap (λ (v : Bool). turned v (word_of k.0) taken t) b, bad k.0 k.1) (refl, tt)

entered : (s : MachineState) (at : Places) (one : Row) (taken : Option ℕ) (t : MachineState) → row_at s.code at.place ≡ Some one →
    row_way one (go s at.next) ≡ Turns taken t → at.in_slot ≡ false →
    bare_step (machine_at s at) ≡ Goes (record { state = t; next = taken_to taken (add t.place 4); in_slot = true })
entered s at one taken t h w b =
    let k = turned_steps s at one taken t h w in
    k.2 ∙ ap (λ (v : Bool). turned v (word_of k.0) taken t) b

pub turns_done : (s new : MachineState) (at : Places) (one : Row) (place : ℕ) (result : Result Places RunEnd) → row_at s.code at.place ≡ Some one →
    Leads (to.Turns place) (row_way one (go s at.next)) (go s at.next) → HasEntered result at place s new →
    HasStepped (bare_step (machine_at s at)) result new
turns_done s new at one place (Ok there) h l d =
    let k = leads_turns place _ _ l in
    rw (entered s at one k.0 (go s at.next) h k.1 d.0, d.1, d.2)
    (ap (λ (p : ℕ). machine_at s (record { place = at.next; next = p; in_slot = true })) k.2)
turns_done s new at one place (Err e) h l d =
    let k = leads_turns place _ _ l in
    refused s new at one e k.0 (go s at.next) h k.1 d.0 d.1

go_set : (s : MachineState) (p r v : ℕ) → go (set_register s r v) p ≡ set_register (go s p) r v
go_set s p r v = by (r == 0)
  where
    by : (b : Bool) → go (if b then s else record s { registers = slice_set s.registers r v }) p
        ≡ (if b then go s p else record (go s p) { registers = slice_set s.registers r v })
    by true = refl
    by false = refl

pub calls_done : (s mid : MachineState) (at there : Places) (one : Row) (link place : ℕ) → row_at s.code at.place ≡ Some one →
    Leads (to.Calls link place) (row_way one (go s at.next)) (go s at.next) → HasEntered (Ok there) at place s mid →
    HasStepped (bare_step (machine_at s at)) (Ok there) (set_register mid link (add at.next 4))
calls_done s mid at there one link place h l d =
    let t = set_register (go s at.next) link (add at.next 4) in
    rw (entered s at one (Some place) t h (leads_calls link place _ _ l) d.0, d.1, d.2)
    (ap (λ (u : MachineState). at_slot u place) (go_set s at.next link (add at.next 4)))
  where
    at_slot : MachineState → ℕ → Bare
    at_slot u p = record { state = u; next = p; in_slot = true }

pub calls_end : (s new : MachineState) (at : Places) (one : Row) (link place : ℕ) (e : RunEnd) → row_at s.code at.place ≡ Some one →
    Leads (to.Calls link place) (row_way one (go s at.next)) (go s at.next) → HasEntered (Err e) at place s s →
    HasStepped (bare_step (machine_at s at)) (Err e) new
calls_end s new at one link place e h l d =
    refused s new at one e (Some place) (set_register (go s at.next) link (add at.next 4)) h (leads_calls link place _ _ l) d.0 d.1

on_within : (t : MachineState) (d : Step) → straight_on (step_on t.code t.place d) ≡ within (behind t) (step_on t.code t.place d)
on_within t (plain.Goes s) = refl
on_within t (plain.Ends e) = refl
on_within t (plain.Reads s) = refl
on_within t (plain.Writes bytes s) = refl

-- what a service does, it does at the places behind its row
pub service_steps : (s : MachineState) (at : Places) (one : Row) → row_at s.code at.place ≡ Some one → one ≡ row.Syscall →
    bare_step (machine_at s at) ≡ within (behind (go s at.next)) (service (go s at.next))
service_steps s at one h is =
    let t = go s at.next in
    let law : service t ≡ step_on t.code t.place (service t) = effects_are_anywhere t.code t.place mips.Syscall t tt in
    straight_steps s at one h (ap (λ (r : Row). row_way r t) is) ∙ ap (λ (r : Row). straight_on (does r t)) is
    ∙ subst (λ (d : Step). straight_on d ≡ within (behind t) d) (sym law) (on_within t (service t))

-- what a step of the code left
pub goes_on_at : (d : Did) (at : Places) (new : MachineState) → HasStepped d (Ok at) new → d ≡ Goes (machine_at new at)
goes_on_at (Goes b) at new h = ap Goes (sym h)
goes_on_at (Ends e) at new h = absurd h
goes_on_at (Reads b) at new h = absurd h
goes_on_at (Writes bytes b) at new h = absurd h

pub ends_there : (d : Did) (e : RunEnd) (new : MachineState) → HasStepped d (Err e) new → (d ≡ Ends e) × IsOwn e
ends_there (Goes b) e new h = absurd h
ends_there (Ends f) e new h = (ap Ends (sym h.0), h.1)
ends_there (Reads b) e new h = absurd h
ends_there (Writes bytes b) e new h = absurd h
