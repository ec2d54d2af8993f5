-- Lines with their slots do what the lines do, step for step.
use Rattle.std.proofs.Common.{ℕ, zero, suc, ◌≡◌, ◌≢◌, ◌≤◌, ◌<◌, List, [], ◌∷◌, refl, ap, sym, ◌∙◌, subst, arith}
use Rattle.std.proofs.Common.{true, false, Option, Some, None}
use Rattle.std.specs.Prelude.{codes, Ok, Err, Result}
use Rattle.tg_machine_state.specs.declared.ends.RunEnd.{RunEnd}
use Rattle.tg_base.specs.Words.{exact_sum, exact_difference, extended}
use Rattle.tg_machine_state.specs.State.{MachineState, register, initial_machine, statics_base, load_byte, load_word, store_byte, store_word}
use Rattle.tg_machine_state.specs.Services as machine
use Rattle.tg_machine_state.specs.Services.{Step, answered}
use Rattle.tg_simulation.specs.Ran.{Ran, Ended, WantsFuel, Wrong, stops, writes, works}
use Rattle.tg_simulation.specs.Preserving.{DoesTheSame}
use Rattle.tg_isa.specs.declared.mips.Mips.{Mips}
use Rattle.tg_isa.specs.declared.mips.Mips.TheVariants as row
use Rattle.tg_isa.specs.Effects.{effect, put, put_exact, stored, extended_load, effective_address}
use Rattle.tg_isa.specs.ImageRuns.{first_byte, later_bytes}
use Rattle.tg_tree.specs.declared.fragments.Literal.{Literal}
use Rattle.tg_emit.specs.declared.assembly.Line.{Line}
use Rattle.tg_emit.specs.declared.assembly.Line.TheVariants.{Label, One, La, Statics}
use Rattle.tg_emit_proof.specs.LinesRun as plain
use Rattle.tg_emit_proof.specs.LinesRun.{Place, left, at_zero, Returns, Way, Straight, Leads, Untaken, behind, address_from, statics_of}
use Rattle.tg_delay.specs.Filling.{stays, controls, movable, nop, filled}
use Rattle.tg_delay_proof.specs.DelayedRun.{Point, at, in_slot, Did, Goes, Ends, Reads, Writes, Strays, onward, halfway, row_does}
use Rattle.tg_delay_proof.specs.DelayedRun.{way, slot_does, slot_do, delayed_going, going_from}
use Rattle.tg_delay_proof.specs.laws.Laws.{FillingKeepsRuns}
use Rattle.tg_delay_proof.proofs.Filled.{by_filling, with_slots, some_with_slots, behind_filled, no_call, stays_controls, Moves, moves}
use Rattle.tg_delay_proof.proofs.Slots.{plainly_straight, straight, Alike, EndsIn, way_alike, way_ends, nothing_fits}
use Rattle.tg_delay_proof.proofs.Slots.{row_fits, row_ends}
use Rattle.tg_delay_proof.proofs.Fuel.{Same, same_at, wrong, along, one_one, one_two, two_two, stops_later, writing}

-- a row that may be moved neither reads input nor writes output
abbrev IsQuiet : Step → Type 0
IsQuiet (machine.Goes t) = Unit {0}
IsQuiet (machine.Ends e) = Unit {0}
IsQuiet (machine.Reads t) = ⊥
IsQuiet (machine.Writes bytes t) = ⊥

exact_quiet : (s : MachineState) (r : ℕ) (o : Option ℕ) → IsQuiet (put_exact s r o)
exact_quiet s r (Some v) = tt
exact_quiet s r None = tt

put_quiet : (s : MachineState) (r : ℕ) (o : Result ℕ RunEnd) → IsQuiet (put s r o)
put_quiet s r (Ok v) = tt
put_quiet s r (Err e) = tt

stored_quiet : (o : Result MachineState RunEnd) → IsQuiet (stored o)
stored_quiet (Ok t) = tt
stored_quiet (Err e) = tt

is_quiet : (one : Mips) (s : MachineState) → stays one ≡ false → IsQuiet (effect one s)
is_quiet (row.Add rd rs rt) s h = exact_quiet s rd (exact_sum (register s rs) (register s rt))
is_quiet (row.Sub rd rs rt) s h = exact_quiet s rd (exact_difference (register s rs) (register s rt))
is_quiet (row.Addi rt rs n) s h = exact_quiet s rt (exact_sum (register s rs) (extended n))
is_quiet (row.Lb rt n rs) s h = put_quiet s rt (extended_load (load_byte s (effective_address s rs n)))
is_quiet (row.Lbu rt n rs) s h = put_quiet s rt (load_byte s (effective_address s rs n))
is_quiet (row.Lw rt n rs) s h = put_quiet s rt (load_word s (effective_address s rs n))
is_quiet (row.Sb rt n rs) s h = stored_quiet (store_byte s (effective_address s rs n) (register s rt))
is_quiet (row.Sw rt n rs) s h = stored_quiet (store_word s (effective_address s rs n) (register s rt))
is_quiet row.Syscall s h = cc
is_quiet (row.Beq rs rt n) s h = cc
is_quiet (row.Bne rs rt n) s h = cc
is_quiet (row.Blez rs n) s h = cc
is_quiet (row.Bgtz rs n) s h = cc
is_quiet (row.Bltz rs n) s h = cc
is_quiet (row.Bgez rs n) s h = cc
is_quiet one s h = tt

module _ (returns : Returns) (lines : List Line) (literals : List Literal) where
  abbrev before : Place → MachineState → (input : List ℕ) → ℕ → Ran
  before p s input = plain.lines_going returns lines literals p s input

  abbrev delayed : Point → MachineState → (input : List ℕ) → ℕ → Ran
  delayed p s input = delayed_going returns (filled lines) literals p s input

  abbrev done : (input : List ℕ) → ℕ → plain.Did → Ran
  done input n (plain.Goes q t) = before q t input n
  done input n (plain.Ends e) = stops input (Ended e)
  done input n (plain.Reads q t) = before q (answered t (first_byte input)) (later_bytes input) n
  done input n (plain.Writes bytes q t) = writes bytes (before q t input n)
  done input n plain.Strays = stops input Wrong

  abbrev done_behind : (input : List ℕ) → ℕ → Did → Ran
  done_behind input n (Goes q t) = delayed q t input n
  done_behind input n (Ends e) = stops input (Ended e)
  done_behind input n (Reads q t) = delayed q (answered t (first_byte input)) (later_bytes input) n
  done_behind input n (Writes bytes q t) = writes bytes (delayed q t input n)
  done_behind input n Strays = stops input Wrong

  -- from what is left on, with so much fuel
  abbrev Sims : ℕ → Type 0
  Sims i = (rest : List Line) (s : MachineState) (input : List ℕ) →
      Same i (before (left rest) s input i) (delayed (at (left (filled rest))) s input)

  places : (i : ℕ) → Sims i → (p : Place) (s : MachineState) (input : List ℕ) →
      Same i (before p s input i) (delayed (at (with_slots p)) s input)
  places i h (left rest) s input = h rest s input
  places zero h at_zero s input =
      same_at zero (before at_zero s input zero) (delayed (at at_zero) s input) zero (omega arith) refl
  places (suc i) h at_zero s input =
      same_at (suc i) (before at_zero s input (suc i)) (delayed (at at_zero) s input) (suc i) (omega arith) refl

  -- A row with another in its slot, from a state behind which the slot's row comes.
  module _ (slot : Mips) (x : List ℕ) (other : Mips) (there : List ℕ) (rest : List Line) (s : MachineState)
      (input : List ℕ) (plainly : controls slot ≡ false) where
    abbrev slotted : List Line
    slotted = One slot x ∷ filled rest

    abbrev from_row : ℕ → Ran
    from_row = delayed (at (left (One other there ∷ slotted))) s input

    abbrev its_way : Way
    its_way = way returns (filled lines) other there slotted s

    slot_step : (o : Option Place) (v u : MachineState) (q : Place) → o ≡ Some q → effect slot v ≡ machine.Goes u → (j : ℕ) →
        delayed (in_slot slotted o) v input (suc j) ≡ works 1 (delayed (at q) u input j)
    slot_step o v u q eo g j =
        ap (λ p. works 1 (done_behind input j (slot_do returns (filled lines) literals slotted p v))) eo
        ∙ (ap (λ w. works 1 (done_behind input j (slot_does w slot (Some q) v)))
        (straight returns (filled lines) slot x (filled rest) v plainly)
        ∙ ap (λ m. works 1 (done_behind input j (onward m (Some q)))) g)

    slot_ends : (o : Option Place) (v : MachineState) (f : RunEnd) → effect slot v ≡ machine.Ends f → (j : ℕ) →
        delayed (in_slot slotted o) v input (suc j) ≡ works 1 (stops input (Ended f))
    slot_ends o v f g j =
        ap (λ w. works 1 (done_behind input j (slot_does w slot o v)))
        (straight returns (filled lines) slot x (filled rest) v plainly)
        ∙ ap (λ m. works 1 (done_behind input j (onward m o))) g

    row_step : (j : ℕ) (y : Way) → its_way ≡ y → from_row (suc j) ≡ works 1 (done_behind input j (row_does y other slotted s))
    row_step j y e = ap (λ w. works 1 (done_behind input j (row_does w other slotted s))) e

    two_steps : (o : Option Place) (v u : MachineState) (q : Place) → its_way ≡ Leads o v → o ≡ Some q →
        effect slot v ≡ machine.Goes u → (j : ℕ) → from_row (suc (suc j)) ≡ works 1 (works 1 (delayed (at q) u input j))
    two_steps o v u q e eo g j = row_step (suc j) (Leads o v) e ∙ ap (works 1) (slot_step o v u q eo g j)

    untaken_steps : (t : MachineState) → its_way ≡ Untaken → effect slot s ≡ machine.Goes t → (j : ℕ) →
        from_row (suc (suc j)) ≡ works 1 (works 1 (delayed (at (left (filled rest))) t input j))
    untaken_steps t e g j =
        row_step (suc j) Untaken e
        ∙ ap (works 1) (slot_step (Some (left (filled rest))) s t (left (filled rest)) refl g j)

    -- where the slot's row ends the run
    ends_there : (f : RunEnd) (i : ℕ) (y : Way) → its_way ≡ y → EndsIn returns lines slot f y → effect slot s ≡ machine.Ends f →
        Same (suc i) (works 1 (stops input (Ended f))) from_row
    ends_there f i (Leads o v) e n g =
        stops_later (suc i) (suc (suc i)) input (Ended f) from_row (omega arith)
        (row_step (suc i) (Leads o v) e ∙ ap (works 1) (slot_ends o v f n i))
    ends_there f i Untaken e n g =
        stops_later (suc i) (suc (suc i)) input (Ended f) from_row (omega arith)
        (row_step (suc i) Untaken e ∙ ap (works 1) (slot_ends (Some (left (filled rest))) s f g i))
    ends_there f i Straight e n g = absurd n

    module _ (t : MachineState) (goes : effect slot s ≡ machine.Goes t) where
      abbrev row_done : ℕ → Way → Ran
      row_done k w = works 1 (done input k (plain.row_does w other rest t))

      -- the row alone, against two
      alone_same : (k : ℕ) → Sims k → (w y : Way) → its_way ≡ y → Alike returns lines slot w y →
          Same (suc k) (row_done k w) from_row
      alone_same k h (Leads None u) y e a = wrong (suc k) (row_done k (Leads None u)) from_row refl
      alone_same k h (Leads (Some p) u) (Leads o v) e a =
          one_two k (before p u input k) from_row (delayed (at (with_slots p)) u input)
          (two_steps o v u (with_slots p) e a.0 a.1) (places k h p u input)
      alone_same k h (Leads (Some p) u) Untaken e a = absurd a
      alone_same k h (Leads (Some p) u) Straight e a = absurd a
      alone_same k h Untaken Untaken e a =
          one_two k (before (left rest) t input k) from_row (delayed (at (left (filled rest))) t input)
          (untaken_steps t e goes) (h rest t input)
      alone_same k h Untaken (Leads o v) e a = absurd a
      alone_same k h Untaken Straight e a = absurd a
      alone_same k h Straight (Leads o v) e a = absurd a
      alone_same k h Straight Untaken e a = absurd a
      alone_same k h Straight Straight e a = absurd a

      -- behind the slot's row, both against both
      both_same : (k : ℕ) → Sims k → (w y : Way) → its_way ≡ y → Alike returns lines slot w y →
          Same (suc (suc k)) (works 1 (row_done k w)) from_row
      both_same k h (Leads None u) y e a = wrong (suc (suc k)) (works 1 (row_done k (Leads None u))) from_row refl
      both_same k h (Leads (Some p) u) (Leads o v) e a =
          two_two k (before p u input k) from_row (delayed (at (with_slots p)) u input)
          (two_steps o v u (with_slots p) e a.0 a.1) (places k h p u input)
      both_same k h (Leads (Some p) u) Untaken e a = absurd a
      both_same k h (Leads (Some p) u) Straight e a = absurd a
      both_same k h Untaken Untaken e a =
          two_two k (before (left rest) t input k) from_row (delayed (at (left (filled rest))) t input)
          (untaken_steps t e goes) (h rest t input)
      both_same k h Untaken (Leads o v) e a = absurd a
      both_same k h Untaken Straight e a = absurd a
      both_same k h Straight (Leads o v) e a = absurd a
      both_same k h Straight Untaken e a = absurd a
      both_same k h Straight Straight e a = absurd a

      -- the first of them, with fuel for no more
      first_alone : (w y : Way) → its_way ≡ y → Alike returns lines slot w y → Same 1 (works 1 (stops input WantsFuel)) from_row
      first_alone w (Leads o v) e a = same_at 1 (works 1 (stops input WantsFuel)) from_row 1 (omega arith) (row_step 0 (Leads o v) e)
      first_alone w Untaken e a = same_at 1 (works 1 (stops input WantsFuel)) from_row 1 (omega arith) (row_step 0 Untaken e)
      first_alone (Leads None u) Straight e a = absurd a
      first_alone (Leads (Some p) u) Straight e a = absurd a
      first_alone Untaken Straight e a = absurd a
      first_alone Straight Straight e a = absurd a

  -- With a unit of fuel more.
  module _ (i : ℕ) (later : (k : ℕ) → k ≤ i → Sims k) where
    now : Sims i
    now = later i (omega arith)

    abbrev SimsNow : List Line → List Line → Type 0
    SimsNow ls ms = (s : MachineState) (input : List ℕ) →
        Same (suc i) (before (left ls) s input (suc i)) (delayed (at (left ms)) s input)

    nothing_left : SimsNow [] []
    nothing_left s input = wrong (suc i) (before (left []) s input (suc i)) (delayed (at (left [])) s input) refl

    past_label : (name : List ℕ) (rest : List Line) → SimsNow rest (filled rest) →
        SimsNow (Label name ∷ rest) (Label name ∷ filled rest)
    past_label name rest h s input =
        along (suc i) (before (left rest) s input (suc i)) (delayed (at (left (filled rest))) s input)
        (delayed (at (left (Label name ∷ filled rest))) s input) same (h s input)
      where
        same : (j : ℕ) → delayed (at (left (Label name ∷ filled rest))) s input j ≡ delayed (at (left (filled rest))) s input j
        same zero = refl
        same (suc j) = refl

    past_statics : (bytes : List ℕ) (rest : List Line) → SimsNow rest (filled rest) →
        SimsNow (Statics bytes ∷ rest) (Statics bytes ∷ filled rest)
    past_statics bytes rest h s input =
        wrong (suc i) (before (left (Statics bytes ∷ rest)) s input (suc i))
        (delayed (at (left (Statics bytes ∷ filled rest))) s input) refl

    address_same : (r : ℕ) (rest : List Line) (s : MachineState) (input : List ℕ) (d : ℕ → Ran) (o : Option ℕ) →
        ((j : ℕ) → d (suc j) ≡ works 1 (done_behind input j (halfway (plain.goes_halfway r o (filled rest) s)))) →
        (k : ℕ) → ((m : ℕ) → m ≤ k → Sims m) →
        Same (suc k) (works 1 (done input k (plain.goes_halfway r o rest s))) d
    address_same r rest s input d None e k h = wrong (suc k) (works 1 (stops input Wrong)) d refl
    address_same r rest s input d (Some a) e zero h =
        same_at 1 (works 1 (stops input WantsFuel)) d 1 (omega arith) (e 0)
    address_same r rest s input d (Some a) e (suc k) h =
        two_two k (before (left rest) _ input k) d (λ j. delayed (at (left (filled rest))) _ input j) (λ j. e (suc j))
        (h k (omega arith) rest _ input)

    past_address : (r : ℕ) (name : List ℕ) (rest : List Line) → SimsNow rest (filled rest) →
        SimsNow (La r name ∷ rest) (La r name ∷ filled rest)
    past_address r name rest h s input =
        address_same r rest s input (delayed (at (left (La r name ∷ filled rest))) s input)
        (address_from statics_base name literals) (λ j. refl) i later

    straight_same : (m : Step) (rest : List Line) (input : List ℕ) (d : ℕ → Ran) →
        ((j : ℕ) → d (suc j) ≡ works 1 (done_behind input j (onward m (Some (left (filled rest)))))) →
        Same (suc i) (works 1 (done input i (plain.onward m (left rest)))) d
    straight_same (machine.Goes t) rest input d e =
        one_one i (before (left rest) t input i) d (delayed (at (left (filled rest))) t input) e (now rest t input)
    straight_same (machine.Ends f) rest input d e =
        same_at (suc i) (works 1 (stops input (Ended f))) d (suc i) (omega arith) (e i)
    straight_same (machine.Reads t) rest input d e =
        let u = answered t (first_byte input) in
        one_one i (before (left rest) u (later_bytes input) i) d (delayed (at (left (filled rest))) u (later_bytes input)) e
        (now rest u (later_bytes input))
    straight_same (machine.Writes bytes t) rest input d e =
        one_one i (writes bytes (before (left rest) t input i)) d
        (λ j. writes bytes (delayed (at (left (filled rest))) t input j)) e
        (writing i bytes (before (left rest) t input i) (delayed (at (left (filled rest))) t input) (now rest t input))

    past_straight : (one : Mips) (target : List ℕ) (rest : List Line) → controls one ≡ false → SimsNow rest (filled rest) →
        SimsNow (One one target ∷ rest) (One one target ∷ filled rest)
    past_straight one target rest c h s input =
        subst (λ r. Same (suc i) r (delayed (at (left (One one target ∷ filled rest))) s input))
        (sym (ap (λ w. works 1 (done input i (plain.row_does w one rest s)))
        (plainly_straight returns lines one target rest s c)))
        (straight_same (effect one s) rest input (delayed (at (left (One one target ∷ filled rest))) s input)
        (λ j. ap (λ w. works 1 (done_behind input j (row_does w one (filled rest) s)))
        (straight returns (filled lines) one target (filled rest) s c)))

    past_lone : (one : Mips) (target : List ℕ) (rest : List Line) → controls one ≡ true → SimsNow rest (filled rest) →
        SimsNow (One one target ∷ rest) (One one target ∷ nop ∷ filled rest)
    past_lone one target rest c h s input =
        alone_same (row.Sll 0 0 0) [] one target rest s input refl s refl i now
        (plain.way returns lines one target rest s) (way returns (filled lines) one target (nop ∷ filled rest) s) refl
        (way_alike returns lines (row.Sll 0 0 0) [] target rest s s one c (nothing_fits one s))

    past_pair : (one : Mips) (target : List ℕ) (other : Mips) (there : List ℕ) (rest : List Line) →
        movable one other ≡ true → SimsNow rest (filled rest) →
        SimsNow (One one target ∷ One other there ∷ rest) (One other there ∷ One one target ∷ filled rest)
    past_pair one target other there rest e h s input =
        subst (λ r. Same (suc i) r (delayed (at (left (One other there ∷ One one target ∷ filled rest))) s input))
        (sym (ap (λ w. works 1 (done input i (plain.row_does w one (One other there ∷ rest) s)))
        (plainly_straight returns lines one target (One other there ∷ rest) s plainly)))
        (by (effect one s) refl (is_quiet one s m.stays_not) i later)
      where
        m : Moves one other
        m = moves one other e

        plainly : controls one ≡ false
        plainly = stays_controls one m.stays_not

        go : (t : MachineState) → effect one s ≡ machine.Goes t → (k : ℕ) → ((n : ℕ) → n ≤ k → Sims n) →
            Same (suc k) (works 1 (before (left (One other there ∷ rest)) t input k))
            (delayed (at (left (One other there ∷ One one target ∷ filled rest))) s input)
        go t g zero l =
            first_alone one target other there rest s input plainly t g
            (plain.way returns lines other there rest t)
            (way returns (filled lines) other there (One one target ∷ filled rest) s) refl
            (way_alike returns lines one target there rest s t other m.turns (row_fits one other m s t plainly (no_call one plainly) g))
        go t g (suc k) l =
            both_same one target other there rest s input plainly t g k (l k (omega arith))
            (plain.way returns lines other there rest t)
            (way returns (filled lines) other there (One one target ∷ filled rest) s) refl
            (way_alike returns lines one target there rest s t other m.turns (row_fits one other m s t plainly (no_call one plainly) g))

        by : (d : Step) → effect one s ≡ d → IsQuiet d → (k : ℕ) → ((n : ℕ) → n ≤ k → Sims n) →
            Same (suc k) (works 1 (done input k (plain.onward d (left (One other there ∷ rest)))))
            (delayed (at (left (One other there ∷ One one target ∷ filled rest))) s input)
        by (machine.Goes t) g q k l = go t g k l
        by (machine.Ends f) g q k l =
            ends_there one target other there rest s input plainly f k
            (way returns (filled lines) other there (One one target ∷ filled rest) s) refl
            (way_ends returns lines one target there rest s s f other m.turns g (row_ends one other m s f g)) g
        by (machine.Reads t) g q k l = absurd q
        by (machine.Writes bytes t) g q k l = absurd q

    sims_next : (rest : List Line) → SimsNow rest (filled rest)
    sims_next rest =
        by_filling SimsNow nothing_left past_label past_address past_statics past_straight past_lone past_pair rest

  sims_below : (n i : ℕ) → i < n → Sims i
  sims_below zero i l rest s input = absurd (omega (arith, l))
  sims_below (suc n) zero l rest s input =
      same_at zero (before (left rest) s input zero) (delayed (at (left (filled rest))) s input) zero (omega arith) refl
  sims_below (suc n) (suc i) l rest s input = sims_next i (λ k m. sims_below n k (omega (arith, l, m))) rest s input

  pub sims : (i : ℕ) → Sims i
  sims i = sims_below (suc i) i (omega arith)

pub filling_keeps_runs : FillingKeepsRuns
filling_keeps_runs returns lines ls input heap stack = record {
  there = λ n right. by n (behind (codes "main") lines) (behind (codes "main") (filled lines)) (behind_filled (codes "main") lines) right;
}
  where
    s : MachineState
    s = initial_machine [] (statics_of ls) 0 heap stack

    by : (n : ℕ) (o p : Option Place) → p ≡ some_with_slots o →
        (plain.going_from returns lines ls o s input n).stop ≢ Wrong →
        (m : ℕ) × (n ≤ m) × DoesTheSame 2 0 (plain.going_from returns lines ls o s input n)
        (going_from returns (filled lines) ls p s input m)
    by n None p e right = absurd (right refl)
    by n (Some q) p e right =
        let x = places returns lines ls n (sims returns lines ls n) q s input right in (
          x.0,
          x.1,
          subst (λ r. DoesTheSame 2 0 (plain.going_from returns lines ls (Some q) s input n)
              (going_from returns (filled lines) ls r s input x.0)) (sym e) x.2,
        )
