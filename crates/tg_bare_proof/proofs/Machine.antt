-- The machine with delayed branches goes through the words of lines as their delayed run does.
use Rattle.std.proofs.Common.{ℕ, zero, suc, ◌≡◌, ◌≢◌, ◌<◌, ◌+◌, ◌*◌, ◌/◌, ◌%◌, ◌^◌, ◌==◌, List, [], ◌∷◌, length, refl}
use Rattle.std.proofs.Common.{ap, sym, ◌∙◌, subst, arith, eqb-true, Bool, true, false, Option, Some, None}
use Rattle.std.specs.Prelude.{if◌then◌else◌, slice_index, pos}
use Rattle.std.specs.Str.{bytes_eq}
use Rattle.tg_machine_state.specs.declared.ends.RunEnd.TheVariants.{Exit}
use Rattle.tg_base.specs.Words.{add, less, extended}
use Rattle.tg_machine_state.specs.State.{MachineState, register, set_register, go, code_base, statics_base}
use Rattle.tg_machine_state.specs.Services as machine
use Rattle.tg_machine_state.specs.Services.{Step, answered}
use Rattle.tg_simulation.specs.Ran as ran
use Rattle.tg_simulation.specs.Ran.{Ran, Wrong, stops, works, writes}
use Rattle.tg_isa.specs.declared.mips.Mips.{Mips}
use Rattle.tg_isa.specs.declared.mips.Mips.TheVariants as row
use Rattle.tg_isa.specs.Table.{word_of}
use Rattle.tg_isa.specs.Rows.{IsRow}
use Rattle.tg_isa.specs.Effects.{effect}
use Rattle.tg_isa.specs.ImageRuns.{first_byte, later_bytes}
use Rattle.tg_asm_text.specs.Items.{Upper, Lower}
use Rattle.tg_asm_text.specs.Writing.{coded_row}
use Rattle.tg_asm_text.specs.Placement.{AtWord, Positions, position_of, found_address, found_word, offset_to}
use Rattle.tg_asm_text.specs.Placement.{BranchReaches, JumpReaches}
use Rattle.tg_isa.specs.laws.Anywhere.{on, step_on, IsStraight}
use Rattle.tg_isa.proofs.Anywhere.{set_on, answered_on, effect_on}
use Rattle.tg_tree.specs.declared.fragments.Literal.{Literal}
use Rattle.tg_emit.specs.declared.assembly.Line.{Line}
use Rattle.tg_emit.specs.declared.assembly.Line.TheVariants.{Label, One, La, Statics}
use Rattle.tg_emit_proof.specs.LinesRun.{Place, left, at_zero, Returns, Way, Straight, Leads, Untaken, calls, behind, behind_call}
use Rattle.tg_emit_proof.specs.LinesRun.{place_of, address_from, leads_if, leads_unless, goes_halfway}
use Rattle.tg_emit_proof.proofs.Fetching.{place_at, fetch_is, next_is, branch_is, jump_is}
use Rattle.tg_emit_proof.proofs.Machine.{IsWord, StandAt, IsAt, AtLeft, Stands}
use Rattle.tg_bare.specs.Delayed as bare
use Rattle.tg_bare.specs.Delayed.{Bare, bare_step, straight_on, taken_to, turned, branched}
use Rattle.tg_bare.specs.BareRuns.{bare_run, answered_bare}
use Rattle.tg_delay_proof.specs.DelayedRun.{Point, at, in_slot, Did, Goes, Ends, Reads, Writes, Strays, behind_slot, over_slot, onward}
use Rattle.tg_delay_proof.specs.DelayedRun.{halfway, row_does, slot_does, way, lines_do, slot_do, step_of, delayed_going}
use Rattle.tg_bare_proof.specs.laws.Laws.{HasNoJalr}

-- what is behind a label has none either
label_without : (name : List ℕ) (ls : List Line) (rest : List Line) → HasNoJalr ls → behind name ls ≡ Some (left rest) →
    HasNoJalr rest
label_without name [] rest n h = cc
label_without name (Label other ∷ ls) rest n h = by (bytes_eq name other) h (label_without name ls rest n)
  where
    same : (q r : List Line) → Some (left q) ≡ Some (left r) → q ≡ r
    same q r e = cc

    by : (b : Bool) → (if b then Some (left ls) else behind name ls) ≡ Some (left rest) →
        (behind name ls ≡ Some (left rest) → HasNoJalr rest) → HasNoJalr rest
    by true e later = subst HasNoJalr (same ls rest e) n
    by false e later = later e
label_without name (One (row.Jalr rd rs) target ∷ ls) rest n h = absurd n
label_without name (One one target ∷ ls) rest n h = label_without name ls rest n h
label_without name (La r other ∷ ls) rest n h = label_without name ls rest n h
label_without name (Statics bytes ∷ ls) rest n h = label_without name ls rest n h

-- For an image's code and labels, and the words behind its calls.
module _ (code : List ℕ) (ps : Positions) (returns : Returns) where
  -- behind the slots
  abbrev pub slot_returns : Returns
  slot_returns k = returns k + 4

  abbrev pub Is : Place → ℕ → Type 0
  Is (left rest) place = AtLeft code ps returns rest place × HasNoJalr rest
  Is at_zero place = place ≡ 0

  abbrev pub LeadsTo : Option Place → ℕ → Type 0
  LeadsTo (Some p) place = Is p place
  LeadsTo None place = Unit {0}

  -- the machine's places at a point of the run
  abbrev pub Here : Point → (place next : ℕ) → Bool → Type 0
  Here (at p) place next z = Is p place × ((next ≡ add place 4) × (z ≡ false))
  Here (in_slot rest onto) place next z = Is (left rest) place × (LeadsTo onto next × (z ≡ true))

  abbrev pub standing : (place next : ℕ) → Bool → MachineState → Bare
  standing place next z s = record { state = on code place s; next = next; in_slot = z }

  record Found (wrap : Bare → bare.Did) (m : bare.Did) (q : Point) (t : MachineState) : Type 0 where
    place : ℕ
    next : ℕ
    slot : Bool
    is : m ≡ wrap (standing place next slot t)
    here : Here q place next slot

  abbrev Matches : bare.Did → Did → Type 0
  Matches m (Goes q t) = Found bare.Goes m q t
  Matches m (Ends e) = m ≡ bare.Ends e
  Matches m (Reads q t) = Found bare.Reads m q t
  Matches m (Writes bytes q t) = Found (bare.Writes bytes) m q t
  Matches m Strays = Unit {0}

  onward_matches : (m : Step) (next : ℕ) (o : Option Place) → LeadsTo o next →
      Matches (straight_on (step_on code next m)) (onward m o)
  onward_matches (machine.Ends e) next o l = refl
  onward_matches (machine.Goes t) next (Some p) l =
      record { place = next; next = add next 4; slot = false; is = refl; here = (l, (refl, refl)) }
  onward_matches (machine.Reads t) next (Some p) l =
      record { place = next; next = add next 4; slot = false; is = refl; here = (l, (refl, refl)) }
  onward_matches (machine.Writes bytes t) next (Some p) l =
      record { place = next; next = add next 4; slot = false; is = refl; here = (l, (refl, refl)) }
  onward_matches (machine.Goes t) next None l = tt
  onward_matches (machine.Reads t) next None l = tt
  onward_matches (machine.Writes bytes t) next None l = tt

  -- a step of a row that stands at a word
  step_is : (w : ℕ) (next : ℕ) (z : Bool) (one : Mips) (s : MachineState) → w < length code →
      slice_index code w ≡ word_of one → IsRow one →
      bare_step (standing (place_at w) next z s)
      ≡ bare.led (bare.way one (on code next s)) z one (on code next s)
  step_is w next z one s below is fits =
      ap (bare.performed (standing (place_at w) next z s)) (fetch_is code w one s below is fits)

  straight : (w : ℕ) (next : ℕ) (z : Bool) (one : Mips) (s : MachineState) (o : Option Place) → IsStraight one →
      bare.way one (on code next s) ≡ bare.Straight → w < length code → slice_index code w ≡ word_of one → IsRow one →
      LeadsTo o next → Matches (bare_step (standing (place_at w) next z s)) (onward (effect one s) o)
  straight w next z one s o plain e below is fits l =
      subst (λ m. Matches m (onward (effect one s) o))
      (sym (step_is w next z one s below is fits ∙ (ap (λ y. bare.led y z one (on code next s)) e
      ∙ ap straight_on (effect_on code next one s plain)))) (onward_matches (effect one s) next o l)

  -- what is left behind a slot stands one word on
  slot_leads : (w : ℕ) (ls : List Line) → StandAt code ps returns w ls → HasNoJalr ls →
      LeadsTo (behind_slot ls) (place_at (w + 1))
  slot_leads w [] h n = tt
  slot_leads w (Label name ∷ ls) h n = slot_leads w ls h n
  slot_leads w (One (row.Jalr rd rs) target ∷ ls) h n = absurd n
  slot_leads w (One one target ∷ ls) h n = (record { at = w + 1; is = refl; stands = h.1.1.1 }, n)
  slot_leads w (La r name ∷ ls) h n = tt
  slot_leads w (Statics bytes ∷ ls) h n = tt

  four_on : (w : ℕ) → place_at (w + 1) + 4 ≡ place_at (w + 1 + 1)
  four_on w = omega arith

  -- the word of a call leads behind its slot
  word_leads : (w : ℕ) (ls : List Line) (v : ℕ) → StandAt code ps returns w ls → HasNoJalr ls →
      LeadsTo (over_slot (behind_call slot_returns v ls)) v
  word_leads w [] v h n = tt
  word_leads w (Label name ∷ ls) v h n = word_leads w ls v h n
  word_leads w (La r name ∷ ls) v h n = word_leads (w + 2) ls v h.1.1.1 n
  word_leads w (Statics bytes ∷ ls) v h n = word_leads w ls v h n
  word_leads w (One (row.Jalr rd rs) target ∷ ls) v h n = absurd n
  word_leads w (One (row.Jal k) target ∷ ls) v h n =
      by (returns (calls ls) + 4 == v) refl (word_leads (w + 1) ls v h.1.1.1 n)
    where
      by : (b : Bool) → (returns (calls ls) + 4 == v) ≡ b → LeadsTo (over_slot (behind_call slot_returns v ls)) v →
          LeadsTo (over_slot (if b then Some (left ls) else behind_call slot_returns v ls)) v
      by true e later =
          subst (LeadsTo (behind_slot ls))
          (sym (four_on w) ∙ (ap (λ x. x + 4) (sym h.1.1.0) ∙ eqb-true (returns (calls ls) + 4) v e))
          (slot_leads (w + 1) ls h.1.1.1 n)
      by false e later = later
  word_leads w (One one target ∷ ls) v h n = word_leads (w + 1) ls v h.1.1.1 n

  module _ (lines : List Line) (literals : List Literal) (all : Stands code ps returns lines literals)
      (lines_stand : StandAt code ps returns 0 lines) (without : HasNoJalr lines) where
    jump_word : (v : ℕ) → LeadsTo (over_slot (place_of slot_returns v lines)) v
    jump_word v = by (v == 0) refl
      where
        by : (b : Bool) → (v == 0) ≡ b →
            LeadsTo (over_slot (if b then Some at_zero else behind_call slot_returns v lines)) v
        by true e = eqb-true v 0 e
        by false e = word_leads 0 lines v lines_stand without

    -- labels, where branches and jumps reach
    pub label_leads : (target : List ℕ) (p : Place) → behind target lines ≡ Some p →
        (word : ℕ) × (position_of ps target ≡ Some (AtWord word)) × Is p (place_at word)
    label_leads target (left rest) h =
        let l = all.labels target (left rest) h in (l.0, l.1, (l.2, label_without target lines rest without h))
    label_leads target at_zero h = let l = all.labels target at_zero h in (l.0, l.1, l.2)

    branch_leads : (w : ℕ) (target : List ℕ) (s : MachineState) (o : Option Place) → behind target lines ≡ o → w < length code →
        BranchReaches w (position_of ps target) →
        LeadsTo o (add (place_at (w + 1)) (4 * extended (offset_to w (found_word (position_of ps target))) % 2 ^ 32))
    branch_leads w target s None h below reaches = tt
    branch_leads w target s (Some p) h below reaches =
        let l = label_leads target p h in
        let near : BranchReaches w (Some (AtWord l.0)) = subst (BranchReaches w) l.1 reaches in
        let short = all.short in
        let e : add (place_at (w + 1)) (4 * extended (offset_to w (found_word (position_of ps target))) % 2 ^ 32)
        ≡ place_at l.0 =
        rw l.1 (branch_is w l.0 (omega (arith, short, below)) near.0 near.1) in
        subst (Is p) (sym e) l.2

    jump_leads : (w : ℕ) (target : List ℕ) (o : Option Place) → behind target lines ≡ o → w < length code →
        JumpReaches (length code) (position_of ps target) →
        LeadsTo o (place_at (w + 1) / 2 ^ 28 * 2 ^ 28 + 4 * (code_base / 4 + found_word (position_of ps target)))
    jump_leads w target None h below reaches = tt
    jump_leads w target (Some p) h below reaches =
        let l = label_leads target p h in
        let short = all.short in
        let e : place_at (w + 1) / 2 ^ 28 * 2 ^ 28 + 4 * (code_base / 4 + found_word (position_of ps target)) ≡ place_at l.0 =
        rw l.1 (jump_is w l.0 (omega (arith, short, below))) in
        subst (Is p) (sym e) l.2

    jump_fits : (target : List ℕ) → JumpReaches (length code) (position_of ps target) →
        code_base / 4 + found_word (position_of ps target) < 2 ^ 26
    jump_fits target reaches = by (position_of ps target) reaches
      where
        by : (o : Option _) → JumpReaches (length code) o → code_base / 4 + found_word o < 2 ^ 26
        by (Some (AtWord n)) r = let short = all.short in omega (arith, short, r)
        by (Some _) r = absurd r
        by None r = absurd r

    offset_fits : (w to : ℕ) → offset_to w to < 2 ^ 16
    offset_fits w to = omega arith

    -- A row outside of slots. Its slot is the next word.
    module _ (w : ℕ) (rest : List Line) (s : MachineState) (below : w < length code)
        (stands : StandAt code ps returns (w + 1) rest) (n : HasNoJalr rest) where
      behind_both : add (place_at (w + 1)) 4 ≡ place_at (w + 1 + 1)
      behind_both = let short = all.short in next_is (w + 1) (omega (arith, short, below))

      abbrev from_here : bare.Did
      from_here = bare_step (standing (place_at w) (place_at (w + 1)) false s)

      turns : (m : bare.Did) (to : Option ℕ) (o : Option Place) (t : MachineState) →
          m ≡ bare.Goes (standing (place_at (w + 1)) (taken_to to (add (place_at (w + 1)) 4)) true t) →
          LeadsTo o (taken_to to (add (place_at (w + 1)) 4)) → Matches m (Goes (in_slot rest o) t)
      turns m to o t e l = record {
        place = place_at (w + 1);
        next = taken_to to (add (place_at (w + 1)) 4);
        slot = true;
        is = e;
        here = ((record { at = w + 1; is = refl; stands = stands }, n), (l, refl));
      }

      not_taken : (one : Mips) (m : bare.Did) →
          m ≡ bare.Goes (standing (place_at (w + 1)) (add (place_at (w + 1)) 4) true s) →
          Matches m (row_does Untaken one rest s)
      not_taken one m e =
          turns m None (behind_slot rest) s e (subst (LeadsTo (behind_slot rest)) (sym behind_both) (slot_leads (w + 1) rest stands n))

      if_taken : (b : Bool) (one : Mips) (target : List ℕ) (m : bare.Did) → BranchReaches w (position_of ps target) →
          m ≡ bare.led (bare.turns_if b
          (branched (on code (place_at (w + 1)) s) (offset_to w (found_word (position_of ps target))))
          (on code (place_at (w + 1)) s)) false one (on code (place_at (w + 1)) s) →
          Matches m (row_does (leads_if b (behind target lines) s) one rest s)
      if_taken true one target m reaches e =
          turns m (Some _) (behind target lines) s e (branch_leads w target s (behind target lines) refl below reaches)
      if_taken false one target m reaches e = not_taken one m e

      unless_taken : (b : Bool) (one : Mips) (target : List ℕ) (m : bare.Did) → BranchReaches w (position_of ps target) →
          m ≡ bare.led (bare.turns_unless b
          (branched (on code (place_at (w + 1)) s) (offset_to w (found_word (position_of ps target))))
          (on code (place_at (w + 1)) s)) false one (on code (place_at (w + 1)) s) →
          Matches m (row_does (leads_unless b (behind target lines) s) one rest s)
      unless_taken true one target m reaches e = not_taken one m e
      unless_taken false one target m reaches e =
          turns m (Some _) (behind target lines) s e (branch_leads w target s (behind target lines) refl below reaches)

    row_matches : (w : ℕ) (one : Mips) (target : List ℕ) (rest : List Line) (s : MachineState) →
        StandAt code ps returns w (One one target ∷ rest) → HasNoJalr (One one target ∷ rest) →
        Matches (bare_step (standing (place_at w) (place_at (w + 1)) false s))
        (row_does (way slot_returns lines one target rest s) one rest s)
    row_matches w (row.Jalr rd rs) target rest s h n = absurd n
    row_matches w (row.J k) target rest s h n =
        turns w rest s h.0.below h.1.1.1 n _ (Some _) (behind target lines) s
        (step_is w (place_at (w + 1)) false (row.J (code_base / 4 + found_word (position_of ps target))) s h.0.below h.0.is
        (jump_fits target h.0.reaches))
        (jump_leads w target (behind target lines) refl h.0.below h.0.reaches)
    row_matches w (row.Jal k) target rest s h n =
        turns w rest s h.0.below h.1.1.1 n _ (Some _) (behind target lines) (set_register s 31 (slot_returns (calls rest)))
        (step_is w (place_at (w + 1)) false (row.Jal (code_base / 4 + found_word (position_of ps target))) s h.0.below h.0.is
        (jump_fits target h.0.reaches)
        ∙ ap (λ v. bare.Goes (standing (place_at (w + 1))
        (place_at (w + 1) / 2 ^ 28 * 2 ^ 28 + 4 * (code_base / 4 + found_word (position_of ps target))) true (set_register s 31 v)))
        (behind_both w rest s h.0.below h.1.1.1 n ∙ (sym (four_on w) ∙ ap (λ v. v + 4) (sym h.1.1.0))))
        (jump_leads w target (behind target lines) refl h.0.below h.0.reaches)
    row_matches w (row.Jr rs) target rest s h n =
        turns w rest s h.0.below h.1.1.1 n _ (Some (register s rs)) (over_slot (place_of slot_returns (register s rs) lines)) s
        (step_is w (place_at (w + 1)) false (row.Jr rs) s h.0.below h.0.is h.1.0) (jump_word (register s rs))
    row_matches w (row.Beq rs rt k) target rest s h n =
        if_taken w rest s h.0.below h.1.1.1 n (register s rs == register s rt) (row.Beq rs rt k) target _ h.0.reaches
        (step_is w (place_at (w + 1)) false (row.Beq rs rt (offset_to w (found_word (position_of ps target)))) s h.0.below h.0.is
        (h.1.0.0, h.1.0.1, offset_fits w _))
    row_matches w (row.Bne rs rt k) target rest s h n =
        unless_taken w rest s h.0.below h.1.1.1 n (register s rs == register s rt) (row.Bne rs rt k) target _ h.0.reaches
        (step_is w (place_at (w + 1)) false (row.Bne rs rt (offset_to w (found_word (position_of ps target)))) s h.0.below h.0.is
        (h.1.0.0, h.1.0.1, offset_fits w _))
    row_matches w (row.Blez rs k) target rest s h n =
        unless_taken w rest s h.0.below h.1.1.1 n (less 0 (register s rs)) (row.Blez rs k) target _ h.0.reaches
        (step_is w (place_at (w + 1)) false (row.Blez rs (offset_to w (found_word (position_of ps target)))) s h.0.below h.0.is
        (h.1.0.0, offset_fits w _))
    row_matches w (row.Bgtz rs k) target rest s h n =
        if_taken w rest s h.0.below h.1.1.1 n (less 0 (register s rs)) (row.Bgtz rs k) target _ h.0.reaches
        (step_is w (place_at (w + 1)) false (row.Bgtz rs (offset_to w (found_word (position_of ps target)))) s h.0.below h.0.is
        (h.1.0.0, offset_fits w _))
    row_matches w (row.Bltz rs k) target rest s h n =
        if_taken w rest s h.0.below h.1.1.1 n (less (register s rs) 0) (row.Bltz rs k) target _ h.0.reaches
        (step_is w (place_at (w + 1)) false (row.Bltz rs (offset_to w (found_word (position_of ps target)))) s h.0.below h.0.is
        (h.1.0.0, offset_fits w _))
    row_matches w (row.Bgez rs k) target rest s h n =
        unless_taken w rest s h.0.below h.1.1.1 n (less (register s rs) 0) (row.Bgez rs k) target _ h.0.reaches
        (step_is w (place_at (w + 1)) false (row.Bgez rs (offset_to w (found_word (position_of ps target)))) s h.0.below h.0.is
        (h.1.0.0, offset_fits w _))
    row_matches w one target rest s h n =
        straight w (place_at (w + 1)) false one s (Some (left rest)) tt refl h.0.below h.0.is h.1.0
        (record { at = w + 1; is = refl; stands = h.1.1.1 }, n)

    -- a row in a slot
    strays_if : (m : bare.Did) (b : Bool) (p : Option Place) (one : Mips) (o : Option Place) (s : MachineState) →
        Matches m (slot_does (leads_if b p s) one o s)
    strays_if m true p one o s = tt
    strays_if m false p one o s = tt

    strays_unless : (m : bare.Did) (b : Bool) (p : Option Place) (one : Mips) (o : Option Place) (s : MachineState) →
        Matches m (slot_does (leads_unless b p s) one o s)
    strays_unless m true p one o s = tt
    strays_unless m false p one o s = tt

    slot_row : (w next : ℕ) (one : Mips) (target : List ℕ) (rest : List Line) (o : Option Place) (s : MachineState) →
        StandAt code ps returns w (One one target ∷ rest) → LeadsTo o next →
        Matches (bare_step (standing (place_at w) next true s))
        (slot_does (way slot_returns lines one target rest s) one o s)
    slot_row w next (row.J k) target rest o s h l = tt
    slot_row w next (row.Jal k) target rest o s h l = tt
    slot_row w next (row.Jr rs) target rest o s h l = tt
    slot_row w next (row.Jalr rd rs) target rest o s h l = tt
    slot_row w next (row.Beq rs rt k) target rest o s h l = strays_if _ _ _ _ o s
    slot_row w next (row.Bne rs rt k) target rest o s h l = strays_unless _ _ _ _ o s
    slot_row w next (row.Blez rs k) target rest o s h l = strays_unless _ _ _ _ o s
    slot_row w next (row.Bgtz rs k) target rest o s h l = strays_if _ _ _ _ o s
    slot_row w next (row.Bltz rs k) target rest o s h l = strays_if _ _ _ _ o s
    slot_row w next (row.Bgez rs k) target rest o s h l = strays_unless _ _ _ _ o s
    slot_row w next one target rest o s h l = straight w next true one s o tt refl h.0.below h.0.is h.1.0 l

    slot_matches : (w next : ℕ) (ls : List Line) (o : Option Place) (s : MachineState) → StandAt code ps returns w ls →
        LeadsTo o next →
        Matches (bare_step (standing (place_at w) next true s)) (slot_do slot_returns lines literals ls o s)
    slot_matches w next [] o s h l = tt
    slot_matches w next (Label name ∷ ls) o s h l = slot_matches w next ls o s h l
    slot_matches w next (One one target ∷ ls) o s h l = slot_row w next one target ls o s h l
    slot_matches w next (La r name ∷ ls) o s h l = tt
    slot_matches w next (Statics bytes ∷ ls) o s h l = tt

    -- the address of a literal, by its halves
    upper_fits : (a : ℕ) → a < 2 ^ 32 → a / 2 ^ 16 < 2 ^ 16
    upper_fits a h = omega (arith, h)

    lower_fits : (a : ℕ) → a % 65536 < 2 ^ 16
    lower_fits a = omega arith

    two_on : (w : ℕ) → w + 2 ≡ w + 1 + 1
    two_on w = omega arith

    halves : (w r : ℕ) (name : List ℕ) (rest : List Line) (s : MachineState) (o : Option ℕ) →
        address_from statics_base name literals ≡ o → StandAt code ps returns w (La r name ∷ rest) → HasNoJalr rest →
        Matches (bare_step (standing (place_at w) (place_at (w + 1)) false s)) (halfway (goes_halfway r o rest s))
    halves w r name rest s None there h n = tt
    halves w r name rest s (Some a) there h n =
        let l = all.addresses name a there in
        let v = h.1.0 in
        let upper : slice_index code w ≡ word_of (row.Lui r (a / 2 ^ 16)) =
        h.0.is ∙ ap (λ m. word_of (row.Lui r (m / 2 ^ 16))) l.0 in
        let lower : slice_index code (w + 1) ≡ word_of (row.Ori r r (a % 65536)) =
        v.is ∙ ap (λ m. word_of (row.Ori r r (m % 2 ^ 16))) l.0 in
        let second : IsWord code ps returns (w + 1) (coded_row (row.Ori r r (a % 65536)) []) =
        record { below = v.below; is = lower; reaches = tt } in
        straight w (place_at (w + 1)) false (row.Lui r (a / 2 ^ 16)) s
        (Some (left (One (row.Ori r r (a % 65536)) [] ∷ rest))) tt refl h.0.below upper (h.1.1.0, upper_fits a l.1) (
          record {
            at = w + 1;
            is = refl;
            stands = (
              second,
              (
                (h.1.1.0, h.1.1.0, lower_fits a),
                (tt, subst (λ k. StandAt code ps returns k rest) (two_on w) h.1.1.1),
              ),
            );
          },
          n,
        )

    lines_match : (w next : ℕ) (ls : List Line) (s : MachineState) → next ≡ add (place_at w) 4 →
        StandAt code ps returns w ls → HasNoJalr ls →
        Matches (bare_step (standing (place_at w) next false s)) (lines_do slot_returns lines literals ls s)
    lines_match w next [] s e h n = tt
    lines_match w next (Label name ∷ ls) s e h n = lines_match w next ls s e h n
    lines_match w next (One one target ∷ ls) s e h n =
        let short = all.short in
        let below = h.0.below in
        subst (λ k. Matches (bare_step (standing (place_at w) k false s))
        (row_does (way slot_returns lines one target ls s) one ls s))
        (sym (e ∙ next_is w (omega (arith, short, below)))) (row_matches w one target ls s h n)
    lines_match w next (La r name ∷ ls) s e h n =
        let short = all.short in
        let below = h.0.below in
        subst (λ k. Matches (bare_step (standing (place_at w) k false s))
        (halfway (goes_halfway r (address_from statics_base name literals) ls s)))
        (sym (e ∙ next_is w (omega (arith, short, below))))
        (halves w r name ls s (address_from statics_base name literals) refl h n)
    lines_match w next (Statics bytes ∷ ls) s e h n = tt

    point_matches : (p : Point) (place next : ℕ) (z : Bool) (s : MachineState) → Here p place next z →
        Matches (bare_step (standing place next z s)) (step_of slot_returns lines literals p s)
    point_matches (at (left rest)) place next z s h =
        subst (λ y. Matches (bare_step (standing place next y s)) (lines_do slot_returns lines literals rest s)) (sym h.1.1)
        (subst (λ q. Matches (bare_step (standing q next false s)) (lines_do slot_returns lines literals rest s))
        (sym h.0.0.is)
        (lines_match h.0.0.at next rest s (h.1.0 ∙ ap (λ q. add q 4) h.0.0.is) h.0.0.stands h.0.1))
    point_matches (at at_zero) place next z s h =
        subst (λ q. bare_step (standing q next z s) ≡ bare.Ends (Exit (pos 0))) (sym h.0) refl
    point_matches (in_slot rest onto) place next z s h =
        subst (λ y. Matches (bare_step (standing place next y s)) (slot_do slot_returns lines literals rest onto s))
        (sym h.1.1)
        (subst (λ q. Matches (bare_step (standing q next true s)) (slot_do slot_returns lines literals rest onto s))
        (sym h.0.0.is) (slot_matches h.0.0.at next rest onto s h.0.0.stands h.1.0))

    -- the run of the machine by its step
    abbrev stepped : (input : List ℕ) → ℕ → bare.Did → Ran
    stepped input n (bare.Goes t) = bare_run t input n
    stepped input n (bare.Ends e) = stops input (ran.Ended e)
    stepped input n (bare.Reads t) = bare_run (answered_bare t (first_byte input)) (later_bytes input) n
    stepped input n (bare.Writes bytes t) = writes bytes (bare_run t input n)

    abbrev going : Point → MachineState → (input : List ℕ) → ℕ → Ran
    going p s input n = delayed_going slot_returns lines literals p s input n

    abbrev done : (input : List ℕ) → ℕ → Did → Ran
    done input n (Goes q t) = going q t input n
    done input n (Ends e) = stops input (ran.Ended e)
    done input n (Reads q t) = going q (answered t (first_byte input)) (later_bytes input) n
    done input n (Writes bytes q t) = writes bytes (going q t input n)
    done input n Strays = stops input Wrong

    -- as long as the lines don't go wrong
    pub runs : (n : ℕ) (p : Point) (place next : ℕ) (z : Bool) (s : MachineState) (input : List ℕ) → Here p place next z →
        (going p s input n).stop ≢ Wrong → bare_run (standing place next z s) input n ≡ going p s input n
    runs zero p place next z s input h right = refl
    runs (suc n) p place next z s input h right =
        ap (works 1) (by (bare_step (standing place next z s)) (step_of slot_returns lines literals p s)
        (point_matches p place next z s h) right (runs n))
      where
        Later : Type 0
        Later = (p : Point) (place next : ℕ) (z : Bool) (s : MachineState) (input : List ℕ) → Here p place next z →
            (going p s input n).stop ≢ Wrong → bare_run (standing place next z s) input n ≡ going p s input n

        by : (m : bare.Did) (d : Did) → Matches m d → (done input n d).stop ≢ Wrong → Later →
            stepped input n m ≡ done input n d
        by m (Goes q t) f r later =
            ap (stepped input n) f.is ∙ later q f.place f.next f.slot t input f.here r
        by m (Ends e) f r later = ap (stepped input n) f
        by m (Reads q t) f r later =
            ap (stepped input n) f.is
            ∙ (ap (λ u. bare_run (record { state = u; next = f.next; in_slot = f.slot }) (later_bytes input) n)
            (answered_on code f.place t (first_byte input))
            ∙ later q f.place f.next f.slot (answered t (first_byte input)) (later_bytes input) f.here r)
        by m (Writes bytes q t) f r later =
            ap (stepped input n) f.is ∙ ap (writes bytes) (later q f.place f.next f.slot t input f.here r)
        by m Strays f r later = absurd (r refl)
