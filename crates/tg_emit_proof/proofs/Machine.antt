-- The machine goes through the words of lines as the lines' own run does.
use Rattle.std.proofs.Common.{ℕ, zero, suc, ◌≡◌, ◌≢◌, ◌<◌, ◌+◌, ◌*◌, ◌/◌, ◌%◌, ◌^◌, ◌==◌, List, [], ◌∷◌, length, refl}
use Rattle.std.proofs.Common.{ap, sym, ◌∙◌, subst, arith, eqb-true, Bool, true, false, Option, Some, None}
use Rattle.std.specs.Prelude.{if◌then◌else◌, slice_index, pos}
use Rattle.tg_machine_state.specs.declared.ends.RunEnd.TheVariants.{Exit}
use Rattle.tg_base.specs.Words.{add, less, extended}
use Rattle.tg_machine_state.specs.State.{MachineState, register, set_register, go, code_base, statics_base}
use Rattle.tg_machine_state.specs.Services as machine
use Rattle.tg_machine_state.specs.Services.{Step, answered}
use Rattle.tg_simulation.specs.Ran as ran
use Rattle.tg_simulation.specs.Ran.{Ran, Wrong, stops, works, writes}
use Rattle.tg_isa.specs.declared.mips.Mips.{Mips}
use Rattle.tg_isa.specs.declared.mips.Mips.TheVariants as row
use Rattle.tg_isa.specs.Table.{word_of}
use Rattle.tg_isa.specs.Rows.{IsRow}
use Rattle.tg_isa.specs.Effects.{effect, step, performed, branch_if, branch_unless}
use Rattle.tg_isa.specs.ImageRuns.{machine_run, first_byte, later_bytes}
use Rattle.tg_asm_text.specs.Items.{Coded, Upper, Lower}
use Rattle.tg_asm_text.specs.Writing.{coded_row}
use Rattle.tg_asm_text.specs.Placement.{AtWord, Positions, position_of, placed_word, found_address, found_word, offset_to}
use Rattle.tg_asm_text.specs.Placement.{WordReaches, BranchReaches, JumpReaches}
use Rattle.tg_tree.specs.declared.fragments.Literal.{Literal}
use Rattle.tg_emit.specs.declared.assembly.Line.{Line}
use Rattle.tg_emit.specs.declared.assembly.Line.TheVariants.{Label, One, La, Statics}
use Rattle.tg_emit_proof.specs.LinesRun.{Place, left, at_zero, Returns, calls, behind, behind_call, place_of, address_from}
use Rattle.tg_emit_proof.specs.LinesRun.{leads_if, leads_unless, way, Did, Goes, Ends, Reads, Writes, Strays, onward}
use Rattle.tg_emit_proof.specs.LinesRun.{goes_to, goes_halfway, row_does, lines_do, step_of, lines_going}
use Rattle.tg_isa.specs.laws.Anywhere.{on, step_on, IsStraight}
use Rattle.tg_isa.proofs.Anywhere.{set_on, answered_on, effect_on}
use Rattle.tg_emit_proof.proofs.Fetching.{place_at, fetch_is, next_is, branch_is, jump_is}

-- For an image's code and labels, and the words after its calls.
module _ (code : List ℕ) (ps : Positions) (returns : Returns) where
  -- a word of the code is that of a row, and what it leads to is within reach
  pub record IsWord (at : ℕ) (c : Coded) : Type 0 where
    pub below : at < length code
    pub is : slice_index code at ≡ placed_word ps at c
    pub reaches : WordReaches ps (length code) at c

  abbrev pub ComesBack : (at : ℕ) → Mips → List Line → Type 0
  ComesBack at (row.Jal n) rest = returns (calls rest) ≡ place_at (at + 1)
  ComesBack at one rest = Unit {0}

  -- the words of lines stand from a word on
  abbrev pub StandAt : (at : ℕ) → List Line → Type 0
  StandAt at [] = Unit {0}
  StandAt at (Label name ∷ rest) = StandAt at rest
  StandAt at (One one target ∷ rest) =
      IsWord at (coded_row one target) × (IsRow one × (ComesBack at one rest × StandAt (at + 1) rest))
  StandAt at (La r name ∷ rest) = IsWord at (Upper r name)
      × (IsWord (at + 1) (Lower r name) × ((r < 32) × StandAt (at + 2) rest))
  StandAt at (Statics bytes ∷ rest) = StandAt at rest

  -- the machine's place of a place of the lines
  pub record AtLeft (rest : List Line) (place : ℕ) : Type 0 where
    pub at : ℕ
    pub is : place ≡ place_at at
    pub stands : StandAt at rest

  abbrev pub IsAt : Place → ℕ → Type 0
  IsAt (left rest) place = AtLeft rest place
  IsAt at_zero place = place ≡ 0

  -- what labels, calls and literals stand for
  pub record Stands (lines : List Line) (literals : List Literal) : Type 0 where
    pub short : length code < 66060288
    pub labels : (name : List ℕ) (p : Place) → behind name lines ≡ Some p →
        (word : ℕ) × (position_of ps name ≡ Some (AtWord word)) × IsAt p (place_at word)
    pub calls : (v : ℕ) (p : Place) → behind_call returns v lines ≡ Some p → IsAt p v
    pub addresses : (name : List ℕ) (a : ℕ) → address_from statics_base name literals ≡ Some a →
        (found_address (position_of ps name) ≡ a) × (a < 2 ^ 32)

  -- a step of the machine and what the lines do
  abbrev Matches : Step → Did → Type 0
  Matches m (Goes p s) = (place : ℕ) × (m ≡ machine.Goes (on code place s)) × IsAt p place
  Matches m (Ends e) = m ≡ machine.Ends e
  Matches m (Reads p s) = (place : ℕ) × (m ≡ machine.Reads (on code place s)) × IsAt p place
  Matches m (Writes bytes p s) = (place : ℕ) × (m ≡ machine.Writes bytes (on code place s)) × IsAt p place
  Matches m Strays = Unit {0}

  onward_matches : (st : Step) (place : ℕ) (p : Place) → IsAt p place → Matches (step_on code place st) (onward st p)
  onward_matches (machine.Goes s) place p h = (place, refl, h)
  onward_matches (machine.Ends e) place p h = refl
  onward_matches (machine.Reads s) place p h = (place, refl, h)
  onward_matches (machine.Writes bytes s) place p h = (place, refl, h)

  -- a step of a row that stands at a word
  step_is : (at : ℕ) (one : Mips) (s : MachineState) → length code < 66060288 → at < length code →
      slice_index code at ≡ word_of one → IsRow one →
      step (on code (place_at at) s) ≡ effect one (on code (place_at (at + 1)) s)
  step_is at one s short below is fits =
      ap (performed (on code (place_at at) s)) (fetch_is code at one s below is fits)
      ∙ ap (λ p. effect one (on code p s)) (next_is at (omega (arith, short, below)))

  module _ (lines : List Line) (literals : List Literal) (all : Stands lines literals) where
    straight : (at : ℕ) (one : Mips) (rest : List Line) (s : MachineState) → IsStraight one → at < length code →
        slice_index code at ≡ word_of one →
        IsRow one → StandAt (at + 1) rest →
        Matches (step (on code (place_at at) s)) (onward (effect one s) (left rest))
    straight at one rest s plain below is fits more =
        subst (λ m. Matches m (onward (effect one s) (left rest)))
        (sym (step_is at one s all.short below is fits ∙ effect_on code (place_at (at + 1)) one s plain))
        (onward_matches (effect one s) (place_at (at + 1)) (left rest) (record {
          at = at + 1;
          is = refl;
          stands =
              more;
        }))

    -- a branch that is taken
    reached : (at : ℕ) (target : List ℕ) (p : Place) (s : MachineState) → at < length code →
        BranchReaches at (position_of ps target) →
        behind target lines ≡ Some p →
        (place : ℕ) × (machine.Goes (go (on code (place_at (at + 1)) s)
        (add (place_at (at + 1)) (4 * extended (offset_to at (found_word (position_of ps target))) % 2 ^ 32)))
        ≡ machine.Goes (on code place s)) × IsAt p place
    reached at target p s below reaches there =
        let l = all.labels target p there in
        let word = l.0 in
        let near : BranchReaches at (Some (AtWord word)) = subst (BranchReaches at) l.1 reaches in
        let short = all.short in
        let e : add (place_at (at + 1)) (4 * extended (offset_to at (found_word (position_of ps target))) % 2 ^ 32)
        ≡ place_at word =
        rw l.1 (branch_is at word (omega (arith, short, below)) near.0 near.1) in
        (place_at word, ap (λ q. machine.Goes (on code q s)) e, l.2)

    -- whether a branch is taken
    taken : (at : ℕ) (target : List ℕ) (rest : List Line) (s : MachineState) (m : Step) (o : Option Place) →
        behind target lines ≡ o →
        at < length code → BranchReaches at (position_of ps target) →
        m ≡ machine.Goes (go (on code (place_at (at + 1)) s)
        (add (place_at (at + 1)) (4 * extended (offset_to at (found_word (position_of ps target))) % 2 ^ 32))) →
        Matches m (goes_to o s)
    taken at target rest s m None there below reaches e = tt
    taken at target rest s m (Some p) there below reaches e =
        let r = reached at target p s below reaches there in
        (r.0, e ∙ r.1, r.2)

    if_taken : (b : Bool) (at : ℕ) (one : Mips) (target : List ℕ) (rest : List Line) (s : MachineState) (m : Step) →
        at < length code →
        BranchReaches at (position_of ps target) → StandAt (at + 1) rest →
        m ≡ branch_if b (on code (place_at (at + 1)) s) (offset_to at (found_word (position_of ps target))) →
        Matches m (row_does (leads_if b (behind target lines) s) one rest s)
    if_taken true at one target rest s m below reaches more e =
        taken at target rest s m (behind target lines) refl below reaches e
    if_taken false at one target rest s m below reaches more e =
        (place_at (at + 1), e, record { at = at + 1; is = refl; stands = more })

    unless_taken : (b : Bool) (at : ℕ) (one : Mips) (target : List ℕ) (rest : List Line) (s : MachineState)
        (m : Step) → at < length code →
        BranchReaches at (position_of ps target) → StandAt (at + 1) rest →
        m ≡ branch_unless b (on code (place_at (at + 1)) s) (offset_to at (found_word (position_of ps target))) →
        Matches m (row_does (leads_unless b (behind target lines) s) one rest s)
    unless_taken true at one target rest s m below reaches more e =
        (place_at (at + 1), e, record { at = at + 1; is = refl; stands = more })
    unless_taken false at one target rest s m below reaches more e =
        taken at target rest s m (behind target lines) refl below reaches e

    -- jumps
    jumped : (at : ℕ) (target : List ℕ) (p : Place) → at < length code →
        JumpReaches (length code) (position_of ps target) → behind target lines ≡ Some p →
        (code_base / 4 + found_word (position_of ps target) < 2 ^ 26)
        × ((place : ℕ) × (place_at (at + 1) / 2 ^ 28 * 2 ^ 28 + 4 *
        (code_base / 4 + found_word (position_of ps target)) ≡ place) × IsAt p place)
    jumped at target p below reaches there =
        let l = all.labels target p there in
        let word = l.0 in
        let near : word < length code = subst (JumpReaches (length code)) l.1 reaches in
        let short = all.short in
        let fits : code_base / 4 + word < 2 ^ 26 = omega (arith, near, short) in
        (rw l.1 fits, (place_at word, rw l.1 (jump_is at word (omega (arith, short, below))), l.2))

    jump_matches : (at : ℕ) (target : List ℕ) (rest : List Line) (s : MachineState) (o : Option Place) →
        behind target lines ≡ o →
        IsWord at (coded_row (row.J 0) target) → Matches (step (on code (place_at at) s)) (goes_to o s)
    jump_matches at target rest s None there w = tt
    jump_matches at target rest s (Some p) there w =
        let j = jumped at target p w.below w.reaches there in (
          j.1.0,
          step_is at (row.J (code_base / 4 + found_word (position_of ps target))) s all.short w.below w.is j.0
              ∙ ap (λ q. machine.Goes (on code q s)) j.1.1,
          j.1.2,
        )

    call_matches : (at : ℕ) (target : List ℕ) (rest : List Line) (s : MachineState) (o : Option Place) →
        behind target lines ≡ o →
        IsWord at (coded_row (row.Jal 0) target) → returns (calls rest) ≡ place_at (at + 1) →
        Matches (step (on code (place_at at) s)) (goes_to o (set_register s 31 (returns (calls rest))))
    call_matches at target rest s None there w comes = tt
    call_matches at target rest s (Some p) there w comes =
        let j = jumped at target p w.below w.reaches there in (
          j.1.0,
          step_is at (row.Jal (code_base / 4 + found_word (position_of ps target))) s all.short w.below w.is j.0
              ∙ (ap (λ q. machine.Goes (on code q (set_register s 31 (place_at (at + 1))))) j.1.1
              ∙ ap (λ v. machine.Goes (on code j.1.0 (set_register s 31 v))) (sym comes)),
          j.1.2,
        )

    back_matches : (s : MachineState) (m : Step) (v : ℕ) → m ≡ machine.Goes (on code v s) →
        Matches m (goes_to (place_of returns v lines) s)
    back_matches s m v e = by (v == 0) refl
      where
        called : (o : Option Place) → behind_call returns v lines ≡ o → Matches m (goes_to o s)
        called None there = tt
        called (Some p) there = (v, e, all.calls v p there)

        by : (b : Bool) → (v == 0) ≡ b →
            Matches m (goes_to (if b then Some at_zero else behind_call returns v lines) s)
        by true z = (v, e, eqb-true v 0 z)
        by false z = called (behind_call returns v lines) refl

    offset_fits : (at to : ℕ) → offset_to at to < 2 ^ 16
    offset_fits at to = omega arith

    row_matches : (at : ℕ) (one : Mips) (target : List ℕ) (rest : List Line) (s : MachineState) →
        IsWord at (coded_row one target) → IsRow one →
        ComesBack at one rest → StandAt (at + 1) rest →
        Matches (step (on code (place_at at) s)) (row_does (way returns lines one target rest s) one rest s)
    row_matches at (row.J n) target rest s w fits c more = jump_matches at target rest s (behind target lines) refl w
    row_matches at (row.Jal n) target rest s w fits c more =
        call_matches at target rest s (behind target lines) refl w c
    row_matches at (row.Jr rs) target rest s w fits c more =
        back_matches s (step (on code (place_at at) s)) (register s rs)
        (step_is at (row.Jr rs) s all.short w.below w.is fits)
    row_matches at (row.Jalr rd rs) target rest s w fits c more = tt
    row_matches at (row.Beq rs rt n) target rest s w fits c more =
        if_taken (register s rs == register s rt) at (row.Beq rs rt n) target rest s
        (step (on code (place_at at) s)) w.below w.reaches more
        (step_is at (row.Beq rs rt (offset_to at (found_word (position_of ps target)))) s all.short w.below w.is
        (fits.0, fits.1, offset_fits at _))
    row_matches at (row.Bne rs rt n) target rest s w fits c more =
        unless_taken (register s rs == register s rt) at (row.Bne rs rt n) target rest s
        (step (on code (place_at at) s)) w.below w.reaches more
        (step_is at (row.Bne rs rt (offset_to at (found_word (position_of ps target)))) s all.short w.below w.is
        (fits.0, fits.1, offset_fits at _))
    row_matches at (row.Blez rs n) target rest s w fits c more =
        unless_taken (less 0 (register s rs)) at (row.Blez rs n) target rest s
        (step (on code (place_at at) s)) w.below w.reaches more
        (step_is at (row.Blez rs (offset_to at (found_word (position_of ps target)))) s all.short w.below w.is
        (fits.0, offset_fits at _))
    row_matches at (row.Bgtz rs n) target rest s w fits c more =
        if_taken (less 0 (register s rs)) at (row.Bgtz rs n) target rest s
        (step (on code (place_at at) s)) w.below w.reaches more
        (step_is at (row.Bgtz rs (offset_to at (found_word (position_of ps target)))) s all.short w.below w.is
        (fits.0, offset_fits at _))
    row_matches at (row.Bltz rs n) target rest s w fits c more =
        if_taken (less (register s rs) 0) at (row.Bltz rs n) target rest s
        (step (on code (place_at at) s)) w.below w.reaches more
        (step_is at (row.Bltz rs (offset_to at (found_word (position_of ps target)))) s all.short w.below w.is
        (fits.0, offset_fits at _))
    row_matches at (row.Bgez rs n) target rest s w fits c more =
        unless_taken (less (register s rs) 0) at (row.Bgez rs n) target rest s
        (step (on code (place_at at) s)) w.below w.reaches more
        (step_is at (row.Bgez rs (offset_to at (found_word (position_of ps target)))) s all.short w.below w.is
        (fits.0, offset_fits at _))
    row_matches at one target rest s w fits c more = straight at one rest s tt w.below w.is fits more

    -- the address of a literal, by its halves
    upper_fits : (a : ℕ) → a < 2 ^ 32 → a / 2 ^ 16 < 2 ^ 16
    upper_fits a h = omega (arith, h)

    lower_fits : (a : ℕ) → a % 65536 < 2 ^ 16
    lower_fits a = omega arith

    behind_both : (at : ℕ) → at + 2 ≡ at + 1 + 1
    behind_both at = omega arith

    halfway : (at r : ℕ) (name : List ℕ) (rest : List Line) (s : MachineState) (o : Option ℕ) →
        address_from statics_base name literals ≡ o →
        IsWord at (Upper r name) → IsWord (at + 1) (Lower r name) → r < 32 → StandAt (at + 2) rest →
        Matches (step (on code (place_at at) s)) (goes_halfway r o rest s)
    halfway at r name rest s None there w v h more = tt
    halfway at r name rest s (Some a) there w v h more =
        let l = all.addresses name a there in
        let upper : slice_index code at ≡ word_of (row.Lui r (a / 2 ^ 16)) =
        w.is ∙ ap (λ n. word_of (row.Lui r (n / 2 ^ 16))) l.0 in
        let lower : slice_index code (at + 1) ≡ word_of (row.Ori r r (a % 65536)) =
        v.is ∙ ap (λ n. word_of (row.Ori r r (n % 2 ^ 16))) l.0 in
        let second : IsWord (at + 1) (coded_row (row.Ori r r (a % 65536)) []) =
        record { below = v.below; is = lower; reaches = tt } in (
          place_at (at + 1),
          step_is at (row.Lui r (a / 2 ^ 16)) s all.short w.below upper (h, upper_fits a l.1)
              ∙ ap machine.Goes (set_on code (place_at (at + 1)) s r _),
          record {
            at = at + 1;
            is = refl;
            stands = (second, ((h, h, lower_fits a), (tt, subst (λ n. StandAt n rest) (behind_both at) more)));
          },
        )

    lines_match : (at : ℕ) (rest : List Line) (s : MachineState) → StandAt at rest →
        Matches (step (on code (place_at at) s)) (lines_do returns lines literals rest s)
    lines_match at [] s h = tt
    lines_match at (Label name ∷ rest) s h = lines_match at rest s h
    lines_match at (One one target ∷ rest) s h = row_matches at one target rest s h.0 h.1.0 h.1.1.0 h.1.1.1
    lines_match at (La r name ∷ rest) s h =
        halfway at r name rest s (address_from statics_base name literals) refl h.0 h.1.0 h.1.1.0 h.1.1.1
    lines_match at (Statics bytes ∷ rest) s h = tt

    place_matches : (p : Place) (place : ℕ) (s : MachineState) → IsAt p place →
        Matches (step (on code place s)) (step_of returns lines literals p s)
    place_matches (left rest) place s h =
        subst (λ q. Matches (step (on code q s)) (lines_do returns lines literals rest s)) (sym h.is)
        (lines_match h.at rest s h.stands)
    place_matches at_zero place s h = subst (λ q. step (on code q s) ≡ machine.Ends (Exit (pos 0))) (sym h) refl

    -- the run of the machine by its step
    abbrev stepped : (input : List ℕ) → ℕ → Step → Ran
    stepped input n (machine.Goes t) = machine_run t input n
    stepped input n (machine.Ends e) = stops input (ran.Ended e)
    stepped input n (machine.Reads t) = machine_run (answered t (first_byte input)) (later_bytes input) n
    stepped input n (machine.Writes bytes t) = writes bytes (machine_run t input n)

    abbrev done : (input : List ℕ) → ℕ → Did → Ran
    done input n (Goes q t) = lines_going returns lines literals q t input n
    done input n (Ends e) = stops input (ran.Ended e)
    done input n (Reads q t) = lines_going returns lines literals q (answered t (first_byte input))
        (later_bytes input) n
    done input n (Writes bytes q t) = writes bytes (lines_going returns lines literals q t input n)
    done input n Strays = stops input Wrong

    -- as long as the lines don't go wrong
    pub runs : (n : ℕ) (p : Place) (place : ℕ) (s : MachineState) (input : List ℕ) → IsAt p place →
        (lines_going returns lines literals p s input n).stop ≢ Wrong →
        machine_run (on code place s) input n ≡ lines_going returns lines literals p s input n
    runs zero p place s input h right = refl
    runs (suc n) p place s input h right =
        ap (works 1) (by (step (on code place s)) (step_of returns lines literals p s)
        (place_matches p place s h) right (runs n))
      where
        Later : Type 0
        Later = (p : Place) (place : ℕ) (s : MachineState) (input : List ℕ) → IsAt p place →
            (lines_going returns lines literals p s input n).stop ≢ Wrong →
            machine_run (on code place s) input n ≡ lines_going returns lines literals p s input n

        by : (m : Step) (d : Did) → Matches m d → (done input n d).stop ≢ Wrong → Later →
            stepped input n m ≡ done input n d
        by m (Goes q t) e r later = ap (stepped input n) e.1 ∙ later q e.0 t input e.2 r
        by m (Ends f) e r later = ap (stepped input n) e
        by m (Reads q t) e r later =
            ap (stepped input n) e.1
            ∙ (ap (λ u. machine_run u (later_bytes input) n) (answered_on code e.0 t (first_byte input))
            ∙ later q e.0 (answered t (first_byte input)) (later_bytes input) e.2 r)
        by m (Writes bytes q t) e r later = ap (stepped input n) e.1 ∙ ap (writes bytes) (later q e.0 t input e.2 r)
        by m Strays e r later = absurd (r refl)
