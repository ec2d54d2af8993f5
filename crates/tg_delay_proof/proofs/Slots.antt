-- A row that jumps or branches, with another in its slot: it leads where it leads behind that row.
use Rattle.std.proofs.Common.{ℕ, ◌≡◌, ◌==◌, List, [], ◌∷◌, refl, ap, sym, ◌∙◌, subst, Bool, true, false, Option, Some, None}
use Rattle.tg_machine_state.specs.declared.ends.RunEnd.{RunEnd}
use Rattle.tg_base.specs.Words.{less}
use Rattle.tg_machine_state.specs.State.{MachineState, register, set_register}
use Rattle.tg_machine_state.specs.Services as machine
use Rattle.tg_isa.specs.declared.mips.Mips.{Mips}
use Rattle.tg_isa.specs.declared.mips.Mips.TheVariants as row
use Rattle.tg_isa.specs.Effects.{effect}
use Rattle.tg_emit.specs.declared.assembly.Line.{Line}
use Rattle.tg_emit.specs.declared.assembly.Line.TheVariants.{One}
use Rattle.tg_emit_proof.specs.LinesRun as plain
use Rattle.tg_emit_proof.specs.LinesRun.{Returns, Way, Straight, Leads, Untaken, calls, behind, place_of, leads_if, leads_unless}
use Rattle.tg_emit_proof.specs.LinesRun.{Place}
use Rattle.tg_delay.specs.Filling.{reads, writes, is_among, controls, filled}
use Rattle.tg_delay_proof.specs.DelayedRun.{way, over_slot}
use Rattle.tg_delay_proof.proofs.Moving.{Keeps, effect_keeps, step_given, effect_given}
use Rattle.tg_delay_proof.proofs.Filled.{with_slots, some_with_slots, is_call, behind_filled, place_filled, calls_past, calls_filled}
use Rattle.tg_delay_proof.proofs.Filled.{Moves, untouched, first_among, second_among}

-- rows that go straight on do so in either run
pub plainly_straight : (returns : Returns) (lines : List Line) (one : Mips) (target : List ℕ) (rest : List Line)
    (s : MachineState) → controls one ≡ false → plain.way returns lines one target rest s ≡ Straight
plainly_straight returns lines (row.J n) target rest s h = cc
plainly_straight returns lines (row.Jal n) target rest s h = cc
plainly_straight returns lines (row.Jr rs) target rest s h = cc
plainly_straight returns lines (row.Jalr rd rs) target rest s h = cc
plainly_straight returns lines (row.Beq rs rt n) target rest s h = cc
plainly_straight returns lines (row.Bne rs rt n) target rest s h = cc
plainly_straight returns lines (row.Blez rs n) target rest s h = cc
plainly_straight returns lines (row.Bgtz rs n) target rest s h = cc
plainly_straight returns lines (row.Bltz rs n) target rest s h = cc
plainly_straight returns lines (row.Bgez rs n) target rest s h = cc
plainly_straight returns lines one target rest s h = refl

pub straight : (returns : Returns) (lines : List Line) (one : Mips) (target : List ℕ) (rest : List Line)
    (s : MachineState) → controls one ≡ false → way returns lines one target rest s ≡ Straight
straight returns lines (row.J n) target rest s h = cc
straight returns lines (row.Jal n) target rest s h = cc
straight returns lines (row.Jr rs) target rest s h = cc
straight returns lines (row.Jalr rd rs) target rest s h = cc
straight returns lines (row.Beq rs rt n) target rest s h = cc
straight returns lines (row.Bne rs rt n) target rest s h = cc
straight returns lines (row.Blez rs n) target rest s h = cc
straight returns lines (row.Bgtz rs n) target rest s h = cc
straight returns lines (row.Bltz rs n) target rest s h = cc
straight returns lines (row.Bgez rs n) target rest s h = cc
straight returns lines one target rest s h = refl

-- A row fits the slot of another: behind it the state is t, and where the other has gone on from s
-- its slot leads where the other goes on from t.
pub record FitsSlot (slot other : Mips) (s t : MachineState) : Type 0 where
  pub straight_on : controls slot ≡ false
  pub uncalled : is_call slot ≡ false
  pub goes : effect slot s ≡ machine.Goes t
  pub keeps : (r : ℕ) → is_among (reads other) r ≡ true → register t r ≡ register s r
  pub links : (v : ℕ) → is_among (writes other) 31 ≡ true →
      effect slot (set_register s 31 v) ≡ machine.Goes (set_register t 31 v)

module _ (returns : Returns) (lines : List Line) where
  module _ (slot : Mips) where
    -- the ways of a row without a slot, and of the row with one
    abbrev pub Alike : Way → Way → Type 0
    Alike (Leads None u) (Leads o v) = Unit {0}
    Alike (Leads (Some p) u) (Leads o v) = (o ≡ Some (with_slots p)) × (effect slot v ≡ machine.Goes u)
    Alike Untaken Untaken = Unit {0}
    Alike _ _ = ⊥

    leads_alike : (o o' : Option Place) (u v : MachineState) → o' ≡ some_with_slots o → effect slot v ≡ machine.Goes u →
        Alike (Leads o u) (Leads o' v)
    leads_alike None o' u v e g = tt
    leads_alike (Some p) o' u v e g = (e, g)

    -- where the row in the slot ends the run
    abbrev pub EndsIn : RunEnd → Way → Type 0
    EndsIn e (Leads o v) = effect slot v ≡ machine.Ends e
    EndsIn e Untaken = Unit {0}
    EndsIn e Straight = ⊥

    module _ (x : List ℕ) (there : List ℕ) (rest : List Line) (s t : MachineState) where
      abbrev before : Mips → Way
      before other = plain.way returns lines other there rest t

      abbrev behind_it : Mips → Way
      behind_it other = way returns (filled lines) other there (One slot x ∷ filled rest) s

      if_alike : (a b : Bool) → a ≡ b → effect slot s ≡ machine.Goes t →
          Alike (leads_if a (behind there lines) t) (leads_if b (behind there (filled lines)) s)
      if_alike a b e g = subst (λ c. Alike (leads_if a (behind there lines) t) (leads_if c (behind there (filled lines)) s)) e (by a)
        where
          by : (c : Bool) → Alike (leads_if c (behind there lines) t) (leads_if c (behind there (filled lines)) s)
          by true = leads_alike (behind there lines) (behind there (filled lines)) t s (behind_filled there lines) g
          by false = tt

      unless_alike : (a b : Bool) → a ≡ b → effect slot s ≡ machine.Goes t →
          Alike (leads_unless a (behind there lines) t) (leads_unless b (behind there (filled lines)) s)
      unless_alike a b e g = subst (λ c. Alike (leads_unless a (behind there lines) t) (leads_unless c (behind there (filled lines)) s)) e (by a)
        where
          by : (c : Bool) → Alike (leads_unless c (behind there lines) t) (leads_unless c (behind there (filled lines)) s)
          by true = tt
          by false = leads_alike (behind there lines) (behind there (filled lines)) t s (behind_filled there lines) g

      pub way_alike : (other : Mips) → controls other ≡ true → FitsSlot slot other s t → Alike (before other) (behind_it other)
      way_alike (row.J n) c f = leads_alike (behind there lines) (behind there (filled lines)) t s (behind_filled there lines) f.goes
      way_alike (row.Jal n) c f =
          leads_alike (behind there lines) (behind there (filled lines)) (set_register t 31 (returns (calls rest)))
          (set_register s 31 (returns (calls (One slot x ∷ filled rest)))) (behind_filled there lines)
          (f.links (returns (calls (One slot x ∷ filled rest))) refl
          ∙ ap (λ k. machine.Goes (set_register t 31 (returns k)))
          (calls_past slot x (filled rest) f.uncalled ∙ calls_filled rest))
      way_alike (row.Jr rs) c f =
          leads_alike (place_of returns (register t rs) lines) (over_slot (place_of returns (register s rs) (filled lines))) t s
          (ap (λ v. over_slot (place_of returns v (filled lines))) (sym (f.keeps rs (first_among rs [])))
          ∙ place_filled returns (register t rs) lines) f.goes
      way_alike (row.Jalr rd rs) c f = tt
      way_alike (row.Beq rs rt n) c f =
          if_alike (register t rs == register t rt) (register s rs == register s rt)
          (ap (λ v. v == register t rt) (f.keeps rs (first_among rs (rt ∷ [])))
          ∙ ap (λ v. register s rs == v) (f.keeps rt (second_among rs rt))) f.goes
      way_alike (row.Bne rs rt n) c f =
          unless_alike (register t rs == register t rt) (register s rs == register s rt)
          (ap (λ v. v == register t rt) (f.keeps rs (first_among rs (rt ∷ [])))
          ∙ ap (λ v. register s rs == v) (f.keeps rt (second_among rs rt))) f.goes
      way_alike (row.Blez rs n) c f =
          unless_alike (less 0 (register t rs)) (less 0 (register s rs)) (ap (λ v. less 0 v) (f.keeps rs (first_among rs []))) f.goes
      way_alike (row.Bgtz rs n) c f =
          if_alike (less 0 (register t rs)) (less 0 (register s rs)) (ap (λ v. less 0 v) (f.keeps rs (first_among rs []))) f.goes
      way_alike (row.Bltz rs n) c f =
          if_alike (less (register t rs) 0) (less (register s rs) 0) (ap (λ v. less v 0) (f.keeps rs (first_among rs []))) f.goes
      way_alike (row.Bgez rs n) c f =
          unless_alike (less (register t rs) 0) (less (register s rs) 0) (ap (λ v. less v 0) (f.keeps rs (first_among rs []))) f.goes
      way_alike other c f = cc

      -- where the row ends the run, it does so in the slot too
      if_ends : (e : RunEnd) (b : Bool) (o : Option Place) → effect slot s ≡ machine.Ends e → EndsIn e (leads_if b o s)
      if_ends e true o g = g
      if_ends e false o g = tt

      unless_ends : (e : RunEnd) (b : Bool) (o : Option Place) → effect slot s ≡ machine.Ends e → EndsIn e (leads_unless b o s)
      unless_ends e true o g = tt
      unless_ends e false o g = g

      pub way_ends : (e : RunEnd) (other : Mips) → controls other ≡ true → effect slot s ≡ machine.Ends e →
          ((v : ℕ) → is_among (writes other) 31 ≡ true → effect slot (set_register s 31 v) ≡ machine.Ends e) →
          EndsIn e (behind_it other)
      way_ends e (row.J n) c g l = g
      way_ends e (row.Jal n) c g l = l _ refl
      way_ends e (row.Jr rs) c g l = g
      way_ends e (row.Jalr rd rs) c g l = g
      way_ends e (row.Beq rs rt n) c g l = if_ends e _ _ g
      way_ends e (row.Bne rs rt n) c g l = unless_ends e _ _ g
      way_ends e (row.Blez rs n) c g l = unless_ends e _ _ g
      way_ends e (row.Bgtz rs n) c g l = if_ends e _ _ g
      way_ends e (row.Bltz rs n) c g l = if_ends e _ _ g
      way_ends e (row.Bgez rs n) c g l = unless_ends e _ _ g
      way_ends e other c g l = cc

-- nothing fits each slot
pub nothing_fits : (other : Mips) (s : MachineState) → FitsSlot (row.Sll 0 0 0) other s s
nothing_fits other s =
    record { straight_on = refl; uncalled = refl; goes = refl; keeps = λ r h. refl; links = λ v h. refl }

-- a row that may be moved fits it, or ends the run there as before it
module _ (one other : Mips) (m : Moves one other) (s : MachineState) where
  given_links : (v : ℕ) → is_among (writes other) 31 ≡ true →
      effect one (set_register s 31 v) ≡ step_given 31 v (effect one s)
  given_links v h =
      effect_given 31 v s one m.stays_not (untouched (reads one) (writes other) 31 m.reads_no_write h)
      (untouched (writes one) (writes other) 31 m.writes_no_write h)

  pub row_fits : (t : MachineState) → controls one ≡ false → is_call one ≡ false → effect one s ≡ machine.Goes t → FitsSlot one other s t
  row_fits t c u g = record {
    straight_on = c;
    uncalled = u;
    goes = g;
    keeps = λ r h. subst (Keeps r s) g
        (effect_keeps r s one m.stays_not (untouched (writes one) (reads other) r m.writes_no_read h));
    links = λ v h. given_links v h ∙ ap (step_given 31 v) g;
  }

  pub row_ends : (e : RunEnd) → effect one s ≡ machine.Ends e → (v : ℕ) → is_among (writes other) 31 ≡ true →
      effect one (set_register s 31 v) ≡ machine.Ends e
  row_ends e g v h = given_links v h ∙ ap (step_given 31 v) g
