-- The end of a run is as its program means, by what the run's progress tells.
use Rattle.std.proofs.Common.{◌≡◌, ℕ, ◌⊎◌, inl, inr, sym, subst}
use Rattle.tg_machine_state.specs.declared.ends.RunEnd.{RunEnd}
use Rattle.tg_machine_state.specs.declared.ends.RunEnd.TheVariants.{Exit, Break, Overflow, HeapFull, StackFull, StepLimit}
use Rattle.tg_machine_state.specs.declared.ends.RunEnd.TheVariants.{BadAddress, Unaligned, BadWord, BadService}
use Rattle.tg_machine_state.specs.declared.ends.RunEnd.TheVariants.{ReadFault, WriteFault}
use Rattle.tg_simulation.specs.Outcomes.{ended, Outcome}
use Rattle.tg_semantics.specs.Values.{Ending, normal, by_nil, by_index, by_division, by_chr}
use Rattle.tg_semantics.specs.Values.{by_substring, by_size, by_heap, by_overflow, by_exit}
use Rattle.tg_semantics.specs.MachineEnds.{machine_end}
use Rattle.tg_semantics.specs.Direct.{evaluate}
use Rattle.tg_isa.specs.Runs.{Execution, Progress, Ended}
use Rattle.tg_correctness.specs.Images.{EndsAs, IsCutShort}
use Rattle.tg_correctness.specs.laws.EndLaws.{TellsMeaning, EndsTellMeaning}
use Rattle.tg_correctness.specs.Ends.{EndsSo, EndIsMeant}
use Rattle.tg_compile_proof.specs.laws.TextLaws.{EndedIsMeant, RunningIsMeant}

-- an end of the machine that may stand for an ending
abbrev MayStand : RunEnd → Type 0
MayStand (Exit n) = Unit {0}
MayStand (Break n) = Unit {0}
MayStand Overflow = Unit {0}
MayStand HeapFull = Unit {0}
MayStand _ = ⊥

may_stand : (e : Ending) → MayStand (machine_end e)
may_stand normal = tt
may_stand (by_exit i) = tt
may_stand by_nil = tt
may_stand by_index = tt
may_stand by_chr = tt
may_stand by_substring = tt
may_stand by_size = tt
may_stand by_division = tt
may_stand by_heap = tt
may_stand by_overflow = tt

module _ (means : ℕ → Outcome Ending) (steps : ℕ) (last : Execution) where
  -- what a progress that ended tells, with so many turns
  abbrev Told : RunEnd → (turns : ℕ) → Type 0
  Told f n =
      ((e : Ending) × ((means n).end ≡ ended e) × EndsAs (means n) (machine_end e) (Ended f last))
      ⊎ IsCutShort (means n) (Ended f last)

  ends_so : (f : RunEnd) (n : ℕ) → Told f n → (IsCutShort (means n) (Ended f last) → ⊥) → EndsSo means f last
  ends_so f n (inl h) whole = record { turns = n; ending = h.0; ends = h.1; end_is = h.2.0; does = h.2.1 }
  ends_so f n (inr c) whole = absurd (whole c)

  no_end : (f : RunEnd) (n : ℕ) → Told f n → (IsCutShort (means n) (Ended f last) → ⊥) → (MayStand f → ⊥) → ⊥
  no_end f n h whole never =
      let s = ends_so f n h whole in
      never (subst MayStand (sym s.end_is) (may_stand s.ending))

  cut : (n : ℕ) → Told StackFull n → IsCutShort (means n) (Ended StackFull last)
  cut n (inl h) = absurd (subst MayStand (sym h.2.0) (may_stand h.0))
  cut n (inr c) = c

  is_meant : (f : RunEnd) → TellsMeaning means steps (Ended f last) → EndIsMeant means steps f last
  is_meant (Exit n) t = ends_so (Exit n) t.0 t.1 (λ c. c)
  is_meant (Break n) t = ends_so (Break n) t.0 t.1 (λ c. c)
  is_meant Overflow t = ends_so Overflow t.0 t.1 (λ c. c)
  is_meant HeapFull t = ends_so HeapFull t.0 t.1 (λ c. c)
  is_meant StackFull t = (t.0, cut t.0 t.1)
  is_meant StepLimit t = absurd (no_end StepLimit t.0 t.1 (λ c. c) (λ m. m))
  is_meant (BadAddress a) t = no_end (BadAddress a) t.0 t.1 (λ c. c) (λ m. m)
  is_meant (Unaligned a) t = no_end (Unaligned a) t.0 t.1 (λ c. c) (λ m. m)
  is_meant (BadWord w) t = no_end (BadWord w) t.0 t.1 (λ c. c) (λ m. m)
  is_meant (BadService n) t = no_end (BadService n) t.0 t.1 (λ c. c) (λ m. m)
  is_meant ReadFault t = no_end ReadFault t.0 t.1 (λ c. c) (λ m. m)
  is_meant WriteFault t = no_end WriteFault t.0 t.1 (λ c. c) (λ m. m)

pub ended_is_meant : EndsTellMeaning → EndedIsMeant
ended_is_meant tell text assembly m input heap stack steps end last bytes sizes is =
    let means = λ (turns : ℕ). evaluate m.names m.program input heap stack turns in
    let T : Progress → Type 0 = λ p. TellsMeaning means steps p in
    is_meant means steps last end (subst T is (tell stack means _ steps (m.does input heap stack bytes sizes)))

pub running_is_meant : EndsTellMeaning → RunningIsMeant
running_is_meant tell text assembly m input heap stack steps last bytes sizes is =
    let means = λ (turns : ℕ). evaluate m.names m.program input heap stack turns in
    let T : Progress → Type 0 = λ p. TellsMeaning means steps p in
    subst T is (tell stack means _ steps (m.does input heap stack bytes sizes))
