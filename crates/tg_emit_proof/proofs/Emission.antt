-- The first half, and both halves together.
use Rattle.std.proofs.Common.{ℕ, ◌≡◌, ◌≢◌, ◌+◌, List, ap, sym, ◌∙◌, subst}
use Rattle.tg_machine_state.specs.declared.ends.RunEnd.{RunEnd}
use Rattle.tg_machine_state.specs.State.{initial_machine}
use Rattle.tg_simulation.specs.Runs.{Run}
use Rattle.tg_simulation.specs.Ran.{Ran, Ended, Wrong, IsOver, StaysOver, OnlyGoesOn}
use Rattle.tg_simulation.specs.Preserving.{DoesTheSame, Preserves}
use Rattle.tg_asm_text.specs.Assembly.{Assembled}
use Rattle.tg_isa.specs.ImageRuns.{MachineStaysOver, MachineGoesOn}
use Rattle.tg_tree.specs.declared.fragments.Literal.{Literal}
use Rattle.tg_instr.specs.declared.codes.Allocated.{Allocated}
use Rattle.tg_emit_laws.specs.Images.{ProgramIsCode, ProgramIsSound, ProgramHasImage}
use Rattle.tg_simulation.specs.Bytes.{IsPrefix}
use Rattle.tg_emit_proof.specs.LinesRun.{lines_run}
use Rattle.tg_emit_proof.specs.laws.Laws.{returns_in, HasImage, LinesRunOnTheMachine, PlacesAreReturns}
use Rattle.tg_emit_proof.specs.Setting.{entry_steps}
use Rattle.tg_emit_proof.specs.laws.Emission.{MayRun, lines_of, registers_run, emitted_image, assembled_run}
use Rattle.tg_emit_proof.specs.laws.Emission.{EmissionKeepsRuns, EmitIsCorrect, RunsAgree, EmissionAgrees}
use Rattle.tg_emit_proof.proofs.Known.{setting, known}
use Rattle.tg_emit_proof.proofs.Statics.{statics_are}
use Rattle.tg_emit_proof.proofs.Beginning.{emitted_runs_keep}

pub emission_keeps_runs : EmissionKeepsRuns
emission_keeps_runs fs ls input heap stack returns may sizes bytes are =
    let s = statics_are fs ls may in
    emitted_runs_keep (setting fs ls heap stack returns) (known fs ls heap stack returns may sizes are)
    (record { same = s.same; whole = s.whole; short = s.short }) input bytes

module _ (code : ProgramIsCode) (sound : ProgramIsSound) (on_machine : LinesRunOnTheMachine)
    (places : PlacesAreReturns)
    (first : EmissionKeepsRuns) where
  has_image : (fs : List Allocated) (ls : List Literal) → MayRun fs ls → HasImage (lines_of fs) ls
  has_image fs ls may = record {
    code = code fs ls may.program may.typed;
    literals = may.typed.literals;
    sound = sound fs ls may.program may.typed;
    short = may.program.code_fits;
  }

  pub both_halves : EmitIsCorrect
  both_halves fs ls input heap stack may sizes bytes =
      let has = has_image fs ls may in
      let places_are = places (lines_of fs) has.short in
      let p = first fs ls input heap stack (returns_in (lines_of fs)) may sizes bytes places_are in
      record {
        there = λ n right.
            let q = p.there n right in
            let same = q.2 in
            let right' : (lines_run (returns_in (lines_of fs)) (lines_of fs) ls input heap stack q.0).stop ≢ Wrong =
            λ e. right (sym same.stop ∙ e) in
            let e = on_machine (lines_of fs) ls input heap stack q.0 has right' in
            (q.0, q.1, subst (DoesTheSame 1 (entry_steps + 1) (registers_run fs ls input heap stack n)) (sym e) same);
      }

-- An end of the run after the pass is that of the run before it, where none of this goes wrong: with as much
-- fuel, the one after it has come to the same.
module _ (a b : ℕ) (c d : Run Ran) (preserved : Preserves a b c d) (over : StaysOver d) (on : OnlyGoesOn d)
    (right : (n : ℕ) → (c n).stop ≢ Wrong) where
  ends_so : (m : ℕ) (e : RunEnd) → (d m).stop ≡ Ended e →
      ((c m).stop ≡ Ended e) × ((c m).output ≡ (d m).output) × ((c m).input ≡ (d m).input)
  ends_so m e h =
      let x = preserved.there m (right m) in
      let same : d x.0 ≡ d m = over m x.0 x.1 (subst IsOver (sym h) tt) in (
        sym x.2.stop ∙ (ap (λ (r : Ran). r.stop) same ∙ h),
        sym x.2.output ∙ ap (λ (r : Ran). r.output) same,
        sym x.2.input ∙ ap (λ (r : Ran). r.input) same,
      )

  fronts : (m : ℕ) → IsPrefix (d m).output (c m).output
  fronts m =
      let x = preserved.there m (right m) in
      let more = (on m x.0 x.1).output in
      record { more = more.0; whole = sym x.2.output ∙ more.1 }

  pub runs_agree : RunsAgree a b c d
  runs_agree = record { there = λ n. preserved.there n (right n); only = ends_so; front = fronts }

pub emission_agrees : EmitIsCorrect → ProgramHasImage → MachineStaysOver → MachineGoesOn → EmissionAgrees
emission_agrees keeps text over on fs ls may = (
  emitted_image fs ls,
  text fs ls may.program may.typed,
  λ input heap stack sizes bytes right.
      let image : Assembled = emitted_image fs ls in
      let begun = initial_machine image.code image.statics image.entry heap stack in
      runs_agree 1 (entry_steps + 1) (registers_run fs ls input heap stack) (assembled_run image input heap stack)
      (keeps fs ls input heap stack may sizes bytes) (over begun input) (on begun input) right,
)
