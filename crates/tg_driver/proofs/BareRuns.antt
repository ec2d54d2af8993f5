-- Runs with delay slots of what does there what a source means end by its meaning.
use Rattle.std.specs.Prelude.{Ok}
use Rattle.std.proofs.Common.{ℕ, ◌≡◌, List, [], ◌++◌, refl, sym, ap, subst, ◌∙◌, append-nil}
use Rattle.std.specs.Io.KnownBytes.{Appends}
use Rattle.tg_machine_state.specs.declared.ends.RunEnd.{RunEnd}
use Rattle.tg_machine_state.specs.declared.ends.RunEnd.TheVariants.{ReadFault, WriteFault}
use Rattle.tg_simulation.specs.Bytes.{AreBytes}
use Rattle.tg_semantics.specs.Direct.{evaluate}
use Rattle.tg_isa.specs.declared.images.Image.{Image}
use Rattle.tg_asm_text.specs.Assembly.{Assembled, assembled}
use Rattle.tg_asm.specs.Images.{image_of}
use Rattle.tg_bare.specs.Delayed.{initial_bare}
use Rattle.tg_bare.specs.BareRuns.{BareExecution, bare_begun}
use Rattle.tg_bare.specs.Ran.{BareStops, still, ended, read_failed, write_failed, bare_standing}
use Rattle.tg_correctness.specs.Images.{AreSizes}
use Rattle.tg_bare_compile_proof.specs.Assemblies.{BareIsAsMeant}
use Rattle.tg_bare_compile_proof.specs.Ends.{EndIsMeantWithin}
use Rattle.tg_bare_compile_proof.specs.Images.{slot_times, as_execution, as_progress}
use Rattle.tg_bare_compile_proof.specs.laws.TextLaws.{BareEndedIsMeant, BareRunningIsMeant}
use Rattle.tg_driver.specs.Calls.{Streams}
use Rattle.tg_driver.specs.Runs.{HasBareRun}
use Rattle.tg_driver.specs.laws.MeantEnds.{EndsByMeaning, BareRunsAreMeant}
use Rattle.tg_driver.proofs.MeantEnds.{one_image}
use Rattle.tg_driver.proofs.ToldInputs.{on_input}

-- nothing was written past the last world
no_front : (n : ℕ) (w : BareExecution) (e : RunEnd) (last : BareExecution) (front : List ℕ) → (e ≡ ReadFault → ⊥) → (e ≡ WriteFault → ⊥) →
    BareStops n w e last front → front ≡ []
no_front n w e last front r s (still q p f) = f
no_front n w e last front r s (ended q f) = f
no_front n w e last front r s (read_failed i l q p d f) = absurd (r d)
no_front n w e last front r s (write_failed i rest l q p d) = absurd (s d)

module _ (ends : BareEndedIsMeant) (goes_on : BareRunningIsMeant) where
  -- a run of the machine whose reads and writes all passed
  by_stop : (text assembly : List ℕ) (m : BareIsAsMeant text assembly) (bytes : List ℕ) (heap stack steps : ℕ) (e : RunEnd)
      (last : BareExecution) (front : List ℕ) → AreBytes bytes → AreSizes heap stack → (e ≡ ReadFault → ⊥) → (e ≡ WriteFault → ⊥) →
      BareStops steps (bare_begun (initial_bare m.image.code m.image.statics m.image.entry heap stack) bytes) e last front →
      EndIsMeantWithin slot_times (λ turns. evaluate m.names m.program bytes heap stack turns) steps e (as_execution last)
  by_stop text assembly m bytes heap stack steps e last front are sizes r s (still q p f) =
      let P : RunEnd → Type 0 = λ x. EndIsMeantWithin slot_times (λ turns. evaluate m.names m.program bytes heap stack turns) steps x (as_execution last) in
      subst P (sym p) (goes_on text assembly m bytes heap stack steps (as_execution last) are sizes (ap (λ x. as_progress x) q))
  by_stop text assembly m bytes heap stack steps e last front are sizes r s (ended q f) =
      ends text assembly m bytes heap stack steps e (as_execution last) are sizes (ap (λ x. as_progress x) q)
  by_stop text assembly m bytes heap stack steps e last front are sizes r s (read_failed i l q p d f) = absurd (r d)
  by_stop text assembly m bytes heap stack steps e last front are sizes r s (write_failed i rest l q p d) = absurd (s d)

  on_bytes : {I O : Type 0} (s : Streams I O) (text assembly : List ℕ) (m : BareIsAsMeant text assembly) (image : Image)
      (heap stack steps : ℕ) (end : RunEnd) → assembled assembly ≡ Ok (image_of image) → (h : HasBareRun s image heap stack steps end) →
      (bytes left : List ℕ) → bytes ≡ h.ran.read ++ left →
      BareStops steps (bare_begun (initial_bare image.code image.statics image.entry heap stack) bytes) end
      (bare_standing h.ran.last left h.ran.output) h.ran.front →
      AreBytes bytes → AreSizes heap stack → (end ≡ ReadFault → ⊥) → (end ≡ WriteFault → ⊥) →
      EndsByMeaning (EndIsMeantWithin slot_times) s text heap stack steps end bytes
  on_bytes s text assembly m image heap stack steps end assembles h bytes left whole stopped are sizes read written =
      let r = h.ran in
      let last = bare_standing r.last left r.output in
      let Q : Assembled → Type 0 =
      λ (i : Assembled). BareStops steps (bare_begun (initial_bare i.code i.statics i.entry heap stack) bytes) end last r.front in
      let stops = subst Q (one_image assembly (image_of image) m.image assembles m.assembles) stopped in
      let W : List ℕ → Type 0 = λ w. Appends (s.out.told s.out.before) (s.out.told s.out.after) w in
      let none = no_front steps _ end last r.front read written stopped in
      record {
        names = m.names;
        tokens = m.tokens;
        program = m.program;
        source = m.source;
        last = as_execution last;
        writes = subst W (ap (λ f. r.output ++ f) none ∙ append-nil r.output) r.writes;
        read = r.read;
        left = left;
        whole = whole;
        gives = r.gives;
        leaves = refl;
        meant = by_stop text assembly m bytes heap stack steps end last r.front are sizes read written stops;
      }

  pub bare_runs_are_meant : {I O : Type 0} → BareRunsAreMeant I O
  bare_runs_are_meant s text heap stack steps end e sizes read written =
      let h = e.ran.run in
      let r = h.ran in
      let image = e.ran.image in
      let first = initial_bare image.code image.statics image.entry heap stack in
      let i = on_input s.input.told h.after.input_ended r.read
      (λ bytes left. BareStops steps (bare_begun first bytes) end (bare_standing r.last left r.output) r.front) s.input.before s.input.after
      r.stops r.are_bytes r.gives r.meets_end in
      record {
        bytes = i.bytes;
        tells = i.tells;
        ends = λ are. on_bytes s text e.assembly e.meant image heap stack steps end e.ran.assembles h i.bytes i.left i.whole i.stops are sizes read written;
      }
