-- Runs of what does what a source means end by its meaning.
use Rattle.std.specs.Prelude.{Result, Ok, Err}
use Rattle.std.proofs.Common.{ℕ, ◌≡◌, ◌<◌, ◌^◌, List, [], ◌++◌, ◌%◌, refl, sym, ap, subst, ◌∙◌, append-nil, arith, w32}
use Rattle.std.proofs.lemmas.Int.{of_z-to_z}
use Rattle.std.proofs.lemmas.List.Elements.{All-nil}
use Rattle.std.specs.Io.KnownBytes.{Appends}
use Rattle.tg_base.specs.Causes.{Rose}
use Rattle.tg_machine_state.specs.declared.ends.RunEnd.{RunEnd}
use Rattle.tg_machine_state.specs.declared.ends.RunEnd.TheVariants.{ReadFault, WriteFault}
use Rattle.tg_machine_state.specs.State.{initial_machine}
use Rattle.tg_simulation.specs.Bytes.{AreBytes}
use Rattle.tg_simulation.specs.Outcomes as over
use Rattle.tg_semantics.specs.Values.{Ending, normal, by_nil, by_index, by_division, by_chr}
use Rattle.tg_semantics.specs.Values.{by_substring, by_size, by_heap, by_overflow, by_exit}
use Rattle.tg_semantics.specs.MachineEnds.{machine_end}
use Rattle.tg_semantics.specs.Direct.{evaluate}
use Rattle.tg_isa.specs.declared.images.Image.{Image}
use Rattle.tg_asm_text.specs.Assembly.{Assembled, Fault as AsmFault, assembled}
use Rattle.tg_isa.specs.Runs.{Execution}
use Rattle.tg_asm.specs.Images.{image_of}
use Rattle.tg_machine.specs.Ran.{Stops, still, ended, read_failed, write_failed, begun_on, standing}
use Rattle.tg_correctness.specs.Images.{AreSizes}
use Rattle.tg_correctness.specs.Ends.{EndIsMeant}
use Rattle.tg_correctness.specs.Assemblies.{IsAsMeant}
use Rattle.tg_compile_proof.specs.laws.TextLaws.{EndedIsMeant, RunningIsMeant, ExitsAreWords}
use Rattle.tg_driver.specs.Calls.{Streams}
use Rattle.tg_driver.proofs.ToldInputs.{on_input}
use Rattle.tg_driver.specs.laws.MeantEnds.{EndsByMeaning, EndsOnInput, RunsAreMeant, GeneratedAreMeant, streams_until}
use Rattle.tg_driver.specs.laws.MeantEnds.{ending_status, StatusesAreMeant}
use Rattle.tg_driver.specs.Endings.{end_status}
use Rattle.tg_driver.specs.Runs.{HasRun}

-- a text has one image
the_image : Result Assembled AsmFault → Assembled → Assembled
the_image (Ok image) otherwise = image
the_image (Err e) otherwise = otherwise

pub one_image : (text : List ℕ) (i j : Assembled) → assembled text ≡ Ok i → assembled text ≡ Ok j → i ≡ j
unfolding the_image
one_image text i j p q = ap (λ (r : Result Assembled AsmFault). the_image r i) (sym p ∙ q)

-- nothing was written past the last world
no_front : (n : ℕ) (w : Execution) (e : RunEnd) (last : Execution) (front : List ℕ) → (e ≡ ReadFault → ⊥) → (e ≡ WriteFault → ⊥) →
    Stops n w e last front → front ≡ []
no_front n w e last front r s (still q p f) = f
no_front n w e last front r s (ended q f) = f
no_front n w e last front r s (read_failed i l q p d f) = absurd (r d)
no_front n w e last front r s (write_failed i rest l q p d) = absurd (s d)

module _ (ends : EndedIsMeant) (goes_on : RunningIsMeant) where
  -- a run of the machine whose reads and writes all passed
  by_stop : (text assembly : List ℕ) (m : IsAsMeant text assembly) (bytes : List ℕ) (heap stack steps : ℕ) (e : RunEnd)
      (last : Execution) (front : List ℕ) → AreBytes bytes → AreSizes heap stack → (e ≡ ReadFault → ⊥) → (e ≡ WriteFault → ⊥) →
      Stops steps (begun_on (initial_machine m.image.code m.image.statics m.image.entry heap stack) bytes) e last front →
      EndIsMeant (λ turns. evaluate m.names m.program bytes heap stack turns) steps e last
  by_stop text assembly m bytes heap stack steps e last front are sizes r s (still q p f) =
      let P : RunEnd → Type 0 = λ x. EndIsMeant (λ turns. evaluate m.names m.program bytes heap stack turns) steps x last in
      subst P (sym p) (goes_on text assembly m bytes heap stack steps last are sizes q)
  by_stop text assembly m bytes heap stack steps e last front are sizes r s (ended q f) =
      ends text assembly m bytes heap stack steps e last are sizes q
  by_stop text assembly m bytes heap stack steps e last front are sizes r s (read_failed i l q p d f) = absurd (r d)
  by_stop text assembly m bytes heap stack steps e last front are sizes r s (write_failed i rest l q p d) = absurd (s d)

  on_bytes : {I O : Type 0} (s : Streams I O) (text assembly : List ℕ) (m : IsAsMeant text assembly) (image : Image)
      (heap stack steps : ℕ) (end : RunEnd) → assembled assembly ≡ Ok (image_of image) → (h : HasRun s image heap stack steps end) →
      (bytes left : List ℕ) → bytes ≡ h.ran.read ++ left →
      Stops steps (begun_on (initial_machine image.code image.statics image.entry heap stack) bytes) end (standing h.ran.last left h.ran.output) h.ran.front →
      AreBytes bytes → AreSizes heap stack → (end ≡ ReadFault → ⊥) → (end ≡ WriteFault → ⊥) → EndsByMeaning EndIsMeant s text heap stack steps end bytes
  on_bytes s text assembly m image heap stack steps end assembles h bytes left whole stopped are sizes read written =
      let r = h.ran in
      let last = standing r.last left r.output in
      let Q : Assembled → Type 0 =
      λ (i : Assembled). Stops steps (begun_on (initial_machine i.code i.statics i.entry heap stack) bytes) end last r.front in
      let stops = subst Q (one_image assembly (image_of image) m.image assembles m.assembles) stopped in
      let W : List ℕ → Type 0 = λ w. Appends (s.out.told s.out.before) (s.out.told s.out.after) w in
      let none = no_front steps _ end last r.front read written stopped in
      record {
        names = m.names;
        tokens = m.tokens;
        program = m.program;
        source = m.source;
        last = last;
        writes = subst W (ap (λ f. r.output ++ f) none ∙ append-nil r.output) r.writes;
        read = r.read;
        left = left;
        whole = whole;
        gives = r.gives;
        leaves = refl;
        meant = by_stop text assembly m bytes heap stack steps end last r.front are sizes read written stops;
      }

  by_run : {I O : Type 0} (s : Streams I O) (text assembly : List ℕ) (m : IsAsMeant text assembly) (image : Image)
      (heap stack steps : ℕ) (end : RunEnd) → assembled assembly ≡ Ok (image_of image) →
      HasRun s image heap stack steps end → AreSizes heap stack →
      (end ≡ ReadFault → ⊥) → (end ≡ WriteFault → ⊥) → EndsOnInput EndIsMeant s text heap stack steps end
  by_run s text assembly m image heap stack steps end assembles h sizes read written =
      let r = h.ran in
      let first = initial_machine image.code image.statics image.entry heap stack in
      let i = on_input s.input.told h.after.input_ended r.read
      (λ bytes left. Stops steps (begun_on first bytes) end (standing r.last left r.output) r.front) s.input.before s.input.after
      r.stops r.are_bytes r.gives r.meets_end in
      record {
        bytes = i.bytes;
        tells = i.tells;
        ends = λ are. on_bytes s text assembly m image heap stack steps end assembles h i.bytes i.left i.whole i.stops are sizes read written;
      }

  pub runs_are_meant : {I O : Type 0} → RunsAreMeant I O
  runs_are_meant s text heap stack steps end e sizes read written =
      by_run s text e.assembly e.meant e.ran.image heap stack steps end e.ran.assembles e.ran.run sizes read written

  no_bytes : AreBytes []
  no_bytes = All-nil (λ b. b < 256)

  no_read : Rose 0 0 → ⊥
  no_read r = absurd (omega (arith, r))

  pub generated_are_meant : {O : Type 0} → GeneratedAreMeant O
  generated_are_meant out functions text heap stack steps answer g sizes written =
      let sums = g.ends.ran.run in
      let t = streams_until out sums.input sums.between in
      let on = by_run t text g.ends.assembly g.ends.meant g.ends.ran.image heap stack steps g.end
      g.ends.ran.assembles sums.run sizes (λ is. no_read (sums.run.ran.read_cause is)) written in
      let P : List ℕ → Type 0 = λ b. AreBytes b → EndsByMeaning EndIsMeant t text heap stack steps g.end b in
      subst P on.tells on.ends no_bytes

-- each ending whose code is a word has its status
abbrev IsOfWord : Ending → Type 0
IsOfWord (by_exit code) = code < 2 ^ 32
IsOfWord _ = Unit {0}

status_is : (ending : Ending) → IsOfWord ending → end_status (machine_end ending) ≡ ending_status ending
status_is normal w = refl
status_is (by_exit code) w = ap (λ n. n % 256) (of_z-to_z w32 code w)
status_is by_nil w = refl
status_is by_index w = refl
status_is by_division w = refl
status_is by_chr w = refl
status_is by_substring w = refl
status_is by_size w = refl
status_is by_heap w = refl
status_is by_overflow w = refl

of_word : (ending : Ending) → ((code : ℕ) → ending ≡ by_exit code → code < 2 ^ 32) → IsOfWord ending
of_word (by_exit code) h = h code refl
of_word _ h = tt

pub statuses_are_meant : ExitsAreWords → StatusesAreMeant
statuses_are_meant exits text names tokens program source input heap stack turns ending bytes sizes e =
    status_is ending
    (of_word ending (λ code is. exits text names tokens program source input heap stack turns code bytes sizes (e ∙ ap (λ o. over.ended o) is)))
