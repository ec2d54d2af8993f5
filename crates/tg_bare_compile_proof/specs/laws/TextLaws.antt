-- What is built of a source for the machine with delayed branches does what the source means there,
-- and what the ends of its runs say.
use Rattle.std.specs.Prelude.{ℕ, ◌≡◌, List}
use Rattle.tg_machine_state.specs.declared.ends.RunEnd.{RunEnd}
use Rattle.tg_machine_state.specs.declared.ends.RunEnd.TheVariants.{StepLimit}
use Rattle.tg_simulation.specs.Bytes.{AreBytes}
use Rattle.tg_semantics.specs.Direct.{evaluate}
use Rattle.tg_isa.specs.Runs.{Execution, Running, Ended}
use Rattle.tg_irc_definition.specs.Policies.{Rule as SpillRule}
use Rattle.tg_correctness.specs.Images.{AreSizes}
use Rattle.tg_compile.specs.declared.passes.Passes.{Passes}
use Rattle.tg_bare_compile_proof.specs.Images.{slot_times, bare_runs_to}
use Rattle.tg_bare_compile_proof.specs.Assemblies.{BareIsAsMeant}
use Rattle.tg_bare_compile_proof.specs.Ends.{EndIsMeantWithin}
use Rattle.tg_bare_compile_proof.specs.Builds.{BuildsDelayed}

-- Whatever the passes that are switched on and the policy, an assembly text with delay slots that a
-- source is built to has an image that does what the source means on the machine with delayed
-- branches.
abbrev pub BareBuildIsCorrect : Type 0
BareBuildIsCorrect =
    (passes : Passes) (rule : SpillRule) (text assembly : List ℕ) →
    BuildsDelayed passes rule text assembly → BareIsAsMeant text assembly

-- So the end of a run of it, on any input and with any sizes and steps, is as the source means: of
-- one that ended, and of one that was running when its steps were used up.
abbrev pub BareEndedIsMeant : Type 0
BareEndedIsMeant =
    (text assembly : List ℕ) (m : BareIsAsMeant text assembly) (input : List ℕ)
    (heap stack steps : ℕ) (end : RunEnd) (last : Execution) →
    AreBytes input → AreSizes heap stack →
    bare_runs_to m.image input heap stack steps ≡ Ended end last →
    EndIsMeantWithin slot_times (λ turns. evaluate m.names m.program input heap stack turns)
    steps end last

abbrev pub BareRunningIsMeant : Type 0
BareRunningIsMeant =
    (text assembly : List ℕ) (m : BareIsAsMeant text assembly) (input : List ℕ)
    (heap stack steps : ℕ) (last : Execution) →
    AreBytes input → AreSizes heap stack →
    bare_runs_to m.image input heap stack steps ≡ Running last →
    EndIsMeantWithin slot_times (λ turns. evaluate m.names m.program input heap stack turns)
    steps StepLimit last
