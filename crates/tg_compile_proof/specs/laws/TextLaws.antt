-- What is built of a source does what the source means, and what the ends of its runs say.
use Rattle.std.specs.Prelude.{ℕ, ◌≡◌, ◌<◌, ◌^◌, List}
use Rattle.tg_machine_state.specs.declared.ends.RunEnd.{RunEnd}
use Rattle.tg_syntax.specs.declared.tokens.Spanned.{Spanned}
use Rattle.tg_syntax.specs.Tree.{Exp}
use Rattle.tg_simulation.specs.Bytes.{AreBytes}
use Rattle.tg_simulation.specs.Outcomes.{ended}
use Rattle.tg_semantics.specs.Values.{by_exit}
use Rattle.tg_semantics.specs.Direct.{evaluate}
use Rattle.tg_isa.specs.Runs.{Execution, Running, Ended}
use Rattle.tg_irc_definition.specs.Policies.{Rule as SpillRule}
use Rattle.tg_machine_state.specs.declared.ends.RunEnd.TheVariants.{StepLimit}
use Rattle.tg_correctness.specs.Images.{AreSizes, runs_to}
use Rattle.tg_compile.specs.declared.passes.Passes.{Passes}
use Rattle.tg_compile_proof.specs.Builds.{Builds}
use Rattle.tg_correctness.specs.Ends.{EndIsMeant}
use Rattle.tg_correctness.specs.Assemblies.{IsAsMeant}
use Rattle.tg_correctness.specs.Sources.{IsSourceOf}

-- The headline: whatever the passes that are switched on and the policy, an assembly text that a
-- source is built to has an image that does what the source means.
abbrev pub BuildIsCorrect : Type 0
BuildIsCorrect =
    (passes : Passes) (rule : SpillRule) (text assembly : List ℕ) →
    Builds passes rule text assembly → IsAsMeant text assembly

-- So the end of a run of it, on any input and with any sizes and steps, is as the source means: of
-- one that ended, and of one that was running when its steps were used up.
abbrev pub EndedIsMeant : Type 0
EndedIsMeant =
    (text assembly : List ℕ) (m : IsAsMeant text assembly) (input : List ℕ)
    (heap stack steps : ℕ) (end : RunEnd) (last : Execution) →
    AreBytes input → AreSizes heap stack →
    runs_to m.image input heap stack steps ≡ Ended end last →
    EndIsMeant (λ turns. evaluate m.names m.program input heap stack turns) steps end last

abbrev pub RunningIsMeant : Type 0
RunningIsMeant =
    (text assembly : List ℕ) (m : IsAsMeant text assembly) (input : List ℕ)
    (heap stack steps : ℕ) (last : Execution) →
    AreBytes input → AreSizes heap stack →
    runs_to m.image input heap stack steps ≡ Running last →
    EndIsMeant (λ turns. evaluate m.names m.program input heap stack turns) steps StepLimit last

-- Where evaluation of a source ends by an exit, its code is a word.
abbrev pub ExitsAreWords : Type 0
ExitsAreWords =
    (text : List ℕ) (names : List (List ℕ)) (tokens : List Spanned) (program : Exp) →
    IsSourceOf text names tokens program →
    (input : List ℕ) (heap stack turns code : ℕ) → AreBytes input → AreSizes heap stack →
    (evaluate names program input heap stack turns).end ≡ ended (by_exit code) → code < 2 ^ 32
