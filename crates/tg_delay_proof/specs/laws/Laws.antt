-- The laws of filled delay slots: a run of the lines, each with its slot, does what a run of the
-- lines before does, whatever words stand for the places after calls.
use Rattle.std.specs.Prelude.{ℕ, ◌+◌, ◌^◌, ◌<◌, ◌≡◌, ◌≢◌, List, [], ◌∷◌, ⊤}
use Rattle.tg_machine_state.specs.State.{most_words}
use Rattle.tg_simulation.specs.Ran.{StaysOver}
use Rattle.tg_simulation.specs.Preserving.{Preserves}
use Rattle.tg_tree.specs.declared.fragments.Literal.{Literal}
use Rattle.tg_emit.specs.declared.assembly.Line.{Line}
use Rattle.tg_emit.specs.declared.assembly.Line.TheVariants.{Label}
use Rattle.tg_emit.specs.mirror.Lines.{words}
use Rattle.tg_emit_proof.specs.LinesRun.{Returns, calls, lines_run}
use Rattle.tg_emit_proof.specs.laws.Laws.{AreReturns, returns_in}
use Rattle.tg_delay.specs.Filling.{filled, branches_in, turned_round, delayed, around_name}
use Rattle.tg_delay_proof.specs.DelayedRun.{delayed_run}

-- Slots, of any lines.
abbrev pub FillingKeepsRuns : Type 0
FillingKeepsRuns =
    (returns : Returns) (lines : List Line) (ls : List Literal) (input : List ℕ) (heap stack : ℕ) →
    Preserves 2 0
    (lines_run returns lines ls input heap stack)
    (delayed_run returns (filled lines) ls input heap stack)

-- no label of lines is one behind a branch that is turned round
abbrev pub GivesNone : List Line → Type 0
GivesNone [] = ⊤
GivesNone (Label name ∷ rest) = ((k : ℕ) → name ≢ around_name k) × GivesNone rest
GivesNone (line ∷ rest) = GivesNone rest

-- Turned branches, where they may have labels of their own.
abbrev pub TurningKeepsRuns : Type 0
TurningKeepsRuns =
    (returns : Returns) (lines : List Line) (ls : List Literal) (input : List ℕ) (heap stack : ℕ) →
    GivesNone lines → branches_in lines < 2 ^ 64 →
    Preserves 2 0
    (lines_run returns lines ls input heap stack)
    (lines_run returns (turned_round lines) ls input heap stack)

-- Both, one after the other.
abbrev pub DelayingKeepsRuns : Type 0
DelayingKeepsRuns =
    (returns : Returns) (lines : List Line) (ls : List Literal) (input : List ℕ) (heap stack : ℕ) →
    GivesNone lines →
    Preserves 4 0
    (lines_run returns lines ls input heap stack)
    (delayed_run returns (delayed lines) ls input heap stack)

-- The calls stay, in their order.
abbrev pub DelayingKeepsCalls : Type 0
DelayingKeepsCalls = (lines : List Line) → calls (delayed lines) ≡ calls lines

-- the places after the slots of the calls of an image
abbrev pub returns_behind_slots : List Line → Returns
returns_behind_slots lines k = returns_in lines k + 4

-- Those places differ, and none is 0.
abbrev pub SlotsAreReturns : Type 0
SlotsAreReturns =
    (lines : List Line) → words lines < most_words →
    AreReturns (calls lines) (returns_behind_slots lines)

-- What has ended stays so with more fuel.
abbrev pub LinesStayOver : Type 0
LinesStayOver =
    (returns : Returns) (lines : List Line) (ls : List Literal) (input : List ℕ) (heap stack : ℕ) →
    StaysOver (lines_run returns lines ls input heap stack)
