-- What the uses and definitions of an instruction say of its effect, and the laws of runs.
use Rattle.std.specs.Prelude.{ℕ, ◌≡◌, ⊤, List, [], ◌∷◌, ◌++◌, map, if◌then◌else◌}
use Rattle.tg_simulation.specs.Ran.{StaysOver, OnlyGoesOn}
use Rattle.tg_tree.specs.Actions.{World}
use Rattle.tg_tree.specs.Tree.{Literal, Code}
use Rattle.tg_instr.specs.declared.instr.Instr.{Instr}
use Rattle.tg_instr.specs.Shapes.{Holder, Operand, Hi, Lo, InstructionShape, From1, Halves, Calls}
use Rattle.tg_instr.specs.Uses.{uses, defs}
use Rattle.tg_instr.specs.Contents.{Nothing, Contents, is_among}
use Rattle.tg_instr.specs.Meaning.{Next, Enter, Around, act}
use Rattle.tg_instr.specs.Running.{Units, CodePoint, code_step, code_going, code_run}

-- hi and lo, where an instruction reads or changes them
abbrev pub half_read : InstructionShape → List Holder
half_read (From1 to (Operand x) f) = []
half_read (From1 to half f) = half ∷ []
half_read _ = []

abbrev pub halves_changed : InstructionShape → List Holder
halves_changed (Halves left right low high) = Hi ∷ Lo ∷ []
halves_changed (Calls label) = Hi ∷ Lo ∷ []
halves_changed _ = []

-- what an instruction reads, moves or hands on, and what holds something else after it
abbrev pub reads : InstructionShape → List Holder
reads one = map (λ x. Operand x) (uses one) ++ half_read one

abbrev pub changes : InstructionShape → List Holder
changes one = map (λ x. Operand x) (defs one) ++ halves_changed one

-- the one at these holders, and the other elsewhere
abbrev pub within : List Holder → Contents → Contents → Contents
within xs s t x = if is_among x xs then s x else t x

abbrev pub only : List Holder → Contents → Contents
only xs s = within xs s (λ x. Nothing)

abbrev pub Agree : List Holder → Contents → Contents → Type 0
Agree [] s t = ⊤
Agree (x ∷ xs) s t = (s x ≡ t x) × Agree xs s t

-- after an instruction all but its definitions is as before it
abbrev pub ChangesDefinitions : Type 0
ChangesDefinitions =
    (room : ℕ) (literals : List Literal) (enter : Enter) (one : InstructionShape) (e : Around)
    (next : Next) (w : World) (s : Contents) →
    act room literals enter one e next w s
    ≡ act room literals enter one e (λ w1 s1. next w1 (within (changes one) s1 s)) w s

-- what its definitions are after it, and where it goes on, is told by what its uses are
abbrev pub ReadsUses : Type 0
ReadsUses =
    (room : ℕ) (literals : List Literal) (enter : Enter) (one : InstructionShape) (e : Around)
    (next : Next) (w : World) (s t : Contents) →
    Agree (reads one) s t →
    ((m : ℕ) (w1 : World) → e.jumps m w1 s ≡ e.jumps m w1 t) →
    act room literals enter one e (λ w1 s1. next w1 (only (changes one) s1)) w s
    ≡ act room literals enter one e (λ w1 s1. next w1 (only (changes one) s1)) w t

-- Laws of runs, for any units that instructions are charged.

-- a run is its own step: what comes of a place is a step from it, and then what comes of the places
-- after it
abbrev pub CodeSteps : Type 0
CodeSteps =
    (units : Units) (code : Code (List Instr)) (size : ℕ → ℕ) (floor room : ℕ)
    (p : CodePoint) (n : ℕ) →
    code_going units code size floor room p n
    ≡ code_step units code size floor room (code_going units code size floor room) p n

-- more fuel changes nothing of a run that is over
abbrev pub CodeStaysOver : Type 0
CodeStaysOver =
    (units : Units) (code : Code (List Instr)) (size : ℕ → ℕ)
    (floor room body : ℕ) (input : List ℕ) →
    StaysOver (code_run units code size floor room body input)

-- and any other run goes on with it
abbrev pub CodeOnlyGoesOn : Type 0
CodeOnlyGoesOn =
    (units : Units) (code : Code (List Instr)) (size : ℕ → ℕ)
    (floor room body : ℕ) (input : List ℕ) →
    OnlyGoesOn (code_run units code size floor room body input)
