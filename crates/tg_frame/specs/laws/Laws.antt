-- The homes of a frame stay apart, one by one.
use Rattle.std.specs.Prelude.{ℕ, ◌≡◌, ◌≢◌, ◌≤◌, Some, All}
use Rattle.std.specs.List.{slice_get}
use Rattle.tg_frame.specs.declared.accesses.Access.{Access}
use Rattle.tg_frame.specs.declared.frames.Frame.{Frame}
use Rattle.tg_frame.specs.Homes.{IsDrawn}

-- the homes of parameters are drawn
abbrev pub ParametersDrawn : Type 0
ParametersDrawn = (f : Frame) → All (IsDrawn f.slots f.temps) f.params

-- two parameters have two homes
abbrev pub ParametersApart : Type 0
ParametersApart =
    (f : Frame) (i j : ℕ) (a b : Access) →
    i ≢ j → slice_get f.params i ≡ Some a → slice_get f.params j ≡ Some b → a ≢ b

-- what was drawn stays drawn
abbrev pub DrawnStays : Type 0
DrawnStays =
    (slots temps slots' temps' : ℕ) (home : Access) →
    slots ≤ slots' → temps ≤ temps' → IsDrawn slots temps home → IsDrawn slots' temps' home

-- a parameter's home is none that is drawn later
abbrev pub LocalsApart : Type 0
LocalsApart =
    (f : Frame) (slots temps i : ℕ) (home later : Access) →
    f.slots ≤ slots → f.temps ≤ temps → slice_get f.params i ≡ Some home →
    (IsDrawn slots temps later → ⊥) → home ≢ later
