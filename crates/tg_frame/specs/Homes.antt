-- Homes of variables in a function's frame (Appel, chapter 6).
use Rattle.std.specs.Prelude.{ℕ, ◌+◌, ◌&&◌, ◌==◌, ◌<◌, Bool, true, false, not, List, [], ◌∷◌, max}
use Rattle.std.specs.List.{list_any}
use Rattle.tg_frame.specs.declared.accesses.Access.{Access}
use Rattle.tg_frame.specs.declared.accesses.Access.TheVariants.{InTemp, InFrame}

-- the home is a slot of the frame, and no temporary
abbrev pub is_slot : Access → Bool
is_slot (InTemp t) = false
is_slot (InFrame s) = true

-- the home is one of so many slots and temporaries that were drawn
abbrev pub IsDrawn : (slots temps : ℕ) → Access → Type 0
IsDrawn slots temps (InTemp t) = t.0 < temps
IsDrawn slots temps (InFrame s) = s < slots

-- the next home, in the frame where that is asked
abbrev pub next_home : Bool → (slots temps : ℕ) → Access
next_home true slots temps = InFrame slots
next_home false slots temps = InTemp (record { 0 = temps })

-- homes for what is asked, one after another, where so many slots and temporaries are drawn
abbrev pub homes_from : (slots temps : ℕ) → List Bool → List Access
homes_from slots temps [] = []
homes_from slots temps (true ∷ asked) = InFrame slots ∷ homes_from (slots + 1) temps asked
homes_from slots temps (false ∷ asked) =
    InTemp (record { 0 = temps }) ∷ homes_from slots (temps + 1) asked

abbrev pub homes_of : List Bool → List Access
homes_of asked = homes_from 0 0 asked

-- how many homes are asked for in the frame, and outside
abbrev pub slots_of : List Bool → ℕ
slots_of [] = 0
slots_of (true ∷ asked) = slots_of asked + 1
slots_of (false ∷ asked) = slots_of asked

abbrev pub temps_of : List Bool → ℕ
temps_of [] = 0
temps_of (true ∷ asked) = temps_of asked
temps_of (false ∷ asked) = temps_of asked + 1

-- one more than the greatest slot, and than the greatest temporary
abbrev pub slot_bound : List Access → ℕ
slot_bound [] = 0
slot_bound (InTemp t ∷ homes) = slot_bound homes
slot_bound (InFrame s ∷ homes) = max (s + 1) (slot_bound homes)

abbrev pub temp_bound : List Access → ℕ
temp_bound [] = 0
temp_bound (InTemp t ∷ homes) = max (t.0 + 1) (temp_bound homes)
temp_bound (InFrame s ∷ homes) = temp_bound homes

abbrev pub is_same_home : Access → Access → Bool
is_same_home (InTemp t) (InTemp u) = t.0 == u.0
is_same_home (InFrame s) (InFrame u) = s == u
is_same_home _ _ = false

-- no two homes are one
abbrev pub differ : List Access → Bool
differ [] = true
differ (a ∷ homes) = not (list_any (is_same_home a) homes) && differ homes
