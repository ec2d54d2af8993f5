-- What a step of the code leaves, by what the step of the definition does.
use Rattle.std.specs.Prelude.{ℕ, ◌≡◌, true, false, Some, Result, Ok, Err}
use Rattle.tg_base.specs.Words.{add}
use Rattle.tg_machine_state.specs.declared.ends.RunEnd.{RunEnd}
use Rattle.tg_machine_state.specs.declared.ends.RunEnd.TheVariants.{BadWord}
use Rattle.tg_machine_state.specs.State.{MachineState, go, set_register}
use Rattle.tg_machine_state.specs.Services as plain
use Rattle.tg_machine_state.specs.Services.{Step}
use Rattle.tg_isa.specs.declared.mips.Mips.{Mips}
use Rattle.tg_isa.specs.Effects.{fetch}
use Rattle.tg_isa.specs.Table.{word_of}
use Rattle.tg_machine.specs.glue.Moves.{IsOwn}
use Rattle.tg_bare.specs.declared.places.Places.{Places}
use Rattle.tg_bare.specs.declared.ways.Way.TheVariants as to
use Rattle.tg_bare.specs.declared.ways.Way as ways
use Rattle.tg_bare.specs.Delayed.{Bare, Way, Straight, Turns, taken_to, Did, Goes, Ends, Reads}
use Rattle.tg_bare.specs.Delayed.{Writes}
use Rattle.tg_bare.specs.glue.Inside.{machine_at}

-- what the code found of where a row leads, in a state whose place is the delay slot's
abbrev pub Leads : ways.Way → Way → MachineState → Type 0
Leads to.Straight Straight s = Unit {0}
Leads to.Straight (Turns taken t) s = ⊥
Leads (to.Turns place) Straight s = ⊥
Leads (to.Turns place) (Turns taken t) s = (t ≡ s) × (place ≡ taken_to taken (add s.place 4))
Leads (to.Calls link place) Straight s = ⊥
Leads (to.Calls link place) (Turns taken t) s =
    (t ≡ set_register s link (add s.place 4)) × (taken ≡ Some place)

-- the delay slot was entered; or it was one, where the word of a row that controls is bad
abbrev pub HasEntered : Result Places RunEnd → Places → (place : ℕ) → (old new : MachineState) →
    Type 0
HasEntered (Ok there) at place old new =
    (at.in_slot ≡ false) × (there ≡ record { place = at.next; next = place; in_slot = true })
    × (new ≡ old)
HasEntered (Err e) at place old new =
    (at.in_slot ≡ true)
    × ((one : Mips) → fetch (go old at.place) ≡ Ok one → e ≡ BadWord (word_of one))

-- a step that neither reads nor writes left this state but for its place, at these places, or ended
-- so
abbrev pub HasStepped : Did → Result Places RunEnd → MachineState → Type 0
HasStepped (Goes b) (Ok at) new = machine_at new at ≡ b
HasStepped (Goes b) (Err f) new = ⊥
HasStepped (Ends e) (Ok at) new = ⊥
HasStepped (Ends e) (Err f) new = (f ≡ e) × IsOwn f
HasStepped (Reads b) result new = ⊥
HasStepped (Writes bytes b) result new = ⊥

-- what a step of the state does, at the places of a machine
abbrev pub within : Bare → Step → Did
within b (plain.Goes s) = Goes (record b { state = s })
within b (plain.Ends e) = Ends e
within b (plain.Reads s) = Reads (record b { state = s })
within b (plain.Writes bytes s) = Writes bytes (record b { state = s })
