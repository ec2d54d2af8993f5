-- What contracts see of a machine's fields.
use Rattle.tg_machine_state.specs.State.{MachineState, go}
use Rattle.tg_bare.specs.declared.cores.BareCore.{BareCore}
use Rattle.tg_bare.specs.declared.machines.BareMachine.TheInside.{Inside}
use Rattle.tg_bare.specs.declared.places.Places.{Places}
use Rattle.tg_bare.specs.Delayed.{Bare}
use Rattle.tg_bare.specs.Machines.{BareSimulated}

-- the machine that a core with its places is
abbrev pub machine_of : BareCore → Bare
machine_of c = record { state = c.core; next = c.next; in_slot = c.in_slot }

-- a machine at these places, whatever place the state has
abbrev pub machine_at : MachineState → Places → Bare
machine_at s at = record { state = go s at.place; next = at.next; in_slot = at.in_slot }

abbrev pub shown : Inside → BareSimulated
shown m = record {
  machine = machine_of m.core;
  end = m.end;
  written = m.written;
  input_ended = m.input_ended;
}
