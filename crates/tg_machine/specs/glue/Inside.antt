-- What contracts see of a machine's fields.
use Rattle.tg_machine.specs.declared.machines.Machine.TheInside.{Inside}
use Rattle.tg_machine.specs.Machines.{Simulated}

abbrev pub shown : Inside → Simulated
shown m = record {
  state = m.core;
  end = m.end;
  written = m.written;
  input_ended = m.input_ended;
}
