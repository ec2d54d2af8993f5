-- Machines as contracts see them.
use Rattle.std.specs.Prelude.{ℕ, ◌≡◌, Bool, false, Option, Some, None}
use Rattle.tg_machine_state.specs.declared.ends.RunEnd.{RunEnd}
use Rattle.tg_machine_state.specs.declared.ends.RunEnd.TheVariants.{StepLimit}
use Rattle.tg_machine_state.specs.State.{MachineState, initial_machine}
use Rattle.tg_isa.specs.declared.images.Image.{Image}
use Rattle.tg_machine.specs.declared.status.Status.{Status}
use Rattle.tg_machine.specs.declared.status.Status.TheVariants.{Running, Ended}

-- a machine's state, how it ended if it has, how many bytes its services have written, and whether
-- a read has met the end of the input
pub record Simulated : Type 0 where
  pub state : MachineState
  pub end : Option RunEnd
  pub written : ℕ
  pub input_ended : Bool

-- a machine of a state, an end, a count, and whether its input has ended
abbrev pub simulated : MachineState → Option RunEnd → ℕ → Bool → Simulated
simulated s end written input_ended =
    record { state = s; end = end; written = written; input_ended = input_ended }

-- the end that a machine keeps after a step
abbrev pub kept : Status → Option RunEnd
kept Running = None
kept (Ended e) = Some e

-- a machine that was just loaded
abbrev pub loaded : Image → ℕ → ℕ → Simulated
loaded image heap stack = record {
  state = initial_machine image.code image.statics image.entry heap stack;
  end = None;
  written = 0;
  input_ended = false;
}

-- how a step ends a run of one step
abbrev pub end_of : Status → RunEnd
end_of Running = StepLimit
end_of (Ended e) = e

-- a machine that has ended does nothing
pub record HasEnded {I O : Type 0} (old new : Simulated) (input input' : I)
    (out out' : O) : Type 0 where
  pub machine : new ≡ old
  pub unread : input' ≡ input
  pub unwritten : out' ≡ out
