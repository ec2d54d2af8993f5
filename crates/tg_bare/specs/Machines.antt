-- Machines with delayed branches as contracts see them.
use Rattle.std.specs.Prelude.{ℕ, ◌≡◌, Bool, false, Option, None}
use Rattle.tg_machine_state.specs.declared.ends.RunEnd.{RunEnd}
use Rattle.tg_isa.specs.declared.images.Image.{Image}
use Rattle.tg_bare.specs.Delayed.{Bare, initial_bare}

-- a machine with its places, how it ended if it has, how many bytes its services have written, and
-- whether a read has met the end of the input
pub record BareSimulated : Type 0 where
  pub machine : Bare
  pub end : Option RunEnd
  pub written : ℕ
  pub input_ended : Bool

abbrev pub bare_simulated : Bare → Option RunEnd → ℕ → Bool → BareSimulated
bare_simulated b end written input_ended =
    record { machine = b; end = end; written = written; input_ended = input_ended }

-- a machine that was just loaded
abbrev pub loaded_bare : Image → ℕ → ℕ → BareSimulated
loaded_bare image heap stack = record {
  machine = initial_bare image.code image.statics image.entry heap stack;
  end = None;
  written = 0;
  input_ended = false;
}

-- a machine that has ended does nothing
pub record HasBareEnded {I O : Type 0} (old new : BareSimulated) (input input' : I)
    (out out' : O) : Type 0 where
  pub machine : new ≡ old
  pub unread : input' ≡ input
  pub unwritten : out' ≡ out
