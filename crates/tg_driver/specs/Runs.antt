-- Runs of a machine on the streams of a call.
use Rattle.std.specs.Prelude.{ℕ, Bool, true, false}
use Rattle.tg_machine_state.specs.declared.ends.RunEnd.{RunEnd}
use Rattle.tg_isa.specs.declared.images.Image.{Image}
use Rattle.tg_machine.specs.Machines.{Simulated, loaded}
use Rattle.tg_machine.specs.Ran.{IsSimulation}
use Rattle.tg_bare.specs.Machines.{BareSimulated, loaded_bare}
use Rattle.tg_bare.specs.Ran.{IsBareSimulation}
use Rattle.tg_driver.specs.Calls.{Streams}

-- what may be said of a run of an image with these sizes and steps that ends so
abbrev pub RunRelation : Type 1
RunRelation = Image → (heap stack steps : ℕ) → RunEnd → Type 0

-- the machine ran the image on the streams with these sizes and steps, and it ended so
pub record HasRun {I O : Type 0} (s : Streams I O)
    (image : Image) (heap stack steps : ℕ) (end : RunEnd) : Type 0 where
  pub after : Simulated
  pub ran :
      IsSimulation s.input.told s.input.faults s.out.told s.out.faults steps
      (loaded image heap stack) after
      s.input.before s.input.after s.out.before s.out.after end

-- and so did the machine with delayed branches
pub record HasBareRun {I O : Type 0} (s : Streams I O)
    (image : Image) (heap stack steps : ℕ) (end : RunEnd) : Type 0 where
  pub after : BareSimulated
  pub ran :
      IsBareSimulation s.input.told s.input.faults s.out.told s.out.faults steps
      (loaded_bare image heap stack) after
      s.input.before s.input.after s.out.before s.out.after end

-- of the two, the machine that the flag asks for
abbrev pub HasRunBy : {I O : Type 0} → Streams I O → (bare : Bool) → RunRelation
HasRunBy s true = HasBareRun s
HasRunBy s false = HasRun s
