-- What the end of a run says of the meaning of its program.
use Rattle.std.specs.Prelude.{ℕ, ◌≡◌, ◌<◌}
use Rattle.tg_machine_state.specs.declared.ends.RunEnd.{RunEnd}
use Rattle.tg_machine_state.specs.declared.ends.RunEnd.TheVariants.{StackFull, StepLimit}
use Rattle.tg_machine_state.specs.declared.ends.RunEnd.TheVariants.{BadAddress}
use Rattle.tg_machine_state.specs.declared.ends.RunEnd.TheVariants.{Unaligned, BadWord, BadService}
use Rattle.tg_machine_state.specs.declared.ends.RunEnd.TheVariants.{ReadFault, WriteFault}
use Rattle.tg_simulation.specs.Outcomes.{ended, Outcome}
use Rattle.tg_semantics.specs.Values.{Ending}
use Rattle.tg_semantics.specs.MachineEnds.{machine_end}
use Rattle.tg_isa.specs.Runs.{Execution, Ended}
use Rattle.tg_correctness.specs.Images.{DoesAll, IsCutShort, most_steps}

-- evaluation ends, and this is its end; what was written and the input that is left are its own
pub record EndsSo (means : (turns : ℕ) → Outcome Ending) (end : RunEnd)
    (last : Execution) : Type 0 where
  pub turns : ℕ
  pub ending : Ending
  pub ends : (means turns).end ≡ ended ending
  pub end_is : end ≡ machine_end ending
  pub does : DoesAll (means turns) last

-- With so many steps the run came to this end, and to this world. It ends by an exit, a `break`, a
-- full heap or an overflow only where evaluation does; by a full stack only where the weight of
-- what was open had passed the stack, and then what was written is a prefix of what evaluation
-- writes, that has all that was written before; at the limit of steps only where every evaluation
-- that ends costs so much that more steps are allowed for it. It ends in no other way.
abbrev pub EndIsMeant :
    (means : (turns : ℕ) → Outcome Ending) → (steps : ℕ) → RunEnd → Execution → Type 0
EndIsMeant means steps StepLimit last =
    (turns : ℕ) (ending : Ending) → (means turns).end ≡ ended ending →
    steps < most_steps (means turns).cost
EndIsMeant means steps StackFull last =
    (turns : ℕ) × IsCutShort (means turns) (Ended StackFull last)
EndIsMeant means steps (BadAddress address) last = ⊥
EndIsMeant means steps (Unaligned address) last = ⊥
EndIsMeant means steps (BadWord word) last = ⊥
EndIsMeant means steps (BadService number) last = ⊥
EndIsMeant means steps ReadFault last = ⊥
EndIsMeant means steps WriteFault last = ⊥
EndIsMeant means steps end last = EndsSo means end last
