-- What an allocation of a code is (George and Appel 1996, section 4): its rounds, and the code over
-- registers after them.
use Rattle.std.specs.Prelude.{◌≡◌, ◌≢◌, ◌+◌, IsTrue, IsFalse, List, [], map}
use Rattle.std.specs.List.{range_with_len}
use Rattle.tg_frame.specs.declared.frames.Frame.{Frame}
use Rattle.tg_instr.specs.declared.codes.Allocated.{Allocated}
use Rattle.tg_instr.specs.declared.codes.Code.{Code}
use Rattle.tg_irc_definition.specs.Policies.{Rule}
use Rattle.tg_regalloc.specs.declared.allocations.Allocation.{Allocation}
use Rattle.tg_regalloc.specs.mirror.InFrame.{code_in_frame, locations_from}
use Rattle.tg_regalloc.specs.Painting.{code_painted, colour_of}
use Rattle.tg_regalloc.specs.Rounds.{BetweenRounds, stage_of, AreRounds, location_by, last_round}

-- the frame that was handed in, with slots added
pub record HasFrame (frame : Frame) (a : Allocation) : Type 0 where
  pub slots : a.done.frame.slots ≡ frame.slots + a.slots
  pub label : a.done.frame.label ≡ frame.label
  pub params : a.done.frame.params ≡ frame.params
  pub temps : a.done.frame.temps ≡ frame.temps
  pub out : a.done.frame.out ≡ frame.out

module _ (rule : Rule) (code : Code) (frame : Frame) (a : Allocation) where
  -- every temporary that is left has a colour
  pub record IsColoured (end : BetweenRounds) : Type 0 where
    pub nothing_spilled : (last_round a.rounds).spilled ≡ []
    pub list : a.done.code.list ≡ code_painted (colour_of (last_round a.rounds)) end.list
    pub registers :
        a.registers ≡
        map (location_by code.temps frame.slots a.rounds) (range_with_len 0 code.temps)
    pub slots : end.slots ≡ frame.slots + a.slots

  -- the last round spilled, and what it spilled was made alone
  pub record IsAllInFrame : Type 0 where
    pub something_spilled : (last_round a.rounds).spilled ≢ []
    pub list : a.done.code.list ≡ code_in_frame frame.slots code.list
    pub registers : a.registers ≡ locations_from frame.slots code.temps
    pub slots : a.slots ≡ code.temps

  pub record IsAllocation : Type 0 where
    pub end : BetweenRounds
    pub rounds : AreRounds rule code.temps (stage_of code frame.slots) a.rounds end
    pub has_frame : HasFrame frame a
    pub coloured : IsFalse a.all_in_frame → IsColoured end
    pub in_frame : IsTrue a.all_in_frame → IsAllInFrame

-- the code over registers of each allocation
abbrev pub codes_of : List Allocation → List Allocated
codes_of allocations = map (λ (a : Allocation). a.done) allocations
