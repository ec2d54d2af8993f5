-- How many rounds and slots an allocation takes, and how much of its code and how many temporaries
-- come of each instruction (George and Appel 1996, section 4).
use Rattle.std.specs.Prelude.{◌≡◌, ◌≢◌, ◌↔◌, ◌≤◌, ◌<◌, ◌+◌, ◌*◌, ℕ, IsTrue, List, [], ◌∷◌}
use Rattle.std.specs.Prelude.{All, Option, length, sum_by, map, flat_map, if◌then◌else◌}
use Rattle.std.specs.List.{cons_option}
use Rattle.tg_frame.specs.declared.frames.Frame.{Frame}
use Rattle.tg_instr.specs.declared.instr.Instr.{Instr}
use Rattle.tg_instr.specs.declared.instr.Instr.TheVariants.{Call}
use Rattle.tg_instr.specs.declared.codes.Code.{Code}
use Rattle.tg_instr.specs.Lengths.{words_of, words, most_words}
use Rattle.tg_irc_definition.specs.declared.rounds.Round.{Round}
use Rattle.tg_irc_definition.specs.Policies.{Rule}
use Rattle.tg_irc_definition.specs.laws.Classes.{class_of}
use Rattle.tg_regalloc.specs.declared.allocations.Allocation.{Allocation}
use Rattle.tg_regalloc.specs.mirror.InFrame.{instruction_in_frame}
use Rattle.tg_regalloc.specs.Painting.{colour_of, code_painted}
use Rattle.tg_regalloc.specs.Rewriting.{slotted, slot_after, code_rewritten, temps_after}
use Rattle.tg_regalloc.specs.Rounds.{BetweenRounds, stage_of, slots_by, next_stage, last_round}
use Rattle.tg_regalloc.specs.Allocations.{IsAllocation}

-- Rounds and slots.

-- the slots that rounds give to an original, from a number of slots on
abbrev pub slots_given : (originals base : ℕ) → List Round → (temp : ℕ) → List ℕ
slots_given originals base [] t = []
slots_given originals base (round ∷ rounds) t =
    cons_option (slot_after originals base round t)
    (slots_given originals (base + length (slotted originals round)) rounds t)

-- each round but the last gives a slot to an original that had none, and none gets a second
pub record IsShort (code : Code) (frame : Frame) (a : Allocation) : Type 0 where
  pub rounds : length a.rounds ≤ code.temps + 1
  pub slots : a.slots ≤ code.temps
  pub once :
      (t : ℕ) → t < code.temps → length (slots_given code.temps frame.slots a.rounds t) ≤ 1

abbrev pub AllocationsAreShort : Type 0
AllocationsAreShort =
    (rule : Rule) (code : Code) (frame : Frame) (a : Allocation) →
    IsAllocation rule code frame a →
    IsShort code frame a

-- a round spills, and no class that it spills holds an original
pub record SpillsMadeAlone (originals : ℕ) (round : Round) : Type 0 where
  pub something_spilled : round.spilled ≢ []
  pub made :
      (t : ℕ) → t < originals → All (λ x. class_of round (25 + t) ≢ x) round.spilled

-- exactly then every temporary goes to the frame
abbrev pub AllInFrameIsLast : Type 0
AllInFrameIsLast =
    (rule : Rule) (code : Code) (frame : Frame) (a : Allocation) →
    IsAllocation rule code frame a →
    IsTrue a.all_in_frame ↔ SpillsMadeAlone code.temps (last_round a.rounds)

-- Instructions.

-- What stands after all rounds for each instruction that was handed in: its block.

-- the blocks after a round, whose made temporaries are numbered from this one on
abbrev pub blocks_rewritten :
    (slot_of : ℕ → Option ℕ) → List (List Instr) → (next : ℕ) → List (List Instr)
blocks_rewritten slot_of [] next = []
blocks_rewritten slot_of (block ∷ blocks) next =
    code_rewritten slot_of block next
    ∷ blocks_rewritten slot_of blocks (temps_after slot_of block next)

-- after these rounds, from the blocks of a code on
abbrev pub blocks_behind :
    (originals : ℕ) → BetweenRounds → List Round → List (List Instr) → List (List Instr)
blocks_behind n s [] blocks = blocks
blocks_behind n s (round ∷ []) blocks = map (code_painted (colour_of round)) blocks
blocks_behind n s (round ∷ round' ∷ rounds) blocks =
    blocks_behind n (next_stage n s round) (round' ∷ rounds)
    (blocks_rewritten (slots_by n s round) blocks s.temps)

abbrev pub blocks_of : Code → Frame → Allocation → List (List Instr)
blocks_of code frame a =
    if a.all_in_frame then map (instruction_in_frame frame.slots) code.list else
    blocks_behind code.temps (stage_of code frame.slots) a.rounds (map (λ one. one ∷ []) code.list)

-- the most steps that the machine takes for an instruction: its words, and of a call those of its
-- callee's entry too
abbrev pub most_steps : Instr → ℕ
most_steps (Call _) = 10
most_steps one = words_of one

abbrev pub steps : List Instr → ℕ
steps list = sum_by most_steps list

-- a block is at most so many instructions, words and steps
pub record BlockIsSmall (one : Instr) (block : List Instr) : Type 0 where
  pub few : length block ≤ 5
  pub short : words block ≤ most_words one
  pub quick : steps block ≤ most_words one

-- one for each instruction
pub data AreSmall : List Instr → List (List Instr) → Type 0 where
  none : AreSmall [] []
  also :
      (one : Instr) (block rest : List Instr) (blocks : List (List Instr)) →
      BlockIsSmall one block →
      AreSmall rest blocks →
      AreSmall (one ∷ rest) (block ∷ blocks)

-- the code of an allocation, with the number of temporaries of its last code: for each instruction
-- spilling makes at most four
pub record GrowsLittle (code : Code) (frame : Frame) (a : Allocation) (temps : ℕ) : Type 0 where
  pub whole : flat_map (λ block. block) (blocks_of code frame a) ≡ a.done.code.list
  pub small : AreSmall code.list (blocks_of code frame a)
  pub few : length a.done.code.list ≤ 5 * length code.list
  pub short : words a.done.code.list ≤ sum_by most_words code.list
  pub made : temps ≤ code.temps + 4 * length code.list

abbrev pub AllocationsGrowLittle : Type 0
AllocationsGrowLittle =
    (rule : Rule) (code : Code) (frame : Frame) (a : Allocation) →
    (h : IsAllocation rule code frame a) →
    GrowsLittle code frame a h.end.temps
