-- What an allocation keeps of the code that was handed in, where it needs one round, and why moves
-- of the last code stay (George and Appel 1996, section 4).
use Rattle.std.specs.Prelude.{◌≡◌, ◌≢◌, ◌⊎◌, ℕ, nat_lt, Bool, IsTrue, IsFalse, [], ◌∷◌, Some}
use Rattle.std.specs.Prelude.{slice_get}
use Rattle.std.specs.List.{list_all}
use Rattle.tg_frame.specs.declared.frames.Frame.{Frame}
use Rattle.tg_instr.specs.declared.operands.Opnd.{Opnd}
use Rattle.tg_instr.specs.declared.instr.Instr.{Instr}
use Rattle.tg_instr.specs.declared.instr.Instr.TheVariants.{FrameLoad, FrameStore}
use Rattle.tg_instr.specs.declared.codes.Code.{Code}
use Rattle.tg_instr.specs.Renaming.{renamed}
use Rattle.tg_graph.specs.Interference.{Interference}
use Rattle.tg_irc_definition.specs.declared.moves.Move.{Move}
use Rattle.tg_irc_definition.specs.declared.moves.MoveState.TheVariants.{Constrained}
use Rattle.tg_irc_definition.specs.declared.rounds.Round.{Round}
use Rattle.tg_irc_definition.specs.Graphs.{IsGreedilyColourable}
use Rattle.tg_irc_definition.specs.Policies.{Rule}
use Rattle.tg_irc_definition.specs.States.{Problem, problem, start}
use Rattle.tg_irc_definition.specs.laws.Laws.{SpillsNothing, IsFrozenAtLast}
use Rattle.tg_interference.specs.Pairs.{IsInterference}
use Rattle.tg_interference.specs.Moves.{moves_of}
use Rattle.tg_interference.specs.Facts.{facts_of_nodes}
use Rattle.tg_coalescing_round.specs.glue.Standing.{graph_of}
use Rattle.tg_regalloc.specs.declared.allocations.Allocation.{Allocation}
use Rattle.tg_regalloc.specs.Rounds.{BetweenRounds, last_round}
use Rattle.tg_regalloc.specs.Allocations.{IsAllocation}

-- a test of instructions whatever operands they name, which loads and stores of slots pass
pub record IgnoresOperands (test : Instr → Bool) : Type 0 where
  pub renaming :
      (one : Instr) (to first second : Opnd) →
      test (renamed one to first second) ≡ test one
  pub load : (to : Opnd) (slot : ℕ) → IsTrue (test (FrameLoad to slot))
  pub store : (from : Opnd) (slot : ℕ) → IsTrue (test (FrameStore from slot))

-- where the code handed in passes such a test, the code of the allocation does
abbrev pub AllocationsKeepTests : Type 0
AllocationsKeepTests =
    (rule : Rule) (code : Code) (frame : Frame) (a : Allocation) →
    IsAllocation rule code frame a →
    (test : Instr → Bool) →
    IgnoresOperands test →
    IsTrue (list_all test code.list) →
    IsTrue (list_all test a.done.code.list)

-- One round.

-- taking out low temporaries, one after another, leaves the registers of the graph alone
abbrev pub IsColourable : Interference → Type 0
IsColourable graph =
    IsGreedilyColourable graph.nodes (graph_of graph).pairs (λ x. nat_lt x graph.nodes)

-- one round, which spills nothing, so that no slot is added
pub record NeedsOneRound (a : Allocation) : Type 0 where
  pub round : Round
  pub rounds : a.rounds ≡ round ∷ []
  pub nothing_spilled : SpillsNothing round
  pub coloured : IsFalse a.all_in_frame
  pub slots : a.slots ≡ 0

-- an allocation of a code whose interference graph is greedily colourable does
abbrev pub ColourableNeedsOneRound : Type 0
ColourableNeedsOneRound =
    (rule : Rule) (code : Code) (frame : Frame) (a : Allocation) (graph : Interference) →
    IsInterference code.list code.temps graph →
    IsColourable graph →
    IsAllocation rule code frame a →
    NeedsOneRound a

-- Moves.

-- what a round is given: an interference graph of the code with its moves and facts, and the rule
abbrev pub problem_of : Rule → (originals : ℕ) → BetweenRounds → Interference → Problem
problem_of rule originals s graph =
    problem (graph_of graph) (moves_of s.list) (facts_of_nodes s.list s.temps originals) rule

-- each move of the code whose ends have two colours was constrained, or frozen when no Simplify was
-- possible and every unsettled move failed its test
pub record HasCauses (rule : Rule) (originals : ℕ) (s : BetweenRounds)
    (round : Round) : Type 0 where
  pub graph : Interference
  pub exact : IsInterference s.list s.temps graph
  pub cause :
      (i a b : ℕ) (m : Move) →
      slice_get (moves_of s.list) i ≡ Some m →
      slice_get round.colours m.to ≡ Some (Some a) →
      slice_get round.colours m.from ≡ Some (Some b) →
      a ≢ b →
      (slice_get round.states i ≡ Some Constrained) ⊎
      IsFrozenAtLast (problem_of rule originals s graph)
      (start (problem_of rule originals s graph)) round.steps i

-- in every allocation it is so of the last code
abbrev pub MovesOfAllocationsStayForACause : Type 0
MovesOfAllocationsStayForACause =
    (rule : Rule) (code : Code) (frame : Frame) (a : Allocation) →
    (h : IsAllocation rule code frame a) →
    HasCauses rule code.temps h.end (last_round a.rounds)
