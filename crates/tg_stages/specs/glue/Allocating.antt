-- What private functions know of allocations: they are by the rule of some policy.
use Rattle.std.specs.Prelude.{ℕ, List}
use Rattle.tg_tree.specs.Tree.{Ts, Function}
use Rattle.tg_irc_definition.specs.declared.rounds.Round.{Round}
use Rattle.tg_irc_definition.specs.Policies.{Rule}
use Rattle.tg_regalloc.specs.Rounds.{BetweenRounds, AreRounds}
use Rattle.tg_regalloc.specs.declared.allocations.Allocation.{Allocation}
use Rattle.tg_code_bounds.specs.Allocating.{IsAllocationOf}
use Rattle.tg_compile.specs.Compiling.{CompileFunctions}

-- the rounds from a code on, with so many temporaries in the code that was handed in
pub record HasRounds (originals : ℕ) (s : BetweenRounds) (rounds : List Round) : Type 0 where
  pub rule : Rule
  pub end : BetweenRounds
  pub are_rounds : AreRounds rule originals s rounds end

-- the allocation of a function
pub record HasAllocation (f : Function Ts) (a : Allocation) : Type 0 where
  pub rule : Rule
  pub is_allocation : IsAllocationOf rule f a

-- those of functions, in their order
pub record HaveAllocations (functions : List (Function Ts)) (all : List Allocation) : Type 0 where
  pub rule : Rule
  pub are_allocations : CompileFunctions rule functions all
