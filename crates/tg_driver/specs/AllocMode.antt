-- The mode `alloc`: reads a source, and writes to the output what the register allocator did in
-- each function.
use Rattle.std.specs.Prelude.{◌≡◌, List, ℕ}
use Rattle.tg_irc_definition.specs.Policies.{Rule as SpillRule}
use Rattle.tg_regalloc.specs.declared.allocations.Allocation.{Allocation}
use Rattle.tg_regalloc_report.specs.Listing.{listed}
use Rattle.tg_command.specs.Commands.{Asked}
use Rattle.tg_driver.specs.declared.answers.Answer.{Answer}
use Rattle.tg_driver.specs.Calls.{Shelved, Streams}
use Rattle.tg_compile.specs.declared.passes.Passes.{Passes}
use Rattle.tg_compile_proof.specs.Builds.{CompilesTo}
use Rattle.tg_driver.specs.Writing.{TextRelation, ByWriting}

-- the source is compiled to allocations, with these passes, of which this is the text
pub record Lists (passes : Passes) (rule : SpillRule) (text listing : List ℕ) : Type 0 where
  pub allocations : List Allocation
  pub assembly : List ℕ
  pub compiles : CompilesTo passes rule text allocations assembly
  pub listing_is : listing ≡ listed allocations

abbrev pub ByAlloc :
    {H I O : Type 0} → (listing : TextRelation) → Shelved H → Streams I O → Asked → Answer → Type 0
ByAlloc listing shelf s asked answer = ByWriting shelf s listing asked answer
