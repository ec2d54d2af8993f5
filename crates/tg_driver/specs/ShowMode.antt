-- The mode `show`: reads a source, and writes to the output what each pass made of each function.
use Rattle.std.specs.Prelude.{List, ℕ}
use Rattle.tg_irc_definition.specs.Policies.{Rule as SpillRule}
use Rattle.tg_regalloc.specs.declared.allocations.Allocation.{Allocation}
use Rattle.tg_command.specs.Commands.{Asked}
use Rattle.tg_driver.specs.declared.answers.Answer.{Answer}
use Rattle.tg_driver.specs.Calls.{Shelved, Streams}
use Rattle.tg_compile.specs.declared.passes.Passes.{Passes}
use Rattle.tg_compile_proof.specs.Builds.{CompilesTo}
use Rattle.tg_stages.specs.Programs.{IsShown}
use Rattle.tg_driver.specs.Writing.{TextRelation, ByWriting}

-- the source is compiled to allocations, with these passes, and this is the text of what each pass
-- made on the way
pub record Shows (passes : Passes) (rule : SpillRule) (text shown : List ℕ) : Type 0 where
  pub allocations : List Allocation
  pub assembly : List ℕ
  pub compiles : CompilesTo passes rule text allocations assembly
  pub is_shown :
      IsShown passes text compiles.names compiles.notes compiles.program allocations shown

abbrev pub ByShow :
    {H I O : Type 0} → (shown : TextRelation) → Shelved H → Streams I O → Asked → Answer → Type 0
ByShow shown shelf s asked answer = ByWriting shelf s shown asked answer
