-- What a source is compiled to for the machine with delayed branches.
use Rattle.std.specs.Prelude.{ℕ, ◌≡◌, ◌<◌, List}
use Rattle.tg_syntax.specs.Functions.{program_size}
use Rattle.tg_syntax.specs.Spans.{span_of}
use Rattle.tg_syntax.specs.Tree.{Exp}
use Rattle.tg_typecheck.specs.declared.notes.Note.{Note}
use Rattle.tg_irc_definition.specs.Policies.{Rule as SpillRule}
use Rattle.tg_regalloc.specs.declared.allocations.Allocation.{Allocation}
use Rattle.tg_compile.specs.declared.passes.Passes.{Passes}
use Rattle.tg_compile.specs.Slots.{CompilesDelayed}
use Rattle.tg_bare_compile_proof.specs.Builds.{BuildsDelayed}
use Rattle.tg_driver.specs.declared.delaying.Delayed.{Delayed}
use Rattle.tg_driver.specs.declared.delaying.Delayed.TheVariants.{Text, TooLarge}
use Rattle.tg_driver.specs.LargePrograms.{most_nodes, IsSmall, IsTooLargeAt}

-- the program isn't too large, and this is the text that it is compiled to, with its delay slots
pub record CompilesSmall (passes : Passes) (rule : SpillRule) (notes : List Note) (body : Exp)
    (text : List ℕ) : Type 0 where
  pub small : IsSmall body
  pub allocations : List Allocation
  pub compiles : CompilesDelayed passes rule notes body allocations text

-- the program, which begins at this byte, is too large
pub record IsLargeAt (body : Exp) (at : ℕ) : Type 0 where
  pub large : most_nodes < program_size body
  pub at_is : at ≡ (span_of body).from

-- what a source is compiled to, or that its program is too large
abbrev pub IsDelayedOf : Passes → SpillRule → (text : List ℕ) → Delayed → Type 0
IsDelayedOf passes rule text (Text delayed) = BuildsDelayed passes rule text delayed.items
IsDelayedOf passes rule text (TooLarge at) = IsTooLargeAt text at
