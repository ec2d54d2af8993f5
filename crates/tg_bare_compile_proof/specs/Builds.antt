-- What a source is built to for the machine with delayed branches.
use Rattle.std.specs.Prelude.{ℕ, ◌≡◌, ◌≤◌, List}
use Rattle.tg_syntax.specs.Tree.{Exp}
use Rattle.tg_syntax.specs.Functions.{program_size}
use Rattle.tg_tree.specs.declared.fragments.Literal.{Literal}
use Rattle.tg_irc_definition.specs.Policies.{Rule as SpillRule}
use Rattle.tg_regalloc.specs.declared.allocations.Allocation.{Allocation}
use Rattle.tg_regalloc.specs.Allocations.{codes_of}
use Rattle.tg_emit.specs.mirror.Lines.{assembly_of}
use Rattle.tg_emit.specs.mirror.Text.{text_of}
use Rattle.tg_delay.specs.Filling.{delayed}
use Rattle.tg_compile.specs.declared.passes.Passes.{Passes}
use Rattle.tg_compile_proof.specs.Builds.{CompilesTo}

-- the text of the assembly of allocations and literals, with its delay slots
abbrev pub delayed_text : List Allocation → List Literal → List ℕ
delayed_text allocations literals = text_of (delayed (assembly_of (codes_of allocations) literals))

-- programs whose code fits its segment with delay slots too
abbrev pub most_nodes : ℕ
most_nodes = 16384

abbrev pub MayBeDelayed : Exp → Type 0
MayBeDelayed program = program_size program ≤ most_nodes

-- The text is a source whose program isn't too large, and this is the assembly text that it is
-- compiled to, with its delay slots.
pub record BuildsDelayed (passes : Passes) (rule : SpillRule)
    (text assembly : List ℕ) : Type 0 where
  pub allocations : List Allocation
  pub plain : List ℕ
  pub compiles : CompilesTo passes rule text allocations plain
  pub few : MayBeDelayed compiles.program
  pub text_is : assembly ≡ delayed_text allocations compiles.compiles.literals
