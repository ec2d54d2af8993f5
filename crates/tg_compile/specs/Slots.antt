-- What a program is compiled to for the machine with delayed branches.
use Rattle.std.specs.Prelude.{ℕ, ◌≡◌, List}
use Rattle.tg_syntax.specs.Tree.{Exp}
use Rattle.tg_typecheck.specs.declared.notes.Note.{Note}
use Rattle.tg_tree.specs.declared.fragments.Literal.{Literal}
use Rattle.tg_irc_definition.specs.Policies.{Rule}
use Rattle.tg_regalloc.specs.declared.allocations.Allocation.{Allocation}
use Rattle.tg_regalloc.specs.Allocations.{codes_of}
use Rattle.tg_emit.specs.mirror.Lines.{assembly_of}
use Rattle.tg_emit.specs.mirror.Text.{text_of}
use Rattle.tg_delay.specs.Filling.{delayed}
use Rattle.tg_compile.specs.declared.passes.Passes.{Passes}
use Rattle.tg_compile.specs.Compiling.{Compiles}

-- the text of the assembly of allocations and literals, with its delay slots
abbrev pub delayed_text : List Allocation → List Literal → List ℕ
delayed_text allocations literals = text_of (delayed (assembly_of (codes_of allocations) literals))

-- The program is compiled to these allocations as it is without slots, and the text is that of the
-- same assembly with its delay slots.
pub record CompilesDelayed (passes : Passes) (rule : Rule) (notes : List Note) (body : Exp)
    (allocations : List Allocation) (text : List ℕ) : Type 0 where
  pub plain : List ℕ
  pub compiles : Compiles passes rule notes body allocations plain
  pub text_is : text ≡ delayed_text allocations compiles.literals
