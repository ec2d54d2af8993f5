-- What a source is built to.
use Rattle.std.specs.Prelude.{ℕ, List}
use Rattle.tg_syntax.specs.declared.tokens.Spanned.{Spanned}
use Rattle.tg_syntax.specs.Tree.{Exp}
use Rattle.tg_typecheck.specs.declared.notes.Note.{Note}
use Rattle.tg_typecheck.specs.Accepted.{finding}
use Rattle.tg_typecheck.specs.Answered.{Accepts}
use Rattle.tg_irc_definition.specs.Policies.{Rule as SpillRule}
use Rattle.tg_regalloc.specs.declared.allocations.Allocation.{Allocation}
use Rattle.tg_compile.specs.declared.passes.Passes.{Passes}
use Rattle.tg_compile.specs.Compiling.{Compiles}
use Rattle.tg_correctness.specs.Sources.{IsSourceOf}

-- The text is a source, and this is what it is compiled to, with the passes that are switched on, by
-- the notes of its typing, in the order of the text, and the rule of a policy: allocations of its
-- functions, and an assembly text.
pub record CompilesTo (passes : Passes) (rule : SpillRule) (text : List ℕ)
    (allocations : List Allocation) (assembly : List ℕ) : Type 0 where
  pub names : List (List ℕ)
  pub tokens : List Spanned
  pub program : Exp
  pub source : IsSourceOf text names tokens program
  pub notes : List Note
  pub accepted : Accepts (finding names program) notes
  pub compiles : Compiles passes rule notes program allocations assembly

-- the text is a source, and this is an assembly text that it is compiled to
pub record Builds (passes : Passes) (rule : SpillRule) (text assembly : List ℕ) : Type 0 where
  pub allocations : List Allocation
  pub compiles : CompilesTo passes rule text allocations assembly
