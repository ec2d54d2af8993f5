-- What a program is compiled to, pass after pass (Appel, chapters 6 to 12).
use Rattle.std.specs.Prelude.{◌≡◌, ◌≤◌, ℕ, List, length, map, Ok}
use Rattle.std.specs.List.{AllZip, sum_by}
use Rattle.std.specs.FinSet.{from_list}
use Rattle.tg_machine_state.specs.State.{most_bytes, padded}
use Rattle.tg_syntax.specs.Tree.{Exp}
use Rattle.tg_typecheck.specs.declared.notes.Note.{Note}
use Rattle.tg_escape.specs.Escaping.{escapes_of}
use Rattle.tg_escape.specs.Links.{links_of}
use Rattle.tg_tree.specs.declared.fragments.Literal.{Literal}
use Rattle.tg_tree.specs.Tree.{Ts, Function, Code}
use Rattle.tg_tree.specs.glue.Plain.{plain_literal}
use Rattle.tg_translate.specs.mirror.Scopes.{Findings, found}
use Rattle.tg_translate.specs.mirror.Translate.{translated}
use Rattle.tg_translate_laws.specs.Programs.{with_runtime}
use Rattle.tg_asm_text.specs.Assembly.{Assembled, assembled}
use Rattle.tg_irc_definition.specs.Policies.{Rule}
use Rattle.tg_regalloc.specs.declared.allocations.Allocation.{Allocation}
use Rattle.tg_regalloc.specs.Allocations.{codes_of}
use Rattle.tg_code_bounds.specs.Allocating.{IsAllocationOf}
use Rattle.tg_emit.specs.mirror.Lines.{assembly_of}
use Rattle.tg_emit.specs.mirror.Text.{text_of}
use Rattle.tg_emit_laws.specs.Programs.{IsWholeProgram, AreTyped}
use Rattle.tg_compile.specs.declared.passes.Passes.{Passes}
use Rattle.tg_compile.specs.Prepared.{prepared}

-- what is found of a program whose notes are these, before it is translated
abbrev pub findings_of : List Note → Exp → Findings
findings_of notes program =
    found notes (from_list (escapes_of program)) (from_list (links_of program))

-- the functions and literals that a program is translated to, with the runtime's
abbrev pub fragments_of : List Note → Exp → Code Ts
fragments_of notes program = with_runtime (translated (findings_of notes program) program)

-- the literals of a program, with the runtime's, fit the segment of the statics
abbrev pub LiteralsFit : List Note → Exp → Type 0
LiteralsFit notes program =
    sum_by (λ l. length (padded l.text)) (fragments_of notes program).literals ≤ most_bytes

-- each function has its allocation by a policy's rule, in their order
abbrev pub CompileFunctions : Rule → List (Function Ts) → List Allocation → Type 0
CompileFunctions rule functions allocations = AllZip (IsAllocationOf rule) functions allocations

-- a text that is assembled without a fault
pub record HasImage (text : List ℕ) : Type 0 where
  pub image : Assembled
  pub assembles : assembled text ≡ Ok image

-- A program, with the passes that are switched on, by a policy's rule and its notes, is compiled to
-- an allocation for each function: its body's first, then those of its functions in the order of
-- the source, then the runtime's. The text is the assembly of them and of the literals, which are a
-- program whose labels and numbers have their types; so it has an image.
pub record Compiles (passes : Passes) (rule : Rule) (notes : List Note) (body : Exp)
    (allocations : List Allocation) (text : List ℕ) : Type 0 where
  pub literals : List Literal
  pub functions_are :
      CompileFunctions rule (prepared passes (fragments_of notes body)).functions allocations
  pub literals_are :
      map plain_literal literals ≡ (prepared passes (fragments_of notes body)).literals
  pub text_is : text ≡ text_of (assembly_of (codes_of allocations) literals)
  pub program : IsWholeProgram (codes_of allocations) literals
  pub typed : AreTyped (codes_of allocations) literals
