-- What is built of a source does what the source means: its program is accepted, and of words.
use Rattle.std.proofs.Common.{ℕ, List, [], length}
use Rattle.tg_syntax.specs.Tree.{Exp}
use Rattle.tg_syntax.specs.declared.tokens.Spanned.{Spanned}
use Rattle.tg_syntax.specs.NamesWithin.{NamesWithin}
use Rattle.tg_syntax.specs.Beginnings.{BeginsApart, beginnings}
use Rattle.tg_syntax_laws.proofs.NamesKnown.{all_named}
use Rattle.tg_syntax_laws.proofs.Standing.{tokens_stand}
use Rattle.tg_syntax_laws.proofs.Orders.{apart}
use Rattle.tg_syntax_laws.proofs.Begun.{in_order}
use Rattle.tg_typecheck.specs.Programs.{CheckedProgram, IsAccepted}
use Rattle.tg_literal_bounds.specs.laws.Laws.{TreesAreOfWords}
use Rattle.tg_irc_definition.specs.Policies.{Rule as SpillRule}
use Rattle.tg_regalloc.specs.declared.allocations.Allocation.{Allocation}
use Rattle.tg_compile.specs.declared.passes.Passes.{Passes}
use Rattle.tg_compile_proof.specs.laws.Laws.{CompileIsCorrect}
use Rattle.tg_correctness.specs.Sources.{HasTree}
use Rattle.tg_compile_proof.specs.Builds.{CompilesTo}
use Rattle.tg_correctness.specs.Assemblies.{IsAsMeant}
use Rattle.tg_compile_proof.specs.laws.TextLaws.{BuildIsCorrect}

-- a text's tree is typed under the conditions that the check asks for
pub names_within : (text : List ℕ) (names : List (List ℕ)) (tokens : List Spanned) (program : Exp) →
    HasTree text names tokens program → NamesWithin (length names) program
names_within text names tokens program t = all_named names text tokens program t.has_tokens.lexed t.parsed

pub begins_apart : (text : List ℕ) (names : List (List ℕ)) (tokens : List Spanned) (program : Exp) →
    HasTree text names tokens program → BeginsApart program
begins_apart text names tokens program t =
    apart (beginnings program []) (in_order tokens program (tokens_stand t.has_tokens.lexed) t.parsed)

-- the program of a text that is compiled, with its notes
abbrev checked : {passes : Passes} {rule : SpillRule} {text : List ℕ} {allocations : List Allocation} {assembly : List ℕ} →
    CompilesTo passes rule text allocations assembly → CheckedProgram
checked c = record { names = c.names; body = c.program; notes = c.notes }

is_accepted : (passes : Passes) (rule : SpillRule) (text : List ℕ) (allocations : List Allocation) (assembly : List ℕ)
    (c : CompilesTo passes rule text allocations assembly) → IsAccepted (checked c)
is_accepted passes rule text allocations assembly c = record {
  within = names_within text c.names c.tokens c.program c.source.tree;
  apart = begins_apart text c.names c.tokens c.program c.source.tree;
  accepted = c.accepted;
}

compiled_as_meant : TreesAreOfWords → CompileIsCorrect →
    (passes : Passes) (rule : SpillRule) (text : List ℕ) (allocations : List Allocation) (assembly : List ℕ) →
    CompilesTo passes rule text allocations assembly → IsAsMeant text assembly
compiled_as_meant words meant passes rule text allocations assembly c =
    let tree = c.source.tree in
    let is = meant passes rule (checked c) allocations assembly (is_accepted passes rule text allocations assembly c)
    c.compiles
    (words c.names text c.program
    (record { tokens = c.tokens; lexed = tree.has_tokens.lexed; parsed = tree.parsed })) in
    record {
      names = c.names;
      tokens = c.tokens;
      program = c.program;
      source = c.source;
      image = is.0;
      assembles = is.1;
      does = is.2;
    }

pub build_is_correct : TreesAreOfWords → CompileIsCorrect → BuildIsCorrect
build_is_correct words meant passes rule text assembly b =
    compiled_as_meant words meant passes rule text b.allocations assembly b.compiles
