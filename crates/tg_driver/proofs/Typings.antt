-- Trees of a text are typed under the conditions that the checker asks for, and what it answers is the text's.
use Rattle.std.proofs.Common.{ℕ, ◌≡◌, ◌<◌, List, length, refl, arith}
use Rattle.std.specs.List.Sorted.{IsPermutation}
use Rattle.tg_base.specs.declared.faulty.Faulty.{Faulty}
use Rattle.tg_base.specs.declared.faulty.Faulty.TheVariants.{Bad, Memory}
use Rattle.tg_syntax.specs.Tree.{Exp}
use Rattle.tg_syntax.specs.NamesWithin.{NamesWithin}
use Rattle.tg_syntax.specs.Beginnings.{BeginsApart}
use Rattle.tg_typecheck.specs.declared.faults.TypeRule.{TypeRule}
use Rattle.tg_typecheck.specs.declared.notes.Note.{Note}
use Rattle.tg_typecheck.specs.Accepted.{Finding, finding, accepted, at_fault}
use Rattle.tg_typecheck.specs.Answered.{Accepts, AreRising, IsAt}
use Rattle.tg_typecheck.proofs.NeverStuck.{accepted_never_stuck}
use Rattle.tg_irc_definition.specs.Policies.{Rule as SpillRule}
use Rattle.tg_regalloc.specs.declared.allocations.Allocation.{Allocation}
use Rattle.tg_regalloc_report.specs.Listing.{listed}
use Rattle.tg_literal_bounds.specs.laws.Laws.{StaticsFitSegment}
use Rattle.tg_compile.specs.declared.passes.Passes.{Passes}
use Rattle.tg_compile.specs.Compiling.{LiteralsFit, findings_of, Compiles, HasImage}
use Rattle.tg_driver.specs.laws.Meanings.{SourcesAreNeverStuck}
use Rattle.tg_correctness.specs.Sources.{IsSource, IsSourceOf}
use Rattle.tg_compile_proof.specs.Builds.{CompilesTo, Builds}
use Rattle.tg_compile_proof.proofs.Building as built
use Rattle.tg_driver.specs.AllocMode.{Lists}
use Rattle.tg_stages.specs.Programs.{ShowsCompiled}
use Rattle.tg_driver.specs.ShowMode.{Shows}
use Rattle.tg_bare_compile_proof.specs.Builds.{BuildsDelayed}
use Rattle.tg_driver.specs.LargePrograms.{IsTooLargeAt}
use Rattle.tg_driver.specs.glue.Delays.{CompilesSmall, IsLargeAt}
use Rattle.tg_driver.specs.declared.writing.Wanted.{Wanted}
use Rattle.tg_driver.specs.declared.writing.Wanted.TheVariants.{Assembly, Allocations}
use Rattle.tg_driver.specs.glue.Texts.{wanted_text, writes_of}
use Rattle.tg_driver.specs.glue.Readings.{HasNamedTree, IsTypeFaultOf}
use Rattle.tg_compile.proofs.Chain.{compiled_has_image}

pub names_within : (text : List ℕ) (names : List (List ℕ)) (program : Exp) → HasNamedTree text names program → NamesWithin (length names) program
names_within text names program t = built.names_within text names t.tokens program t.tree

pub begins_apart : (text : List ℕ) (names : List (List ℕ)) (program : Exp) → HasNamedTree text names program → BeginsApart program
begins_apart text names program t = built.begins_apart text names t.tokens program t.tree

-- the notes of a program that is accepted, in the order of the finding
noted : (f : Finding) (sorted : List Note) → Accepts f sorted → (notes : List Note) × ((f ≡ accepted notes) × (IsPermutation notes sorted × AreRising sorted))
noted (accepted notes) sorted h = (notes, (refl, h))
noted (at_fault rule at) sorted h = absurd h

abbrev source_of : (text : List ℕ) (names : List (List ℕ)) (program : Exp) (t : HasNamedTree text names program) (notes : List Note) →
    finding names program ≡ accepted notes → IsSourceOf text names t.tokens program
source_of text names program t notes e = record { tree = t.tree; notes = notes; well_typed = e }

pub typed_fault : (text : List ℕ) (names : List (List ℕ)) (program : Exp) (fault : Faulty TypeRule ℕ) → HasNamedTree text names program →
    IsAt (finding names program) fault → IsTypeFaultOf text fault
typed_fault text names program (Bad rule at) t h = record { names = names; tokens = t.tokens; program = program; tree = t.tree; fault = h }
typed_fault text names program Memory t h = tt

-- the literals of a source's program fit their segment, whatever its notes
pub literals_fit : StaticsFitSegment → (text : List ℕ) (names : List (List ℕ)) (program : Exp) → HasNamedTree text names program →
    (notes : List Note) → LiteralsFit notes program
literals_fit law text names program t notes =
    law (findings_of notes program) names text program (record { tokens = t.tokens; lexed = t.tree.has_tokens.lexed; parsed = t.tree.parsed })
    t.tree.has_tokens.short

-- a program that was compiled, and what the text is compiled to
pub compiles_to : (passes : Passes) (rule : SpillRule) (text : List ℕ) (names : List (List ℕ)) (program : Exp) (sorted : List Note)
    (allocations : List Allocation) (assembly : List ℕ) → HasNamedTree text names program → Accepts (finding names program) sorted →
    Compiles passes rule sorted program allocations assembly → CompilesTo passes rule text allocations assembly
compiles_to passes rule text names program sorted allocations assembly t h compiles =
    let n = noted (finding names program) sorted h in
    record {
      names = names;
      tokens = t.tokens;
      program = program;
      source = source_of text names program t n.0 n.1.0;
      notes = sorted;
      accepted = h;
      compiles = compiles;
    }

-- so that is built, the allocations are listed, and the assembly text is assembled without a fault
pub builds : (passes : Passes) (rule : SpillRule) (text : List ℕ) (allocations : List Allocation) (assembly : List ℕ) →
    CompilesTo passes rule text allocations assembly → Builds passes rule text assembly
builds passes rule text allocations assembly h = record { allocations = allocations; compiles = h }

pub lists : (passes : Passes) (rule : SpillRule) (text : List ℕ) (allocations : List Allocation) (assembly : List ℕ) →
    CompilesTo passes rule text allocations assembly → Lists passes rule text (listed allocations)
lists passes rule text allocations assembly h = record { allocations = allocations; assembly = assembly; compiles = h; listing_is = refl }

-- and what each pass made is shown
pub shows : (passes : Passes) (rule : SpillRule) (text : List ℕ) (names : List (List ℕ)) (program : Exp) (sorted : List Note)
    (shown : List ℕ) → HasNamedTree text names program → Accepts (finding names program) sorted →
    ShowsCompiled passes rule text names sorted program shown → Shows passes rule text shown
unfolding compiles_to
shows passes rule text names program sorted shown t h s =
    record {
      allocations = s.allocations;
      assembly = s.assembly;
      compiles = compiles_to passes rule text names program sorted s.allocations s.assembly t h s.compiles;
      is_shown = s.is_shown;
    }

pub named_source : (text : List ℕ) (names : List (List ℕ)) (program : Exp) (sorted : List Note) (t : HasNamedTree text names program) →
    Accepts (finding names program) sorted → IsSourceOf text names t.tokens program
named_source text names program sorted t h =
    let n = noted (finding names program) sorted h in
    source_of text names program t n.0 n.1.0

-- what a source whose tree is accepted is compiled to with delay slots
pub delays : (passes : Passes) (rule : SpillRule) (text : List ℕ) (names : List (List ℕ)) (program : Exp) (sorted : List Note)
    (delayed : List ℕ) → HasNamedTree text names program → Accepts (finding names program) sorted →
    CompilesSmall passes rule sorted program delayed → BuildsDelayed passes rule text delayed
unfolding compiles_to
delays passes rule text names program sorted delayed t h d =
    record {
      allocations = d.allocations;
      plain = d.compiles.plain;
      compiles = compiles_to passes rule text names program sorted d.allocations d.compiles.plain t h d.compiles.compiles;
      few = d.small;
      text_is = d.compiles.text_is;
    }

-- or that its program is too large
pub is_too_large : (text : List ℕ) (names : List (List ℕ)) (program : Exp) (sorted : List Note) (at : ℕ) →
    HasNamedTree text names program → Accepts (finding names program) sorted → IsLargeAt program at → IsTooLargeAt text at
is_too_large text names program sorted at t h d =
    record {
      names = names;
      tokens = t.tokens;
      program = program;
      source = named_source text names program sorted t h;
      large = d.large;
      at_is = d.at_is;
    }

pub short_text : (text : List ℕ) (names : List (List ℕ)) (program : Exp) → HasNamedTree text names program → length text < 2147483648
short_text text names program t = let short = t.tree.has_tokens.short in omega arith

-- and what is wanted of a source is a text that may be written of it
pub writes_wanted : (w : Wanted) (passes : Passes) (rule : SpillRule) (text : List ℕ) (allocations : List Allocation) (assembly : List ℕ) →
    CompilesTo passes rule text allocations assembly → writes_of w passes rule text (wanted_text w allocations assembly)
writes_wanted Assembly passes rule text allocations assembly h = builds passes rule text allocations assembly h
writes_wanted Allocations passes rule text allocations assembly h = lists passes rule text allocations assembly h

pub has_image : (passes : Passes) (rule : SpillRule) (text : List ℕ) (allocations : List Allocation) (assembly : List ℕ) →
    CompilesTo passes rule text allocations assembly → HasImage assembly
has_image passes rule text allocations assembly h =
    compiled_has_image passes rule h.notes h.program allocations assembly h.compiles

pub is_source : (text : List ℕ) (names : List (List ℕ)) (program : Exp) (sorted : List Note) → HasNamedTree text names program →
    Accepts (finding names program) sorted → IsSource text
is_source text names program sorted t h =
    let n = noted (finding names program) sorted h in
    record { names = names; tokens = t.tokens; program = program; source = source_of text names program t n.0 n.1.0 }

-- so a source's evaluation is never stuck
pub sources_are_never_stuck : SourcesAreNeverStuck
sources_are_never_stuck text names tokens program s input heap stack fuel =
    accepted_never_stuck names program s.notes s.well_typed (begins_apart text names program (record { tokens = tokens; tree = s.tree })) input heap stack fuel
