-- What the functions of a checked program are compiled to is small: they are allocations of their trees.
use Rattle.std.proofs.Common.{subst}
use Rattle.std.specs.Prelude.{map}
use Rattle.std.specs.List.{zip}
use Rattle.std.specs.FinSet.{from_list}
use Rattle.tg_typecheck.specs.Programs.{CheckedProgram, IsAccepted}
use Rattle.tg_escape.specs.Links.{links_of}
use Rattle.tg_code_bounds.specs.laws.Laws.{AreAllocationsOf, ProgramCodeFits, ProgramFramesAreSmall}
use Rattle.tg_compile.specs.Compiling.{fragments_of}
use Rattle.tg_compile.specs.declared.passes.Passes.{Passes}
use Rattle.tg_compile.specs.Prepared.{prepared}
use Rattle.tg_compile.specs.glue.Passes.{AreSmall, CodeIsSmall, allocation_of}
use Rattle.tg_compile.specs.laws.Prepared.{PreparedIsReduced}
use Rattle.tg_compile.proofs.Chain.{together}

pub code_is_small : ProgramCodeFits → ProgramFramesAreSmall → PreparedIsReduced → (passes : Passes) (p : CheckedProgram) → IsAccepted p →
    CodeIsSmall (prepared passes (fragments_of p.notes p.body)).functions
code_is_small fits small reduced passes p accepted rule codes ps apart =
    let body = p.body in
    let links = from_list (links_of body) in
    let functions = (prepared passes (fragments_of p.notes body)).functions in
    let both = together rule functions codes ps apart in
    let allocations = map allocation_of (zip codes ps) in
    let are : AreAllocationsOf rule p links allocations =
    record { functions = functions; reduced = reduced passes (fragments_of p.notes body); allocated = both.0 } in
    let code = fits rule p links allocations accepted are in
    subst AreSmall both.1 (record { frames = small rule p links allocations accepted are; functions = code.functions; assembly = code.assembly })
