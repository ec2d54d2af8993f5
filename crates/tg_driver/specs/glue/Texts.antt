-- Which text of a source a mode writes to the output.
use Rattle.std.specs.Prelude.{List, ℕ}
use Rattle.tg_irc_definition.specs.Policies.{Rule as SpillRule}
use Rattle.tg_regalloc.specs.declared.allocations.Allocation.{Allocation}
use Rattle.tg_regalloc_report.specs.Listing.{listed}
use Rattle.tg_driver.specs.declared.writing.Wanted.{Wanted}
use Rattle.tg_driver.specs.declared.writing.Wanted.TheVariants.{Assembly, Allocations}
use Rattle.tg_compile.specs.declared.passes.Passes.{Passes}
use Rattle.tg_compile_proof.specs.Builds.{Builds}
use Rattle.tg_driver.specs.AllocMode.{Lists}
use Rattle.tg_driver.specs.Writing.{TextRelation}

-- which texts those may be
abbrev pub writes_of : Wanted → Passes → SpillRule → TextRelation
writes_of Assembly passes rule = Builds passes rule
writes_of Allocations passes rule = Lists passes rule

-- the text, where the source is compiled to these allocations and this assembly text
abbrev pub wanted_text : Wanted → List Allocation → (assembly : List ℕ) → List ℕ
wanted_text Assembly allocations assembly = assembly
wanted_text Allocations allocations assembly = listed allocations
