-- A text with a fault is no source, and so nothing does what it means.
use Rattle.std.proofs.Common.{ℕ, List}
use Rattle.tg_machine_state.specs.declared.ends.RunEnd.{RunEnd}
use Rattle.tg_irc_definition.specs.Policies.{Rule as SpillRule}
use Rattle.tg_regalloc.specs.declared.allocations.Allocation.{Allocation}
use Rattle.tg_driver.specs.declared.faults.Fault.{Fault}
use Rattle.tg_compile.specs.declared.passes.Passes.{Passes}
use Rattle.tg_correctness.specs.Sources.{IsSource}
use Rattle.tg_driver.specs.Faults.{IsFaultOf}
use Rattle.tg_correctness.specs.Assemblies.{IsAsMeant}
use Rattle.tg_compile_proof.specs.Builds.{CompilesTo}
use Rattle.tg_driver.specs.laws.AsMeant.{EndsAsMeant}
use Rattle.tg_driver.specs.Runs.{RunRelation}
use Rattle.tg_driver.specs.AllocMode.{Lists}
use Rattle.tg_driver.specs.ShowMode.{Shows}
use Rattle.tg_driver.proofs.FaultsOnce.{source_excludes}

pub no_fault : (text : List ℕ) (f : Fault) → IsFaultOf text f → IsSource text → ⊥
no_fault text f h s = source_excludes text f.rule h.at s.names s.tokens s.program h.has s.source

-- what does what a text means, and what it is compiled to, are of a source
pub meant_source : (text assembly : List ℕ) → IsAsMeant text assembly → IsSource text
meant_source text assembly m = record { names = m.names; tokens = m.tokens; program = m.program; source = m.source }

compiled_source : (passes : Passes) (rule : SpillRule) (text : List ℕ) (allocations : List Allocation) (assembly : List ℕ) →
    CompilesTo passes rule text allocations assembly → IsSource text
compiled_source passes rule text allocations assembly c = record { names = c.names; tokens = c.tokens; program = c.program; source = c.source }

pub listed_source : (passes : Passes) (rule : SpillRule) (text listing : List ℕ) → Lists passes rule text listing → IsSource text
listed_source passes rule text listing b = compiled_source passes rule text b.allocations b.assembly b.compiles

pub shown_source : (passes : Passes) (rule : SpillRule) (text shown : List ℕ) → Shows passes rule text shown → IsSource text
shown_source passes rule text shown b = compiled_source passes rule text b.allocations b.assembly b.compiles

pub no_fault_of_meant : (runs : RunRelation) (text : List ℕ) (heap stack steps : ℕ) (f : Fault) (end : RunEnd) →
    IsFaultOf text f → EndsAsMeant runs text heap stack steps end → ⊥
no_fault_of_meant runs text heap stack steps f end h e = no_fault text f h (meant_source text e.assembly e.meant)
