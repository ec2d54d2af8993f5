-- What a program is compiled to with delay slots, by the count of its nodes.
use Rattle.std.proofs.Common.{ℕ, ◌≡◌, ◌≤◌, ◌<◌, List, sym, ap, arith}
use Rattle.tg_syntax.specs.Functions.{program_size}
use Rattle.tg_syntax.specs.declared.trees.Exp.{Exp as CodeExp}
use Rattle.tg_syntax.specs.glue.Plain.{plain}
use Rattle.tg_syntax.specs.Measures.{saturated}
use Rattle.tg_typecheck.specs.declared.notes.Note.{Note}
use Rattle.tg_typecheck.proofs.LimitFaults.{capped_over, capped_within, span_is}
use Rattle.tg_irc_definition.specs.Policies.{Rule as SpillRule}
use Rattle.tg_regalloc.specs.declared.allocations.Allocation.{Allocation}
use Rattle.tg_compile.specs.declared.passes.Passes.{Passes}
use Rattle.tg_compile.specs.Slots.{CompilesDelayed}
use Rattle.tg_driver.specs.glue.Delays.{CompilesSmall, IsLargeAt}

-- a program that isn't too large, and one that is, by the count of its nodes
pub compiles_small : (passes : Passes) (rule : SpillRule) (notes : List Note) (e : CodeExp) (nodes : ℕ) (allocations : List Allocation)
    (text : List ℕ) → nodes ≡ saturated (program_size (plain e)) → nodes ≤ 16384 →
    CompilesDelayed passes rule notes (plain e) allocations text → CompilesSmall passes rule notes (plain e) text
compiles_small passes rule notes e nodes allocations text is few compiles =
    record { small = capped_within _ 16384 nodes is few (omega arith); allocations = allocations; compiles = compiles }

pub large_at : (e : CodeExp) (nodes : ℕ) → nodes ≡ saturated (program_size (plain e)) → 16384 < nodes → IsLargeAt (plain e) e.span.from
large_at e nodes is large =
    record { large = capped_over _ 16384 nodes is large; at_is = sym (ap (λ s. s.from) (span_is e)) }
