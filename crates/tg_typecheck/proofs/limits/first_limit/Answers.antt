use Rattle.std.proofs.Common.{[], ◌∙◌, arith}
use Rattle.tg_syntax.specs.glue.Plain.{plain}
use Rattle.tg_syntax.specs.Measures.{size}
use Rattle.tg_typecheck.specs.declared.faults.TypeRule.TheVariants.{T21, T22}
use Rattle.tg_syntax.specs.Functions.{declared, program_size}
use Rattle.tg_typecheck.specs.Limits.{above, first_above}
use Rattle.tg_typecheck.proofs.LimitFaults.{over, within, capped_over, capped_within, fault_parts}
use Rattle.tg_typecheck.proofs.limits.first_limit.Goals as goal

pub returns-then-program_nodes-gt32768 : goal.returns-then-program_nodes-gt32768
returns-then-program_nodes-gt32768 c =
    let e = c.args.program.now.body in
    over T22 e.span.from (program_size (plain e)) 32768 (above T21 e.span.from (size (plain e)) 4096 (first_above (declared 0 [] (plain e))))
    (capped_over _ _ _ c.program_nodes.ensures c.if-program_nodes-gt32768.true) ∙ fault_parts e

pub returns-then-nodes-gt4096 : goal.returns-then-nodes-gt4096
returns-then-nodes-gt4096 c =
    let e = c.args.program.now.body in
    over T21 e.span.from (size (plain e)) 4096 (first_above (declared 0 [] (plain e))) (capped_over _ _ _ c.nodes.ensures c.if-nodes-gt4096.true)
    ∙ (within T22 e.span.from (program_size (plain e)) 32768 (above T21 e.span.from (size (plain e)) 4096 (first_above (declared 0 [] (plain e))))
    (capped_within _ _ _ c.program_nodes.ensures c.if-program_nodes-gt32768.false (omega arith)) ∙ fault_parts e)

pub returns : goal.returns
returns c =
    let e = c.args.program.now.body in
    c.first_above.ensures ∙ (within T21 e.span.from (size (plain e)) 4096 (first_above (declared 0 [] (plain e)))
    (capped_within _ _ _ c.nodes.ensures c.if-nodes-gt4096.false (omega arith))
    ∙ (within T22 e.span.from (program_size (plain e)) 32768 (above T21 e.span.from (size (plain e)) 4096 (first_above (declared 0 [] (plain e))))
    (capped_within _ _ _ c.program_nodes.ensures c.if-program_nodes-gt32768.false (omega arith)) ∙ fault_parts e))
