use Rattle.std.proofs.Common.{◌≡◌, ◌++◌, vec_len}
use Rattle.std.specs.Prelude.{reverse}
use Rattle.tg_tree.specs.glue.Lists.{stms_of, code_of}
use Rattle.tg_trace_schedule.specs.mirror.Laying.{body_code}
use Rattle.tg_trace_schedule.proofs.emission.put_body.Given as goal

abbrev pub invariant-loop-statement : goal.invariant-loop-statement
invariant-loop-statement l =
    code_of l.code.items ++ body_code (stms_of (reverse l.rest.items)) ≡ code_of l.fn.code.items ++ body_code (stms_of l.fn.body.items.items)

abbrev pub decreases-loop-statement : goal.decreases-loop-statement
decreases-loop-statement l = vec_len l.rest
