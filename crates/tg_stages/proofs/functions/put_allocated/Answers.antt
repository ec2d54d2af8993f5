use Rattle.tg_emit.specs.mirror.Lines.{function_lines}
use Rattle.tg_show.specs.Stages.{registers_stage, assembly_stage}
use Rattle.tg_stages.proofs.Joined.{two_told}
use Rattle.tg_stages.proofs.functions.put_allocated.Goals as goal

pub returns : goal.returns
returns c =
    two_told c.args.text.now.items _ _ (registers_stage c.args.names.now c.args.allocation.now)
    (assembly_stage (function_lines c.args.long c.args.allocation.now.done)) c.in_ok-put_registers.ensures
    (rw c.in_ok-lines.ensures.lines at rw c.deref.ensures.value at c.in_ok-put_assembly.ensures)
