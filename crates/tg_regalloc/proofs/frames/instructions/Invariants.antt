use Rattle.std.proofs.Common.{take, ◌≡◌}
use Rattle.tg_regalloc.specs.mirror.InFrame.{code_in_frame}
use Rattle.tg_regalloc.proofs.frames.instructions.Given as goal

abbrev pub invariant-loop-one : goal.invariant-loop-one
invariant-loop-one l = l.list.items ≡ code_in_frame l.base (take l.one-index l.code)
