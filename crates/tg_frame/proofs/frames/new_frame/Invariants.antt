use Rattle.std.proofs.Common.{take}
use Rattle.tg_frame.proofs.Making.{Made}
use Rattle.tg_frame.proofs.frames.new_frame.Given as goal

abbrev pub invariant-loop-escapes : goal.invariant-loop-escapes
invariant-loop-escapes l = Made (take l.escapes-index l.escaping) l.params.items l.slots l.temps
