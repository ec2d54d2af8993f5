use Rattle.std.proofs.Common.{◌≡◌, map, take}
use Rattle.tg_instr.specs.Uses.{defs_of}
use Rattle.tg_live.specs.glue.Definitions.{operands_in}
use Rattle.tg_live.proofs.definitions.definitions.Given as goal

abbrev pub invariant-loop-one : goal.invariant-loop-one
invariant-loop-one l = map operands_in l.defined.items ≡ map defs_of (take l.one-index l.list)
