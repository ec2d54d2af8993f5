use Rattle.std.proofs.Common.{take, ◌≡◌, ◌++◌}
use Rattle.tg_emit.specs.mirror.Text.{further_numbers}
use Rattle.tg_emit.proofs.writing.put_further.Given as goal

abbrev pub invariant-loop-byte : goal.invariant-loop-byte
invariant-loop-byte l = l.text.items ≡ l.initial.text.items ++ further_numbers (take l.byte-index l.bytes)
