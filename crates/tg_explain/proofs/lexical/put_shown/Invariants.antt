use Rattle.std.proofs.Common.{◌≡◌, ◌++◌, map, take}
use Rattle.tg_explain.specs.Lexical.{shown_byte}
use Rattle.tg_explain.proofs.lexical.put_shown.Given as goal

abbrev pub invariant-loop-byte : goal.invariant-loop-byte
invariant-loop-byte l = l.line.items ≡ l.initial.line.items ++ map shown_byte (take l.byte-index l.bytes)
