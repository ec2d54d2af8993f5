use Rattle.std.proofs.Common.{◌≡◌, ◌≤◌, ◌*◌, ◌++◌, take, drop}
use Rattle.tg_formatter.specs.Canonical.{quoted_text}
use Rattle.tg_formatter.proofs.escapes.write_stretch.Given as goal

-- what is written, and the text of the bytes that are left
abbrev pub invariant-loop-byte : goal.invariant-loop-byte
invariant-loop-byte l = record {
  text : take l.count l.written ++ quoted_text (drop l.byte-index l.stretch) ≡ quoted_text l.stretch;
  most : l.count ≤ 4 * l.byte-index;
}
