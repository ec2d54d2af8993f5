use Rattle.std.proofs.Common.{◌≡◌, ◌+◌, take}
use Rattle.std.specs.Prelude.{count_by, not}
use Rattle.std.specs.List.{suffix_len}
use Rattle.tg_base.specs.Lines.{is_line_end}
use Rattle.tg_base.proofs.lines.place.Given as goal

-- the line and the column of the byte at the index
abbrev pub invariant-loop-byte : goal.invariant-loop-byte
invariant-loop-byte l =
    (l.line ≡ count_by is_line_end (take l.byte-index l.byte-items) + 1)
    × (l.column ≡ suffix_len (λ b. not (is_line_end b)) (take l.byte-index l.byte-items) + 1)
