use Rattle.std.proofs.Common.{◌≡◌, ◌<◌, ◌+◌, ℕ, length, get_or, take}
use Rattle.std.specs.Prelude.{count_by, not}
use Rattle.std.specs.List.{suffix_len}
use Rattle.tg_base.specs.declared.places.Place.{Place}
use Rattle.tg_base.specs.Lines.{is_line_end, place_of}
use Rattle.tg_variables.proofs.placing.places_of.Given as goal

-- the places before the index are told, and the line and the column are those of the index
abbrev pub invariant-loop-byte : goal.invariant-loop-byte
invariant-loop-byte l = record {
  count : length l.places.items ≡ l.byte-index;
  each : (at : ℕ) (d : Place) → at < l.byte-index → get_or l.places.items at d ≡ place_of l.text at;
  line : l.line ≡ count_by is_line_end (take l.byte-index l.text) + 1;
  column : l.column ≡ suffix_len (λ b. not (is_line_end b)) (take l.byte-index l.text) + 1;
}
