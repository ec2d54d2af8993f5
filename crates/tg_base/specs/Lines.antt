-- Places of a text, by line and column.
use Rattle.std.specs.Prelude.{ℕ, ◌+◌, ◌==◌, Bool, not, List, take, count_by}
use Rattle.std.specs.List.{suffix_len}
use Rattle.tg_base.specs.declared.places.Place.{Place}

abbrev pub is_line_end : ℕ → Bool
is_line_end b = b == 10

-- Both count from 1: the line by the line ends before the byte, and the column by the bytes since
-- the last of them.
abbrev pub place_of : List ℕ → ℕ → Place
place_of text at = record {
  line = count_by is_line_end (take at text) + 1;
  column = suffix_len (λ b. not (is_line_end b)) (take at text) + 1;
}
