-- Names that are spelled alike: one or two bytes are put in, left out or replaced between them.
use Rattle.std.specs.Prelude.{ℕ, ◌||◌, List, Bool, drop, ◌==◌}
use Rattle.std.specs.List.{common_prefix_len}
use Rattle.std.specs.Str.{bytes_eq}

-- behind what they begin with alike, a byte is left out, put in or replaced, and the rest is what a
-- test allows
abbrev pub edited : (test : List ℕ → List ℕ → Bool) → (one other : List ℕ) → Bool
edited test one other =
    let n = common_prefix_len (λ a b. a == b) one other in
    let rest = drop n one in
    let to = drop n other in
    test (drop 1 rest) to || test rest (drop 1 to) || test (drop 1 rest) (drop 1 to)

abbrev pub is_one_edit : (one other : List ℕ) → Bool
is_one_edit one other = edited bytes_eq one other

abbrev pub is_two_edits : (one other : List ℕ) → Bool
is_two_edits one other = edited is_one_edit one other
