-- The bytes of a text that a lexical fault is about, and the lines that tell them.
use Rattle.std.specs.Prelude.{ℕ, ◌+◌, ◌==◌, List, [], ◌∷◌, ◌++◌, length, take, drop, map, min}
use Rattle.std.specs.Prelude.{codes, if◌then◌else◌}
use Rattle.std.specs.List.{prefix_len}
use Rattle.std.specs.Fmt.{decimal}
use Rattle.tg_base.specs.Lines.{place_of}
use Rattle.tg_syntax.specs.declared.faults.LexRule.{LexRule}
use Rattle.tg_syntax.specs.declared.faults.LexRule.TheVariants.{L1, L2, L3, L4, L5, L6, L7}
use Rattle.tg_syntax.specs.Spellings.{is_between, is_digit, is_white_space}
use Rattle.tg_explain.specs.Words.{quoted}
use Rattle.tg_explain.specs.Lines.{line_of, still_open}

-- how many bytes of a bad escape were read behind its backslash before the one that doesn't fit: a
-- caret, one digit or two, or blanks
abbrev pub begun_length : List ℕ → ℕ
begun_length [] = 0
begun_length (b ∷ rest) =
    if b == 94 then 1
    else (if is_digit b then min 2 (prefix_len is_digit (b ∷ rest))
    else prefix_len is_white_space (b ∷ rest))

-- the bad escape with which a text begins: its backslash, what was read, and what doesn't fit
abbrev pub bad_escape : List ℕ → List ℕ
bad_escape text = take (begun_length (drop 1 text) + 2) text

-- the digits with which a text begins
abbrev pub digits : List ℕ → List ℕ
digits text = take (prefix_len is_digit text) text

-- a byte of ASCII that is seen, or a question mark
abbrev pub shown_byte : ℕ → ℕ
shown_byte b = if is_between 32 126 b then b else 63

-- a byte, as itself where it is seen
abbrev pub byte_text : ℕ → List ℕ
byte_text b = if is_between 33 126 b then quoted (b ∷ []) else codes "byte " ++ decimal b

abbrev pub byte_line : List ℕ → List ℕ
byte_line [] = []
byte_line (b ∷ rest) = line_of (codes "found " ++ byte_text b)

-- the lines of a lexical fault at a byte of a text
abbrev pub lexical_lines : (text : List ℕ) → LexRule → (at : ℕ) → List ℕ
lexical_lines text L1 at = byte_line (drop at text)
lexical_lines text L2 at = line_of (still_open (codes "/*") (place_of text at))
lexical_lines text L3 at = line_of (still_open (34 ∷ []) (place_of text at))
lexical_lines text L4 at =
    line_of (codes "found " ++ quoted (map shown_byte (bad_escape (drop at text))))
lexical_lines text L5 at =
    line_of (codes "found " ++ digits (drop at text))
    ++ line_of (codes "expected at most 2147483647")
lexical_lines text L6 at = byte_line (drop at text)
lexical_lines text L7 at = line_of (codes "expected at most 262144 bytes")
