-- How a nested text is laid on lines. In a nested text parts stand between parentheses, and a comma
-- and a blank between two parts. A part of at most 72 bytes stands on one line, however far that is
-- indented. Of a longer one each part begins a line, a level deeper. A line is indented by two
-- blanks a level, but by at most 64.
use Rattle.std.specs.Prelude.{ℕ, zero, suc, ◌+◌, ◌-◌, ◌==◌, nat_lt, ◌&&◌, ◌||◌, Bool}
use Rattle.std.specs.Prelude.{if◌then◌else◌}
use Rattle.std.specs.Prelude.{List, [], ◌∷◌, ◌++◌}
use Rattle.tg_show.specs.declared.modes.Mode.{Mode}
use Rattle.tg_show.specs.declared.modes.Mode.TheVariants.{Kept, Broken, Between}

-- how many parentheses are open after a byte: 40 opens one, and 41 closes one
abbrev pub deeper : (open' byte : ℕ) → ℕ
deeper n c = if c == 40 then n + 1 else (if c == 41 then n - 1 else n)

-- whether a part has ended in front of a byte that stands within so many of its parentheses: at a
-- parenthesis that closes, or at a comma, which is 44
abbrev pub ends_at : (inner byte : ℕ) → Bool
ends_at inner c = (inner == 0) && ((c == 41) || (c == 44))

abbrev pub kept : (count : ℕ) → Mode
kept n = if n == 0 then Broken else Kept n

-- how the part in front of a text is laid, of which so many bytes were counted
abbrev pub measured : (count inner : ℕ) → List ℕ → Mode
measured n inner [] = kept n
measured n inner (c ∷ rest) =
    if ends_at inner c then kept n else
    (if n == 72 then Broken else measured (n + 1) (deeper inner c) rest)

abbrev pub mode_of : List ℕ → Mode
mode_of text = measured 0 0 text

-- A line ends, and the next is indented, behind each parenthesis that a long part opens, and in the
-- place of the blank behind each of its commas.

abbrev pub blanks : (depth : ℕ) → List ℕ
blanks zero = []
blanks (suc d) = 32 ∷ 32 ∷ blanks d

-- the levels by which a line is indented
abbrev pub capped : (depth : ℕ) → ℕ
capped depth = if nat_lt 32 depth then 32 else depth

abbrev pub new_line : (depth : ℕ) → List ℕ
new_line depth = 10 ∷ blanks (capped depth)

abbrev pub written : (depth : ℕ) → Mode → (byte : ℕ) → List ℕ
written depth (Kept n) c = c ∷ []
written depth Broken c = c ∷ (if c == 40 then new_line (depth + 1) else [])
written depth Between c = new_line depth

abbrev pub next_depth : (depth : ℕ) → Mode → (byte : ℕ) → ℕ
next_depth depth (Kept n) c = depth
next_depth depth Broken c = deeper depth c
next_depth depth Between c = depth

abbrev pub after_broken : (byte : ℕ) → (rest : List ℕ) → Mode
after_broken c rest = if c == 40 then mode_of rest else (if c == 44 then Between else Broken)

abbrev pub next_mode : Mode → (byte : ℕ) → (rest : List ℕ) → Mode
next_mode (Kept n) c rest = kept (n - 1)
next_mode Broken c rest = after_broken c rest
next_mode Between c rest = mode_of rest

abbrev pub laid_from : (depth : ℕ) → Mode → List ℕ → List ℕ
laid_from depth mode [] = []
laid_from depth mode (c ∷ rest) =
    written depth mode c ++ laid_from (next_depth depth mode c) (next_mode mode c rest) rest

-- a nested text on lines of its own, of which the first is indented by so many levels
abbrev pub laid : (margin : ℕ) → List ℕ → List ℕ
laid margin text = blanks (capped margin) ++ (laid_from margin (mode_of text) text ++ 10 ∷ [])
