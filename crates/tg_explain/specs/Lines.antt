-- The lines that explain a fault: each is `tiger:   ` and a text, which is cut behind a whole word
-- where it has more than 400 bytes.
use Rattle.std.specs.Prelude.{ℕ, ◌==◌, List, [], ◌∷◌, ◌++◌, length, take, codes, nat_le}
use Rattle.std.specs.Prelude.{if◌then◌else◌, Option, Some, None}
use Rattle.std.specs.List.{before_last}
use Rattle.std.specs.Fmt.{decimal}
use Rattle.tg_base.specs.declared.places.Place.{Place}
use Rattle.tg_base.specs.Lines.{place_of}
use Rattle.tg_parser.specs.declared.faults.SyntaxRule.{SyntaxRule}
use Rattle.tg_parser.specs.declared.faults.SyntaxRule.TheVariants.{S1, S2}
use Rattle.tg_explain.specs.declared.kinds.TokenKind.{TokenKind}
use Rattle.tg_explain.specs.declared.openers.Opening.{Opening}
use Rattle.tg_explain.specs.declared.details.SyntaxDetail.{SyntaxDetail}
use Rattle.tg_explain.specs.Words.{quoted, kind_text, opener_text}

-- the words that end within 400 bytes
abbrev pub whole_words : List ℕ → List ℕ
whole_words text = before_last (λ b. b == 32) (take 401 text)

abbrev pub cut : List ℕ → List ℕ
cut text = if nat_le (length text) 400 then text else whole_words text ++ codes " .."

abbrev pub line_of : List ℕ → List ℕ
line_of text = codes "tiger:   " ++ cut text ++ codes "\n"

abbrev pub place_text : Place → List ℕ
place_text p = decimal p.line ++ codes ":" ++ decimal p.column

-- what stands open, and where
abbrev pub still_open : (opener : List ℕ) → Place → List ℕ
still_open opener place =
    quoted opener ++ codes " of " ++ place_text place ++ codes " is still open"

abbrev pub found_text : TokenKind → List ℕ
found_text kind = codes "found " ++ kind_text kind

-- each behind a blank
abbrev pub kind_texts : List TokenKind → List ℕ
kind_texts [] = []
kind_texts (kind ∷ kinds) = codes " " ++ kind_text kind ++ kind_texts kinds

abbrev pub expected_words : (count : ℕ) → List ℕ
expected_words count = if count == 1 then codes "expected" else codes "expected one of"

abbrev pub expected_text : List TokenKind → List ℕ
expected_text kinds = expected_words (length kinds) ++ kind_texts kinds

-- the line of what is still open of a text, if any is
abbrev pub open_line : (text : List ℕ) → Option Opening → List ℕ
open_line text None = []
open_line text (Some o) = line_of (still_open (opener_text o.opener) (place_of text o.span.from))

-- where the nesting is too deep, the token itself isn't at fault, so nothing else is expected
abbrev pub expected_line : SyntaxRule → List TokenKind → List ℕ
expected_line S1 kinds = line_of (expected_text kinds)
expected_line S2 kinds = []

-- the lines of a fault of syntax in a text
abbrev pub syntax_lines : (text : List ℕ) → SyntaxRule → SyntaxDetail → List ℕ
syntax_lines text rule d =
    line_of (found_text d.found) ++ expected_line rule d.expected ++ open_line text d.opening
