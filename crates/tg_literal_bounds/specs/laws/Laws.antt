-- Laws of the strings of a text, and of the literals that its program is translated to.
use Rattle.std.specs.Prelude.{ℕ, ◌≡◌, ◌≤◌, ◌+◌, ◌*◌, List, length}
use Rattle.std.specs.List.{sum_by}
use Rattle.tg_machine_state.specs.State.{most_bytes, padded}
use Rattle.tg_syntax.specs.declared.tokens.Spanned.{Spanned}
use Rattle.tg_syntax.specs.Tree.{Exp}
use Rattle.tg_syntax.specs.Lexing.{Lexes}
use Rattle.tg_syntax.specs.Grammar.{IsProgram}
use Rattle.tg_syntax.specs.OfWords.{OfWords}
use Rattle.tg_tree.specs.Tree.{Literal}
use Rattle.tg_translate.specs.mirror.Scopes.{Findings}
use Rattle.tg_translate.specs.mirror.Translate.{translated}
use Rattle.tg_translate_laws.specs.Strings.{strings}
use Rattle.tg_translate_laws.specs.Programs.{with_runtime}
use Rattle.tg_literal_bounds.specs.TokenStrings.{strings_of, spaced_length}

-- the text is tokens, and they are this program
pub record IsTextOf (names : List (List ℕ)) (text : List ℕ) (body : Exp) : Type 0 where
  pub tokens : List Spanned
  pub lexed : Lexes names 0 text tokens
  pub parsed : IsProgram tokens body

-- The ints of a text's tree are below 2^31, and its strings are bytes: for any text, since what
-- stands in a string as it is, is at most 255 as the token relation says.
abbrev pub TreesAreOfWords : Type 0
TreesAreOfWords =
    (names : List (List ℕ)) (text : List ℕ) (body : Exp) → IsTextOf names text body → OfWords body

-- The strings of a program's tree are those of its tokens, in the order of the text.
abbrev pub StringsAreTokens : Type 0
StringsAreTokens =
    (tokens : List Spanned) (body : Exp) → IsProgram tokens body → strings body ≡ strings_of tokens

-- A text has the bytes of all its strings, two quotes for each, and a byte between any two.
abbrev pub StringsFitText : Type 0
StringsFitText =
    (names : List (List ℕ)) (text : List ℕ) (body : Exp) → IsTextOf names text body →
    sum_by spaced_length (strings body) ≤ length text + 1

-- So all strings together have at most the bytes of the text.
abbrev pub StringsAreShort : Type 0
StringsAreShort =
    (names : List (List ℕ)) (text : List ℕ) (body : Exp) → IsTextOf names text body →
    sum_by length (strings body) ≤ length text

-- Of the literals that a program is translated to, whatever is found of it: there is a literal for
-- each string, which takes three bytes of the text at least.
abbrev pub LiteralsAreFew : Type 0
LiteralsAreFew =
    (findings : Findings) (names : List (List ℕ)) (text : List ℕ) (body : Exp) →
    IsTextOf names text body → 3 * length (translated findings body).literals ≤ length text + 1

-- A literal has a word more than its string: all of them together are at most a byte for each, and
-- one more, longer than the text.
abbrev pub LiteralsFitText : Type 0
LiteralsFitText =
    (findings : Findings) (names : List (List ℕ)) (text : List ℕ) (body : Exp) →
    IsTextOf names text body →
    sum_by (λ l. length l.text) (translated findings body).literals ≤
    length text + length (translated findings body).literals + 1

-- the bytes that literals take in the statics, with their padding
abbrev pub statics_length : List Literal → ℕ
statics_length literals = sum_by (λ l. length (padded l.text)) literals

-- In the statics a program, with the runtime, takes at most twice the bytes of its text, and two
-- more.
abbrev pub StaticsFitText : Type 0
StaticsFitText =
    (findings : Findings) (names : List (List ℕ)) (text : List ℕ) (body : Exp) →
    IsTextOf names text body →
    statics_length (with_runtime (translated findings body)).literals ≤ 2 * (length text + 1)

-- So those of a source, which has 262,144 bytes at most, fit their segment.
abbrev pub StaticsFitSegment : Type 0
StaticsFitSegment =
    (findings : Findings) (names : List (List ℕ)) (text : List ℕ) (body : Exp) →
    IsTextOf names text body → length text ≤ 262144 →
    statics_length (with_runtime (translated findings body)).literals ≤ most_bytes
