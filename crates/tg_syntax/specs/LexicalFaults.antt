-- The first lexical fault of a text, met in reading from its front, and its place.
use Rattle.std.specs.Prelude.{ℕ, ◌+◌, ◌≡◌, ◌≢◌, ◌<◌, ◌≤◌, List, [], ◌∷◌, ◌++◌, length, Bool, ◌||◌}
use Rattle.std.specs.Prelude.{◌==◌, nat_le, not, IsTrue}
use Rattle.std.specs.Str.Parse.{IsNumeral, digits_value}
use Rattle.tg_syntax.specs.declared.faults.LexRule.{LexRule}
use Rattle.tg_syntax.specs.declared.faults.LexRule.TheVariants.{L1, L2, L3, L4, L5, L6, L7}
use Rattle.tg_syntax.specs.declared.tokens.Token.{Token}
use Rattle.tg_syntax.specs.Spellings.{Spells, HasTokenForm, IsQuoted, Escape, AllAre}
use Rattle.tg_syntax.specs.Spellings.{is_white_space, is_digit}
use Rattle.tg_syntax.specs.Lexing.{OpensComment, Closes, IsLongest}

-- from a byte on, the text is tokens, blanks and comments up to another byte, where this rest of it
-- begins
pub data LeadsTo : ℕ → List ℕ → ℕ → List ℕ → Type 0 where
  here : {at : ℕ} {text : List ℕ} → LeadsTo at text at text
  blank :
      {at to : ℕ} (b : ℕ) {text rest : List ℕ} →
      IsTrue (is_white_space b) → LeadsTo (at + 1) text to rest →
      LeadsTo at (b ∷ text) to rest
  comment :
      {at to : ℕ} (inside : List ℕ) {text rest : List ℕ} →
      Closes 1 inside → LeadsTo (at + 2 + length inside) text to rest →
      LeadsTo at (47 ∷ 42 ∷ inside ++ text) to rest
  token :
      {at to : ℕ} (names : List (List ℕ)) (bytes : List ℕ) (one : Token) {text rest : List ℕ} →
      Spells names bytes one → IsLongest bytes text → (OpensComment (bytes ++ text) → ⊥) →
      LeadsTo (at + length bytes) text to rest →
      LeadsTo at (bytes ++ text) to rest

-- an escape of which, after its backslash, only this was read
pub data IsBegun : List ℕ → Type 0 where
  backslash : IsBegun []
  caret : IsBegun (94 ∷ [])
  digit : (a : ℕ) → IsTrue (is_digit a) → IsBegun (a ∷ [])
  digits : (a b : ℕ) → IsTrue (is_digit a) → IsTrue (is_digit b) → IsBegun (a ∷ b ∷ [])
  blanks : (b : ℕ) (more : List ℕ) → AllAre is_white_space (b ∷ more) → IsBegun (b ∷ more)

-- a byte with which an escape that was begun neither goes on nor ends
pub record Misfits (begun : List ℕ) (b : ℕ) : Type 0 where
  pub is_begun : IsBegun begun
  pub goes_on : IsBegun (begun ++ b ∷ []) → ⊥
  pub ends : (meant : List ℕ) → Escape (begun ++ b ∷ []) meant → ⊥

-- a byte from 0 to 31, or 127
abbrev pub is_control : ℕ → Bool
is_control b = nat_le b 31 || b == 127

-- in a string, after what was read of it, stands a fault; its place is that of the opening quote,
-- or that where this stands
pub data FaultInString (quote at : ℕ) : List ℕ → LexRule → ℕ → Type 0 where
  end_in_string : FaultInString quote at [] L3 quote
  line_in_string : (rest : List ℕ) → FaultInString quote at (10 ∷ rest) L3 quote
  control_byte :
      (b : ℕ) (rest : List ℕ) →
      IsTrue (is_control b) → b ≢ 10 →
      FaultInString quote at (b ∷ rest) L6 at
  end_in_escape : (begun : List ℕ) → IsBegun begun → FaultInString quote at (92 ∷ begun) L3 quote
  line_in_escape :
      (begun rest : List ℕ) →
      Misfits begun 10 →
      FaultInString quote at (92 ∷ begun ++ 10 ∷ rest) L3 quote
  bad_escape :
      (begun : List ℕ) (b : ℕ) (rest : List ℕ) →
      Misfits begun b → b ≢ 10 →
      FaultInString quote at (92 ∷ begun ++ b ∷ rest) L4 at

-- at a byte, with which this text begins, no token, blank or comment can be read
pub data FaultAt (at : ℕ) : List ℕ → LexRule → ℕ → Type 0 where
  illegal_byte :
      (b : ℕ) (rest : List ℕ) →
      IsTrue (not (is_white_space b)) → ((more : List ℕ) → HasTokenForm (b ∷ more) → ⊥) →
      FaultAt at (b ∷ rest) L1 at
  comment_not_closed :
      (behind : List ℕ) →
      ((inside rest : List ℕ) → behind ≡ inside ++ rest → Closes 1 inside → ⊥) →
      FaultAt at (47 ∷ 42 ∷ behind) L2 at
  in_string :
      (quoted meant rest : List ℕ) {rule : LexRule} {place : ℕ} →
      IsQuoted quoted meant → FaultInString at (at + 1 + length quoted) rest rule place →
      FaultAt at (34 ∷ quoted ++ rest) rule place
  large_int :
      (bytes rest : List ℕ) →
      IsNumeral 10 bytes → IsLongest bytes rest → 2147483647 < digits_value 10 bytes →
      FaultAt at (bytes ++ rest) L5 at

-- the text's first fault; its length is tested first
pub data HasLexicalFault : List ℕ → LexRule → ℕ → Type 0 where
  too_long : {text : List ℕ} → 262144 < length text → HasLexicalFault text L7 0
  met :
      {text rest : List ℕ} {at : ℕ} {rule : LexRule} {place : ℕ} →
      length text ≤ 262144 → LeadsTo 0 text at rest → FaultAt at rest rule place →
      HasLexicalFault text rule place
