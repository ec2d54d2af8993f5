-- Where tokens stand in a text, and what follows for the places that a tree tells.
use Rattle.std.specs.Prelude.{ℕ, ◌≡◌, ◌≢◌, ◌<◌, ◌≤◌, List, [], ◌∷◌, ◌++◌, length}
use Rattle.tg_base.specs.declared.ids.Span.{Span}
use Rattle.tg_syntax.specs.declared.tokens.Token.TheVariants.{End}
use Rattle.tg_syntax.specs.declared.tokens.Spanned.{Spanned}
use Rattle.tg_syntax.specs.Tree.{Exp, LValue}
use Rattle.tg_syntax.specs.Spans.{span_of}
use Rattle.tg_syntax.specs.Lexing.{Lexes}
use Rattle.tg_syntax.specs.Grammar.{Level, Reads, IsPlace, IsProgram}
use Rattle.tg_syntax.specs.Beginnings.{BeginsApart, BeginsInOrder}
use Rattle.tg_syntax.specs.NamesWithin.{NamesWithin}

-- from the first token's first byte to the last one's last
pub record IsSpanOf (s : Span) (tokens : List Spanned) : Type 0 where
  pub first : Spanned
  pub behind : List Spanned
  pub begins : tokens ≡ first ∷ behind
  pub from_is : s.from ≡ first.span.from
  pub before : List Spanned
  pub last : Spanned
  pub ends : tokens ≡ before ++ last ∷ []
  pub to_is : s.to ≡ last.span.to

-- whatever tokens are read as an expression, its span is theirs
abbrev pub SpansExpressions : Type 0
SpansExpressions =
    (level : Level) (tokens : List Spanned) (e : Exp) → Reads level tokens e →
    IsSpanOf (span_of e) tokens

-- and an l-value's
abbrev pub SpansPlaces : Type 0
SpansPlaces =
    (tokens : List Spanned) (s : Span) (v : LValue) → IsPlace tokens s v → IsSpanOf s tokens

-- from this byte on each token begins where the one before it ends, or later, and none but the end
-- is empty
abbrev pub StandFrom : (at : ℕ) → List Spanned → Type 0
StandFrom at [] = Unit {0}
StandFrom at (t ∷ ts) = (at ≤ t.span.from) × (t.span.from ≤ t.span.to) ×
    (t.token ≢ End → t.span.from < t.span.to) × StandFrom t.span.to ts

-- so do the tokens of a text
abbrev pub TokensStand : Type 0
TokensStand =
    (names : List (List ℕ)) (text : List ℕ) (tokens : List Spanned) → Lexes names 0 text tokens →
    StandFrom 0 tokens

-- the identifiers and operators of a program whose tokens stand so begin each after those before
-- it
abbrev pub ProgramsInOrder : Type 0
ProgramsInOrder =
    (tokens : List Spanned) (body : Exp) → StandFrom 0 tokens → IsProgram tokens body →
    BeginsInOrder body

-- in a text no two begin at the same byte
abbrev pub ProgramsApart : Type 0
ProgramsApart =
    (names : List (List ℕ)) (text : List ℕ) (tokens : List Spanned) (body : Exp) →
    Lexes names 0 text tokens → IsProgram tokens body → BeginsApart body

-- and each name is a place in the list of names
abbrev pub ProgramsNamed : Type 0
ProgramsNamed =
    (names : List (List ℕ)) (text : List ℕ) (tokens : List Spanned) (body : Exp) →
    Lexes names 0 text tokens → IsProgram tokens body → NamesWithin (length names) body
