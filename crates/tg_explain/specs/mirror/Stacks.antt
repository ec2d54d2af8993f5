-- The openers that no token closes so far, the last one first, as the code keeps them.
use Rattle.std.specs.Prelude.{◌≡◌, List, [], ◌∷◌, Bool, true, false, Option, Some, None}
use Rattle.std.specs.Prelude.{if◌then◌else◌}
use Rattle.tg_syntax.specs.declared.tokens.Word.TheVariants.{WDo, WEnd, WThen}
use Rattle.tg_syntax.specs.declared.tokens.Sign.TheVariants.{RightParen, RightBracket, RightBrace}
use Rattle.tg_syntax.specs.declared.tokens.Token.{Token}
use Rattle.tg_syntax.specs.declared.tokens.Token.TheVariants.{Word, Sign}
use Rattle.tg_syntax.specs.declared.tokens.Spanned.{Spanned}
use Rattle.tg_explain.specs.declared.openers.Opener.{Opener}
use Rattle.tg_explain.specs.declared.openers.Opener.TheVariants.{Paren, Bracket, Brace, Let, If}
use Rattle.tg_explain.specs.declared.openers.Opener.TheVariants.{While, For}
use Rattle.tg_explain.specs.declared.openers.Opening.{Opening}
use Rattle.tg_explain.specs.Openers.{opener_of, is_closer}

abbrev pub closes : Opener → Token → Bool
closes Paren (Sign RightParen) = true
closes Bracket (Sign RightBracket) = true
closes Brace (Sign RightBrace) = true
closes Let (Word WEnd) = true
closes If (Word WThen) = true
closes While (Word WDo) = true
closes For (Word WDo) = true
closes _ _ = false

-- a closer takes the last one away, or all where it closes another kind
abbrev pub after_closer : Token → List Opening → List Opening
after_closer t [] = []
after_closer t (opening ∷ openings) = if closes opening.opener t then openings else []

abbrev pub after_other : Token → List Opening → List Opening
after_other t openings = if is_closer t then after_closer t openings else openings

abbrev pub after_opener : Option Opener → Spanned → List Opening → List Opening
after_opener (Some opener) one openings = record { opener = opener; span = one.span } ∷ openings
after_opener None one openings = after_other one.token openings

abbrev pub after_one : Spanned → List Opening → List Opening
after_one one openings = after_opener (opener_of one.token) one openings

abbrev pub after_all : List Spanned → List Opening → List Opening
after_all [] openings = openings
after_all (one ∷ tokens) openings = after_all tokens (after_one one openings)

pub record IsTop (opening : Opening) (openings : List Opening) : Type 0 where
  pub more : List Opening
  pub is : openings ≡ opening ∷ more
