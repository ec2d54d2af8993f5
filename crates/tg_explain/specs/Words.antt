-- What explanations call kinds of tokens and openers.
use Rattle.std.specs.Prelude.{ℕ, List, ◌∷◌, [], ◌++◌, codes}
use Rattle.tg_syntax.specs.Spellings.{word_text, sign_text}
use Rattle.tg_explain.specs.declared.kinds.TokenKind.{TokenKind}
use Rattle.tg_explain.specs.declared.kinds.TokenKind.TheVariants.{Word, Sign, Ident, Int, Text, End}
use Rattle.tg_explain.specs.declared.openers.Opener.{Opener}
use Rattle.tg_explain.specs.declared.openers.Opener.TheVariants.{Paren, Bracket, Brace, Let, If}
use Rattle.tg_explain.specs.declared.openers.Opener.TheVariants.{While, For}

-- in quotation marks
abbrev pub quoted : List ℕ → List ℕ
quoted text = codes "'" ++ text ++ codes "'"

abbrev pub kind_text : TokenKind → List ℕ
kind_text (Word w) = quoted (word_text w)
kind_text (Sign s) = quoted (sign_text s)
kind_text Ident = codes "identifier"
kind_text Int = codes "integer"
kind_text Text = codes "string"
kind_text End = codes "end of text"

abbrev pub opener_text : Opener → List ℕ
opener_text Paren = codes "("
opener_text Bracket = codes "["
opener_text Brace = codes "{"
opener_text Let = codes "let"
opener_text If = codes "if"
opener_text While = codes "while"
opener_text For = codes "for"
