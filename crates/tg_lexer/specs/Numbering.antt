-- How the names of a text are numbered.
use Rattle.std.specs.Prelude.{ℕ, ◌-◌, List, [], ◌∷◌, ◌++◌, take, drop, cond, fold, Result, Ok}
use Rattle.tg_base.specs.Interned.{is_among}
use Rattle.tg_base.specs.declared.faulty.Faulty.{Faulty}
use Rattle.tg_base.specs.declared.ids.Span.{Span}
use Rattle.tg_syntax.specs.declared.faults.LexRule.{LexRule}
use Rattle.tg_syntax.specs.declared.tokens.Token.{Token}
use Rattle.tg_syntax.specs.declared.tokens.Token.TheVariants.{Ident}
use Rattle.tg_syntax.specs.declared.tokens.Spanned.{Spanned}
use Rattle.tg_lexer.specs.declared.lexemes.Lexeme.{Lexeme}
use Rattle.tg_lexer.specs.declared.lexemes.Lexeme.TheVariants.{One}

-- a text that isn't among the names goes last
abbrev pub with_name : List (List ℕ) → List ℕ → List (List ℕ)
with_name names text = cond (is_among text names) names (names ++ text ∷ [])

-- one text after the other
abbrev pub all_named : List (List ℕ) → List (List ℕ) → List (List ℕ)
all_named names texts = fold with_name names texts

-- the text of a token, where it is an identifier
abbrev pub ident_text : List ℕ → Token → Span → List (List ℕ)
ident_text text (Ident n) span = take (span.to - span.from) (drop span.from text) ∷ []
ident_text text _ span = []

-- the texts of the identifiers among tokens, in order
abbrev pub idents : List ℕ → List Spanned → List (List ℕ)
idents text [] = []
idents text (t ∷ tokens) = ident_text text t.token t.span ++ idents text tokens

-- the names after a front of the text is read
abbrev pub names_after : List (List ℕ) → List ℕ → Result Lexeme (Faulty LexRule ℕ) → List (List ℕ)
names_after names text (Ok (One (Ident n) size)) = with_name names (take size text)
names_after names text _ = names
