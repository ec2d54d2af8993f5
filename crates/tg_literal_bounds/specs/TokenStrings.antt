-- The strings among the tokens of a text, in its order.
use Rattle.std.specs.Prelude.{ℕ, ◌+◌, List, [], ◌∷◌, length}
use Rattle.std.specs.List.{flat_map}
use Rattle.tg_syntax.specs.declared.tokens.Token.{Token}
use Rattle.tg_syntax.specs.declared.tokens.Token.TheVariants.{Text}
use Rattle.tg_syntax.specs.declared.tokens.Spanned.{Spanned}

-- the string that a token is, where it is one
abbrev pub string_of : Token → List (List ℕ)
string_of (Text bytes) = bytes ∷ []
string_of _ = []

abbrev pub strings_of : List Spanned → List (List ℕ)
strings_of tokens = flat_map (λ t. string_of t.token) tokens

-- the bytes of a string, its two quotes, and one byte between it and the next string
abbrev pub spaced_length : List ℕ → ℕ
spaced_length bytes = 3 + length bytes
