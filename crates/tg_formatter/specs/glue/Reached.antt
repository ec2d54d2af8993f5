-- How far `format` has come.
use Rattle.std.specs.Prelude.{ℕ, ◌<◌, List, [], ◌∷◌, length, option_map}
use Rattle.tg_syntax.specs.declared.tokens.Token.{Token}
use Rattle.tg_syntax.specs.declared.tokens.Token.TheVariants.{Ident}
use Rattle.tg_formatter.specs.declared.gaps.Behind.{Behind as Spot}
use Rattle.tg_formatter.specs.Canonical.{Behind}

-- what the next token is written after
abbrev pub behind_of : Spot → Behind
behind_of p = record {
  before = option_map (λ a. a.now) p.before;
  is_unary = p.is_unary;
  depth = p.depth;
}

-- an identifier has a text
abbrev pub IsNamed : (names : List (List ℕ)) → Token → Type 0
IsNamed names (Ident n) = n.0 < length names
IsNamed names _ = Unit {0}

abbrev pub AreNamed : (names : List (List ℕ)) → List Token → Type 0
AreNamed names [] = Unit {0}
AreNamed names (one ∷ tokens) = IsNamed names one × AreNamed names tokens
