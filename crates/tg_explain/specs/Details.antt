-- What a fault of syntax is about.
use Rattle.std.specs.Prelude.{ℕ, ◌≡◌, List, MatchOption}
use Rattle.tg_syntax.specs.declared.tokens.Spanned.{Spanned}
use Rattle.tg_syntax.specs.SyntaxFaults.{IsAt}
use Rattle.tg_explain.specs.Kinds.{kind_of}
use Rattle.tg_explain.specs.Expected.{AreExpected}
use Rattle.tg_explain.specs.Openers.{HasNoOpen, IsLastOpen}
use Rattle.tg_explain.specs.declared.details.SyntaxDetail.{SyntaxDetail}

-- of the token that begins at a byte its kind, and of those before it how they can go on, and what
-- is still open
pub record IsExplained (tokens : List Spanned) (at : ℕ) (d : SyntaxDetail) : Type 0 where
  pub before : List Spanned
  pub one : Spanned
  pub is_at : IsAt tokens before one at
  pub found : d.found ≡ kind_of one.token
  pub expected : AreExpected before d.expected
  pub opening : MatchOption d.opening (HasNoOpen before) (λ o. IsLastOpen before o)
