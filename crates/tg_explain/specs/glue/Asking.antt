-- What is asked of the parser for a kind, and what its answer shows.
use Rattle.std.specs.Prelude.{ℕ, ◌≢◌, List, [], ◌∷◌, Bool, true, false, ◌==◌}
use Rattle.tg_syntax.specs.declared.tokens.Token.TheVariants as token
use Rattle.tg_syntax.specs.declared.tokens.Spanned.{Spanned}
use Rattle.tg_syntax.specs.Tree.{Exp}
use Rattle.tg_syntax.specs.Grammar.{IsProgram}
use Rattle.tg_syntax.specs.SyntaxFaults.{HasUnexpected, HasTooDeep}
use Rattle.tg_parser.specs.declared.faults.SyntaxRule.{SyntaxRule}
use Rattle.tg_parser.specs.declared.faults.SyntaxRule.TheVariants.{S1, S2}
use Rattle.tg_explain.specs.declared.kinds.TokenKind.{TokenKind}
use Rattle.tg_explain.specs.declared.kinds.TokenKind.TheVariants.{End}
use Rattle.tg_explain.specs.Kinds.{sample}
use Rattle.tg_explain.specs.Expected.{CanFollow}

-- an end at byte 1
abbrev pub the_end : Spanned
the_end = record { token = token.End; span = record { from = 1; to = 1 } }

-- behind a token of a kind, the end, unless it is that
abbrev pub end_behind : TokenKind → List Spanned
end_behind End = []
end_behind _ = the_end ∷ []

abbrev pub asked : TokenKind → List Spanned
asked kind = sample kind ∷ end_behind kind

-- the tokens are a program, or their first fault comes by nesting or at byte 1, or elsewhere
pub data Shows (tokens : List Spanned) : Bool → Type 0 where
  is_program : {tree : Exp} → IsProgram tokens tree → Shows tokens true
  too_deep : {at : ℕ} → HasTooDeep tokens at → Shows tokens true
  at_one : HasUnexpected tokens 1 → Shows tokens true
  elsewhere : {at : ℕ} → at ≢ 1 → HasUnexpected tokens at → Shows tokens false

abbrev pub shown_by : SyntaxRule → ℕ → Bool
shown_by S1 at = at == 1
shown_by S2 at = true

-- a kind can follow, or can't
abbrev pub Decides : List Spanned → TokenKind → Bool → Type 0
Decides before kind true = CanFollow before kind
Decides before kind false = CanFollow before kind → ⊥
