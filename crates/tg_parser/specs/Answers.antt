-- The first fault of syntax.
use Rattle.std.specs.Prelude.{ℕ, List}
use Rattle.tg_syntax.specs.declared.tokens.Spanned.{Spanned}
use Rattle.tg_syntax.specs.SyntaxFaults.{HasUnexpected, HasTooDeep}
use Rattle.tg_parser.specs.declared.faults.SyntaxRule.{SyntaxRule}
use Rattle.tg_parser.specs.declared.faults.SyntaxRule.TheVariants.{S1, S2}

-- the list's first fault has this rule, and its token begins at this byte
abbrev pub HasSyntaxFault : List Spanned → SyntaxRule → ℕ → Type 0
HasSyntaxFault tokens S1 at = HasUnexpected tokens at
HasSyntaxFault tokens S2 at = HasTooDeep tokens at
