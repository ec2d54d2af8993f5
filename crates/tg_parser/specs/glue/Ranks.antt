-- The levels of the grammar that the code's ranks are, and the operators that they have.
use Rattle.std.specs.Prelude.{◌≡◌, None}
use Rattle.tg_syntax.specs.declared.tokens.Token.{Token}
use Rattle.tg_syntax.specs.Grammar.{Level}
use Rattle.tg_syntax.specs.Grammar as grammar
use Rattle.tg_syntax_laws.specs.mirror.Steps.{op_of}
use Rattle.tg_syntax_laws.specs.mirror.Reading.{below}
use Rattle.tg_parser.specs.declared.ranks.Rank.{Rank}
use Rattle.tg_parser.specs.declared.ranks.Rank.TheVariants.{Disjunction, Conjunction, Comparison}
use Rattle.tg_parser.specs.declared.ranks.Rank.TheVariants.{Sum, Term, Unary}

abbrev pub level_of : Rank → Level
level_of Disjunction = grammar.Disjunction
level_of Conjunction = grammar.Conjunction
level_of Comparison = grammar.Comparison
level_of Sum = grammar.Sum
level_of Term = grammar.Term
level_of Unary = grammar.Unary

-- a token is no operator of a rank, nor of one that binds more tightly
pub data NoneWithin : Rank → Token → Type 0 where
  at_unary : (t : Token) → NoneWithin Unary t
  looser :
      {k b : Rank} {t : Token} →
      level_of b ≡ below (level_of k) → None ≡ op_of (level_of k) t → NoneWithin b t →
      NoneWithin k t
