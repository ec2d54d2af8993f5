use Rattle.std.proofs.Common.{◌<◌, subst, sym}
use Rattle.tg_parser.specs.glue.Ranks.{level_of, NoneWithin, at_unary, looser}
use Rattle.tg_parser.proofs.Passings.{looseness, tighter}
use Rattle.tg_parser.proofs.ranks.+is_operator_within.Goals as goal

pub is_operator_within-requires : goal.is_operator_within-requires
is_operator_within-requires t c =
    (subst (λ x. looseness (level_of c.below.result) < x) c.decreases (tighter c.args.rank c.below.result c.below.ensures c.in_default.not-Unary), tt)

pub returns-in-Unary : goal.returns-in-Unary
returns-in-Unary t c = λ _. subst (λ k. NoneWithin k c.args.token.now) (sym c.in-Unary.is) (at_unary _)

pub returns-in-None : goal.returns-in-None
returns-in-None t c = λ h. looser c.below.ensures c.in-None.ensures (c.is_operator_within.ensures h)
