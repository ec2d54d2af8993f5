use Rattle.tg_parser.specs.glue.Ranks.{level_of}
use Rattle.tg_parser.proofs.Passings.{looseness}
use Rattle.tg_parser.proofs.ranks.+is_operator_within.Given as goal

abbrev pub decreases-is_operator_within : goal.decreases-is_operator_within
decreases-is_operator_within l = looseness (level_of l.rank)
