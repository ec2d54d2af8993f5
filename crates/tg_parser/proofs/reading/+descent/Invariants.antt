use Rattle.std.proofs.Common.{ℕ, length, ◌+◌, ◌*◌, ◌≤◌}
use Rattle.tg_syntax.specs.glue.Plain.{plain}
use Rattle.tg_syntax.specs.Tree.{exp, no_exps, init, no_inits, no_decs}
use Rattle.tg_syntax.specs.glue.Lists.{exps_of, inits_of, decs_of}
use Rattle.tg_parser.proofs.Onwards.{OperatorsOn, ItemsOn, InitsOn, DecsOn}
use Rattle.tg_parser.specs.declared.ranks.Rank.{Rank}
use Rattle.tg_parser.specs.declared.ranks.Rank.TheVariants.{Disjunction, Conjunction, Comparison, Sum, Term, Unary}
use Rattle.tg_parser.specs.glue.Ranks.{level_of}
use Rattle.tg_parser.proofs.reading.+descent.Given as goal

-- how many calls at most lead from one of these to the next token
abbrev height : Rank → ℕ
height Disjunction = 13
height Conjunction = 11
height Comparison = 9
height Sum = 7
height Term = 5
height Unary = 3

abbrev operands_height : Rank → ℕ
operands_height Disjunction = 12
operands_height Conjunction = 10
operands_height Comparison = 8
operands_height Sum = 6
operands_height Term = 4
operands_height Unary = 4

abbrev pub decreases-at : goal.decreases-at
decreases-at l = 32 * length l.tokens.now + 13

abbrev pub decreases-operand : goal.decreases-operand
decreases-operand l = 32 * length l.tokens.now + 15

abbrev pub decreases-boxed : goal.decreases-boxed
decreases-boxed l = 32 * length l.tokens.now + 14

abbrev pub decreases-onward : goal.decreases-onward
decreases-onward l = 32 * length l.tokens.now + height l.rank

abbrev pub decreases-operands : goal.decreases-operands
decreases-operands l = 32 * length l.tokens.now + operands_height l.rank

abbrev pub decreases-operators : goal.decreases-operators
decreases-operators l = 32 * length l.tokens.now

abbrev pub decreases-comparison : goal.decreases-comparison
decreases-comparison l = 32 * length l.tokens.now + 8

abbrev pub decreases-whole : goal.decreases-whole
decreases-whole l = 32 * length l.tokens.now + 15

abbrev pub decreases-of_any_depth : goal.decreases-of_any_depth
decreases-of_any_depth l = 32 * length l.tokens.now + 14

abbrev pub decreases-boxed_whole : goal.decreases-boxed_whole
decreases-boxed_whole l = 32 * length l.tokens.now + 16

abbrev pub decreases-assignment : goal.decreases-assignment
decreases-assignment l = 32 * length l.tokens.now

abbrev pub decreases-unary : goal.decreases-unary
decreases-unary l = 32 * length l.tokens.now + 2

abbrev pub decreases-negating : goal.decreases-negating
decreases-negating l = 32 * length l.tokens.now

abbrev pub decreases-grouping : goal.decreases-grouping
decreases-grouping l = 32 * length l.tokens.now

abbrev pub decreases-choosing : goal.decreases-choosing
decreases-choosing l = 32 * length l.tokens.now + 1

abbrev pub decreases-looping : goal.decreases-looping
decreases-looping l = 32 * length l.tokens.now + 1

abbrev pub decreases-counting : goal.decreases-counting
decreases-counting l = 32 * length l.tokens.now + 1

abbrev pub decreases-declaring : goal.decreases-declaring
decreases-declaring l = 32 * length l.tokens.now

abbrev pub decreases-naming : goal.decreases-naming
decreases-naming l = 32 * length l.tokens.now

abbrev pub decreases-indexing : goal.decreases-indexing
decreases-indexing l = 32 * length l.tokens.now + 17

abbrev pub decreases-suffixes : goal.decreases-suffixes
decreases-suffixes l = 32 * length l.tokens.now

abbrev pub decreases-clause : goal.decreases-clause
decreases-clause l = 32 * length l.tokens.now

abbrev pub decreases-boxed_clause : goal.decreases-boxed_clause
decreases-boxed_clause l = 32 * length l.tokens.now

abbrev pub decreases-listed : goal.decreases-listed
decreases-listed l = 32 * length l.tokens.now + 16

abbrev pub decreases-items : goal.decreases-items
decreases-items l = 32 * length l.tokens.now

abbrev pub decreases-one_init : goal.decreases-one_init
decreases-one_init l = 32 * length l.tokens.now

abbrev pub decreases-listed_inits : goal.decreases-listed_inits
decreases-listed_inits l = 32 * length l.tokens.now + 1

abbrev pub decreases-inits : goal.decreases-inits
decreases-inits l = 32 * length l.tokens.now

abbrev pub decreases-declarations : goal.decreases-declarations
decreases-declarations l = 32 * length l.tokens.now

abbrev pub decreases-one_more : goal.decreases-one_more
decreases-one_more l = 32 * length l.tokens.now + 1

abbrev pub decreases-with_variable : goal.decreases-with_variable
decreases-with_variable l = 32 * length l.tokens.now

abbrev pub decreases-with_function : goal.decreases-with_function
decreases-with_function l = 32 * length l.tokens.now

abbrev pub invariant-operators-operators : goal.invariant-operators-operators
invariant-operators-operators l = record {
  onward : OperatorsOn (level_of l.fn.rank) (plain l.fn.left) l.fn.tokens (plain l.left) l.rest;
  shorter : length l.rest ≤ length l.fn.tokens;
}

abbrev pub decreases-operators-operators : goal.decreases-operators-operators
decreases-operators-operators l = length l.rest

abbrev pub invariant-items-items : goal.invariant-items-items
invariant-items-items l = record {
  onward : ItemsOn l.separator (exp (plain l.fn.first) no_exps) l.fn.tokens (exps_of l.items.items) l.rest;
  shorter : length l.rest ≤ length l.fn.tokens;
}

abbrev pub decreases-items-items : goal.decreases-items-items
decreases-items-items l = length l.rest

abbrev pub invariant-inits-inits : goal.invariant-inits-inits
invariant-inits-inits l = record {
  onward : InitsOn (init l.fn.first.field (plain l.fn.first.value) no_inits) l.fn.tokens (inits_of l.inits.items) l.rest;
  shorter : length l.rest ≤ length l.fn.tokens;
}

abbrev pub decreases-inits-inits : goal.decreases-inits-inits
decreases-inits-inits l = length l.rest

abbrev pub invariant-declarations-decs : goal.invariant-declarations-decs
invariant-declarations-decs l = record {
  onward : DecsOn no_decs l.fn.tokens (decs_of l.decs.items) l.rest;
  shorter : length l.rest ≤ length l.fn.tokens;
}

abbrev pub decreases-declarations-decs : goal.decreases-declarations-decs
decreases-declarations-decs l = length l.rest
