use Rattle.std.proofs.Common.{◌<◌, ◌≤◌, sym, subst}
use Rattle.tg_parser.proofs.NestingSteps.{Nested, nested_none, nested_more, nested_over}
use Rattle.tg_parser.proofs.nesting.first_deep.Goals as goal

pub loop-place-init : goal.loop-place-init
loop-place-init c = subst (λ counts. Nested c.args.tokens.now 0 counts) (sym c.new-counts.ensures) (nested_none c.args.tokens.now)

pub returns-then-nesting-gt-LIMIT : goal.returns-then-nesting-gt-LIMIT
returns-then-nesting-gt-LIMIT c =
    nested_over c.args.tokens.now c.loop-place.place c.loop-place.counts c.take.new.self c.index-tokens-place.result
    c.loop-place.invariant c.loop-place-test.true c.index-tokens-place.is
    c.in_ok-take.ensures (subst (λ n. 256 < n) c.nesting.ensures c.if-nesting-gt-LIMIT.true)

pub loop-place-preserved : goal.loop-place-preserved
loop-place-preserved c =
    nested_more c.args.tokens.now c.loop-place.place c.loop-place.counts c.take.new.self c.index-tokens-place.result
    c.loop-place.invariant c.loop-place-test.true c.index-tokens-place.is
    c.in_ok-take.ensures (subst (λ n. n ≤ 256) c.nesting.ensures c.if-nesting-gt-LIMIT.false)
