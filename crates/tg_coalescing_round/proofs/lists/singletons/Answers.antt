use Rattle.std.proofs.Common.{◌≡◌, ◌∙◌, ap, arith}
use Rattle.tg_coalescing_round.specs.glue.Lists.{numbers_in}
use Rattle.tg_coalescing_round.specs.glue.Lists.{singletons}
use Rattle.tg_coalescing_round.proofs.Vectors.{singletons_pushed}
use Rattle.tg_coalescing_round.proofs.lists.singletons.Goals as goal

pub loop-number-init : goal.loop-number-init
loop-number-init c = ap numbers_in c.in_ok-lists.ensures.items

pub loop-number-preserved : goal.loop-number-preserved
loop-number-preserved c =
    ap numbers_in c.in_ok-push.ensures.items
    ∙ singletons_pushed c.loop-number.lists.items c.singleton.result c.loop-number.number c.loop-number.invariant
    c.singleton.ensures

pub returns : goal.returns
returns c =
    let all : c.loop-number.number ≡ c.args.count = omega arith in
    c.loop-number.invariant ∙ ap singletons all
