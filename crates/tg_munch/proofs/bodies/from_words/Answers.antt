use Rattle.std.proofs.Common.{◌≡◌, ◌+◌, arith, subst}
use Rattle.std.proofs.lemmas.List.{get_or_default}
use Rattle.tg_munch.specs.mirror.Bodies.{from_words}
use Rattle.tg_munch.proofs.Walking.{Leads, leads_on, leads_end, word_each}
use Rattle.tg_munch.proofs.bodies.from_words.Goals as goal

pub loop-k-preserved : goal.loop-k-preserved
loop-k-preserved c =
    let k = c.loop-k.k in
    let e : c.args.first + k + 1 ≡ c.args.first + (k + 1) = omega arith in
    subst (λ p. Leads (from_words c.args.above) c.args.homes.now c.args.first p (k + 1) c.args.draft.now c.from_word.new.draft) e
    (leads_on (word_each c.args.above) c.args.homes.now c.args.first (c.args.first + k) k c.loop-k-test.true
    (get_or_default _ _ _ _ c.loop-k-test.true) c.loop-k.invariant c.in_ok-from_word.ensures)

pub returns : goal.returns
returns c =
    let k = c.loop-k.k in
    leads_end (word_each c.args.above) c.args.homes.now c.args.first (c.args.first + k) k
    (omega (arith, c.loop-k.auto.k-end, c.loop-k-test.false)) c.loop-k.invariant
