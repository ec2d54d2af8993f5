use Rattle.std.proofs.Common.{◌∙◌, sym, subst}
use Rattle.tg_coalescing_round.specs.glue.Standing.{IsRunOf}
use Rattle.tg_coalescing_round.proofs.states.Coalescer.take_steps.Goals as goal

pub loop-preserved : goal.loop-preserved
loop-preserved g c =
    let more = c.in_ok-take_step.ensures.more c.if-branch.true in
    record {
      orderly = more.on.orderly;
      run = λ p e r. more.run p (e ∙ sym c.loop.invariant.same) (c.loop.invariant.run p e r);
      same = c.in_ok-take_step.ensures.same ∙ c.loop.invariant.same;
    }

pub returns-clause-run : goal.returns-clause-run
returns-clause-run g c =
    let done = c.in_ok-take_step.ensures.done c.if-branch.false in
    λ p e r. subst (IsRunOf p) (sym done.0) (c.loop.invariant.run p e r)
