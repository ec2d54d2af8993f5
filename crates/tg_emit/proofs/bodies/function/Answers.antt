use Rattle.tg_emit.proofs.Fitting.{slots_fit}
use Rattle.tg_emit.proofs.bodies.function.Goals as goal

pub code-requires-clause-slots : goal.code-requires-clause-slots
code-requires-clause-slots c =
    rw c.size-size.ensures (rw c.as_slice.ensures (slots_fit c.args.one.now.frame c.args.one.now.code.list c.args.one.now.slots_below))
