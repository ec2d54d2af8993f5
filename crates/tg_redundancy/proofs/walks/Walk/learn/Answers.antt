use Rattle.std.proofs.Common.{sym, ◌∙◌}
use Rattle.std.proofs.lemmas.Result.{on_ok_weaker}
use Rattle.tg_redundancy.specs.glue.Walks.{state_of}
use Rattle.tg_redundancy.proofs.Walking.{learns_by}
use Rattle.tg_redundancy.proofs.walks.Walk.learn.Goals as goal

pub returns-in_default : goal.returns-in_default
returns-in_default c =
    on_ok_weaker c.change.result
    (λ e. e ∙ sym (learns_by c.args.one.now c.in_default.not-Mark c.in_default.not-Jump c.in_default.not-Fault c.in_default.not-Return
    c.args.from_behind (state_of c.args.self.now)))
    c.change.ensures
