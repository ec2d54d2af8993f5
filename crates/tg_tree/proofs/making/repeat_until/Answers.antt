use Rattle.std.proofs.Common.{◌≡◌, subst}
use Rattle.std.specs.Prelude.{IfOk}
use Rattle.tg_tree.specs.Tree.{Ts}
use Rattle.tg_tree.specs.glue.Plain.{plain_cond, plain_ts}
use Rattle.tg_tree.proofs.ListLaws.{turn_is}
use Rattle.tg_tree.proofs.making.repeat_until.Goals as goal

pub returns : goal.returns
returns c =
    subst (λ (t : Ts). IfOk c.repeat.result (λ s. plain_ts s ≡ t))
    (turn_is (plain_cond c.args.done) c.args.turn.items _ _ c.sequence.result c.in_ok-when.ensures c.in_ok-push.ensures.items c.sequence.ensures)
    c.repeat.ensures
