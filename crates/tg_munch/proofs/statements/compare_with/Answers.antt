use Rattle.std.proofs.Common.{None, subst}
use Rattle.tg_tree.specs.glue.Plain.{plain_tx}
use Rattle.tg_munch.specs.glue.Drafts.{Writes}
use Rattle.tg_munch.specs.mirror.Comparing.{against}
use Rattle.tg_munch.specs.mirror.Munching.{expression}
use Rattle.tg_munch.proofs.Writing.{writes_then}
use Rattle.tg_munch.proofs.statements.compare_with.Goals as goal

pub returns-in_ok-branch_on-in-None : goal.returns-in_ok-branch_on-in-None
returns-in_ok-branch_on-in-None c =
    subst (λ s. Writes (against c.args.rel s c.args.first (expression c.args.slots (plain_tx c.args.right.now) None) c.args.mark)
    c.args.draft.now c.branch_on.new.draft tt)
    c.in-None.ensures (writes_then _ c.in_ok-second-in-None.ensures c.in_ok-branch_on-in-None.ensures)
