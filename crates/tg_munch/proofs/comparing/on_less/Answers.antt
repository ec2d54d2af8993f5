use Rattle.tg_munch.proofs.Writing.{writes_then}
use Rattle.tg_munch.proofs.comparing.on_less.Goals as goal

pub returns : goal.returns
returns c =
    writes_then _ c.in_ok-flagged.ensures
    (writes_then _ (rw c.flag.ensures at c.in_ok-put.ensures) (rw c.on_flag.ensures at c.in_ok-put-2.ensures))
