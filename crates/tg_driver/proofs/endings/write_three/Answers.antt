use Rattle.tg_profiler.proofs.Pieces.{front_longer, front_later, all_later, all_failed}
use Rattle.tg_driver.proofs.endings.write_three.Goals as goal

pub returns-in_err-write_all-clause-line : goal.returns-in_err-write_all-clause-line
returns-in_err-write_all-clause-line g c =
    all_failed _ _ _ _ c.from_residual.ensures.0 (front_longer _ _ _ _ c.in_err-write_all.ensures.bytes)

pub returns-in_err-write_all-2-clause-line : goal.returns-in_err-write_all-2-clause-line
returns-in_err-write_all-2-clause-line g c =
    all_failed _ _ _ _ c.from_residual-in_err-write_all-2.ensures.0 (front_later _ _ _ _ _ c.in_ok-write_all.ensures.bytes
    (front_longer _ _ _ _ c.in_err-write_all-2.ensures.bytes))

pub returns-clause-line : goal.returns-clause-line
returns-clause-line g c =
    all_later _ _ _ _ _ c.write_all-3.result c.in_ok-write_all.ensures.bytes
    (all_later _ _ _ _ _ c.write_all-3.result c.in_ok-write_all-2.ensures.bytes c.write_all-3.ensures.bytes)
