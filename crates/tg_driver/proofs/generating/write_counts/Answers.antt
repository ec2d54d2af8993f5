use Rattle.tg_profiler.proofs.Pieces.{front_longer, front_later, all_later, all_failed}
use Rattle.tg_driver.proofs.generating.write_counts.Goals as goal

pub returns-in_err-write_count-clause-line : goal.returns-in_err-write_count-clause-line
returns-in_err-write_count-clause-line g c =
    all_failed _ _ _ _ c.from_residual.ensures.0 (front_longer _ _ _ _ c.in_err-write_count.ensures.line)

pub returns-in_err-write_count-2-clause-line : goal.returns-in_err-write_count-2-clause-line
returns-in_err-write_count-2-clause-line g c =
    all_failed _ _ _ _ c.from_residual-in_err-write_count-2.ensures.0
    (front_later _ _ _ _ _ c.in_ok-write_count.ensures.line (front_longer _ _ _ _ c.in_err-write_count-2.ensures.line))

pub returns-clause-line : goal.returns-clause-line
returns-clause-line g c =
    all_later _ _ _ _ _ c.write_count-3.result c.in_ok-write_count.ensures.line
    (all_later _ _ _ _ _ c.write_count-3.result c.in_ok-write_count-2.ensures.line c.write_count-3.ensures.line)
