use Rattle.tg_profiler.proofs.Pieces.{front_longer, front_later, all_later, all_failed}
use Rattle.tg_driver.proofs.generating.write_summary.Goals as goal

pub returns-in_err-write_counts-clause-line : goal.returns-in_err-write_counts-clause-line
returns-in_err-write_counts-clause-line g c =
    all_failed _ _ _ _ c.from_residual.ensures.0 (front_longer _ _ _ _ c.in_err-write_counts.ensures.line)

pub returns-in_err-write_count-clause-line : goal.returns-in_err-write_count-clause-line
returns-in_err-write_count-clause-line g c =
    all_failed _ _ _ _ c.from_residual-in_err-write_count.ensures.0 (front_later _ _ _ _ _ c.in_ok-write_counts.ensures.line
    (front_longer _ _ _ _ c.in_err-write_count.ensures.line))

pub returns-clause-line : goal.returns-clause-line
returns-clause-line g c =
    all_later _ _ _ _ _ c.write_all.result c.in_ok-write_counts.ensures.line
    (all_later _ _ _ _ _ c.write_all.result c.in_ok-write_count.ensures.line c.write_all.ensures.bytes)
