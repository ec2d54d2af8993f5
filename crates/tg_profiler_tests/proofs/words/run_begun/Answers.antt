-- What the watchers stand for after a run is what the run says that they saw.
use Rattle.tg_profiler_tests.proofs.words.run_begun.Goals as goal

pub returns : goal.returns
returns g c =
    let h = c.run_watched.ensures.run c.requires.fresh in
    (h.0, _, h.2.stand)
