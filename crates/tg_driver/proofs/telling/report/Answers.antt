use Rattle.tg_driver.specs.glue.PrivateCalls.{itself}
use Rattle.tg_driver.proofs.GivenTexts.{reported_alone, untold}
use Rattle.tg_driver.proofs.telling.report.Goals as goal

pub returns-in-Finished-clause-reports : goal.returns-in-Finished-clause-reports
returns-in-Finished-clause-reports g c = rw c.in-Finished.is (λ reports tell. itself (c.tell_run.ensures.told reports tell))

pub returns-in_default : goal.returns-in_default
returns-in_default g c = record {
  reports = λ reports tell.
      reported_alone _ _ _ _ _
      (untold (λ b. (goal.Watcher-dyn g (b.vtable, b.value)).stands b.value) (λ b. (goal.Watcher-dyn g (b.vtable, b.value)).report b.value)
      c.args.watchers.now c.args.answer reports c.in_default.not-Finished tell)
      c.tell.ensures.told;
  later = c.tell.ensures.later;
}
