use Rattle.std.proofs.Common.{ap}
use Rattle.tg_driver.specs.declared.answers.Answer.TheVariants.{Finished}
use Rattle.tg_driver.proofs.ExactRuns.{exact_reports}
use Rattle.tg_driver.proofs.laws.reports_are_exact.Goals as goal

pub returns : goal.returns
returns g c = λ s bare reporters reports image heap stack steps end bytes h tells faultless.
    exact_reports s bare reporters reports image heap stack steps end bytes (λ d. faultless.all_read (ap Finished d))
    (λ d. faultless.all_written (ap Finished d)) h tells
