-- Evaluation as runs from points that are their own step, so that a translation's proof is an instance of the induction of `tg_simulation`: a point is
-- what stands after a unit of fuel, with all that comes next.
use Rattle.std.proofs.Common.{ℕ}
use Rattle.tg_simulation.specs.Runs.{Run}
use Rattle.tg_simulation.specs.Outcomes.{Outcome}
use Rattle.tg_simulation.proofs.Fixpoint.{IsOwnStep}
use Rattle.tg_semantics.specs.Values.{Value, Ending, SourceWorld}
use Rattle.tg_semantics.specs.Evaluation.{Job, run}
use Rattle.tg_semantics.specs.Passing.{Rest, Passing, passing}
use Rattle.tg_semantics.specs.laws.Laws.{behind}
use Rattle.tg_semantics.proofs.Unfolding.{fuel_unfolds}

pub record Point : Type 0 where
  pub job : Job
  pub go : Value → Rest
  pub out : Rest
  pub world : SourceWorld

module _ (heap stack : ℕ) where
  abbrev pub step : (Point → Run (Outcome Ending)) → Point → Run (Outcome Ending)
  step later p =
      run Passing (passing heap stack) (λ job go out w. later (record { job = job; go = go; out = out; world = w })) p.job p.go p.out p.world

  abbrev pub going : Point → Run (Outcome Ending)
  going p = behind heap stack p.job p.go p.out p.world

  pub evaluation_steps : IsOwnStep step going
  evaluation_steps p n = fuel_unfolds heap stack p.job p.go p.out p.world n
