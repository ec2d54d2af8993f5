use Rattle.tg_bare.proofs.FuelRuns.{runs_by_fuel, bare_stays_over, bare_goes_on, bare_ends_by_its_work}
use Rattle.tg_bare.proofs.laws.bare_runs_by_fuel.Goals as goal

pub returns : goal.returns
returns c = record {
  run = runs_by_fuel;
  over = bare_stays_over;
  goes_on = bare_goes_on;
  work = bare_ends_by_its_work;
}
