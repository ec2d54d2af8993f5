use Rattle.tg_isa.proofs.FuelRuns.{runs_by_fuel, machine_stays_over, machine_goes_on, machine_ends_by_its_work}
use Rattle.tg_isa.proofs.laws.machine_runs_by_fuel.Goals as goal

pub returns : goal.returns
returns c = record {
  run = runs_by_fuel;
  over = machine_stays_over;
  goes_on = machine_goes_on;
  work = machine_ends_by_its_work;
}
