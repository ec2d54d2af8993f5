use Rattle.tg_trace_schedule.proofs.TracesCarried.{blocks_carried, programs_are_preserved}
use Rattle.tg_trace_schedule.proofs.laws.traces_are_correct.Goals as goal

pub returns : goal.returns
returns c = record {
  bodies = λ size floor room literals functions flat bs may. blocks_carried size floor room literals functions flat bs may;
  programs = λ code size floor room body input h. programs_are_preserved code size floor room body input h;
}
