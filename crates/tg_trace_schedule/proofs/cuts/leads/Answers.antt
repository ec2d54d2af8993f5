use Rattle.tg_trace_schedule.specs.glue.Plains.{plain_end}
use Rattle.tg_trace_schedule.proofs.Rests.{leads_full, leads_empty}
use Rattle.tg_trace_schedule.proofs.cuts.leads.Goals as goal

pub returns-then-body-gt0 : goal.returns-then-body-gt0
returns-then-body-gt0 c = leads_full c.args.body.now (plain_end c.args.end.now) c.if-body-gt0.true

pub returns : goal.returns
returns c = leads_empty c.args.body.now (plain_end c.args.end.now) c.target.result c.if-body-gt0.false c.target.ensures
