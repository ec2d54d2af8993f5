use Rattle.tg_trace_schedule.proofs.Rests.{set_block}
use Rattle.tg_trace_schedule.proofs.traces.take_block.Goals as goal

pub returns-then-at-blocks-clause-left : goal.returns-then-at-blocks-clause-left
returns-then-at-blocks-clause-left c = set_block c.args.blocks.now c.args.place c.replace.new.dest _ c.replace.ensures.after c.no_block.ensures
