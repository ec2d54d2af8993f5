use Rattle.std.proofs.Common.{arith, ◌≡◌, ◌+◌, ◌-◌, ◌<◌, ◌≤◌}
use Rattle.tg_machine_state.specs.declared.ends.RunEnd.TheVariants.{StepLimit}
use Rattle.tg_machine.proofs.Reached.{moved_apart, own_limit}
use Rattle.tg_bare.specs.glue.Inside.{machine_of}
use Rattle.tg_bare.proofs.Reached.{reached_none, reached_more, ran_all, ran_out, ran_ended}
use Rattle.tg_bare.proofs.Pausing.{reached_runs}
use Rattle.tg_bare.proofs.cores.BareCore.run.Goals as goal

pub loop-made-init : goal.loop-made-init
loop-made-init g c = (omega arith, reached_none _ _ _ _ _ _ _ _ _ c.requires)

pub loop-made-preserved : goal.loop-made-preserved
loop-made-preserved g c =
    let is = c.in-Due.ensures in
    let all : c.loop-made.made + (c.in-Due.more + 1) ≡ c.loop-made.made + c.in-Due.more + 1 = omega arith in
    let within : c.loop-made.made + (c.in-Due.more + 1) ≤ c.args.steps = omega (arith, is.1, c.loop-made-test.true) in (
      within,
      rw all (reached_more _ _ _ _ _ _ _ (machine_of c.run_alone.new.self) _ _ _ _ _ _ _ _ _ _ _ _ _ _ c.in_default.field-0
          (reached_runs _ _ _ _ _ _ _ _ _ _ _ _ _ _ _ _ _ c.loop-made.invariant.1 is.2) is.3 c.in_default.ensures),
    )

pub returns-in-Err-clause-ran : goal.returns-in-Err-clause-ran
returns-in-Err-clause-ran g c =
    let is = c.in-Due.ensures in
    let within : c.loop-made.made + c.in-Due.more < c.args.steps = omega (arith, is.1, c.loop-made-test.true) in
    ran_out _ _ _ _ _ _ _ _ (machine_of c.run_alone.new.self) _ _ _ _ _ _ _ _ _ _ _ _ _ _ _ c.service.result _ within
    (reached_runs _ _ _ _ _ _ _ _ _ _ _ _ _ _ _ _ _ c.loop-made.invariant.1 is.2) is.3 c.in-Err.is c.service.ensures

pub returns-in-Ended-clause-ran : goal.returns-in-Ended-clause-ran
returns-in-Ended-clause-ran g c =
    let is = c.in-Ended.ensures in
    let within : c.loop-made.made + is.0 < c.args.steps = omega (arith, is.2, c.loop-made-test.true) in
    ran_ended _ _ _ _ _ _ _ is.1 _ _ _ _ _ _ _ _ _ _ within
    (reached_runs _ _ _ _ _ _ _ _ is.1 _ _ _ _ _ _ _ _ c.loop-made.invariant.1 is.3) is.4 is.5

pub returns-in-Made-clause-ran : goal.returns-in-Made-clause-ran
returns-in-Made-clause-ran g c =
    let over : c.args.steps ≡ c.loop-made.made + (c.args.steps - c.loop-made.made) = omega (arith, c.loop-made-test.true) in
    rw over (ran_all _ _ _ _ _ _ _ _ _ _ _ _ _ _ _ (reached_runs _ _ _ _ _ _ _ _ _ _ _ _ _ _ _ _ _ c.loop-made.invariant.1 c.in-Made.ensures))

pub returns-clause-ran : goal.returns-clause-ran
returns-clause-ran g c =
    let over : c.args.steps ≡ c.loop-made.made = omega (arith, c.loop-made.invariant.0) in
    rw over (ran_all _ _ _ _ _ _ _ _ _ _ _ _ _ _ _ c.loop-made.invariant.1)

pub returns-in-Err-clause-apart : goal.returns-in-Err-clause-apart
returns-in-Err-clause-apart g c h =
    let same : c.in-Err.end ≡ StepLimit = cc h in
    moved_apart _ _ _ _ _ _ _ _ _ _ _ _ _ _ c.service.result _ c.in-Err.is c.service.ensures same

pub returns-in-Ended-clause-apart : goal.returns-in-Ended-clause-apart
returns-in-Ended-clause-apart g c h =
    let same : c.in-Ended.end ≡ StepLimit = cc h in
    own_limit _ c.in-Ended.ensures.5 same
