use Rattle.std.proofs.Common.{arith, ◌≡◌, ap, sym, ◌∙◌, subst}
use Rattle.tg_machine_state.specs.Services.{service}
use Rattle.tg_bare.specs.Delayed.{Bare, performed}
use Rattle.tg_bare.specs.glue.Inside.{machine_at, machine_of}
use Rattle.tg_bare.specs.glue.Moves.{within}
use Rattle.tg_bare.specs.glue.Pauses.{BareRunsTo}
use Rattle.tg_bare.proofs.Pausing.{runs_more}
use Rattle.tg_bare.proofs.RowWays.{ends_there, goes_on_at, service_steps}
use Rattle.tg_bare.proofs.cores.BareCore.run_alone.Goals as goal

pub returns-in_default : goal.returns-in_default
returns-in_default c =
    let b = machine_at c.loop-made.self.core c.loop-made.at in (
      c.loop-made.made,
      b,
      c.loop-made-test.true,
      c.loop-made.invariant,
      ap (performed b) (sym c.outside.ensures.value),
      c.outside.ensures.own,
    )

pub returns-in-Syscall : goal.returns-in-Syscall
returns-in-Syscall c =
    let s = c.loop-made.self.core in
    let at = c.loop-made.at in (
      machine_at s at,
      c.loop-made-test.true,
      c.loop-made.invariant,
      service_steps s at _ (sym c.in-Some.ensures) c.in-Syscall.is ∙ ap (λ (b : Bare). within b (service b.state)) (sym c.stand.ensures),
    )

pub returns-in-Err : goal.returns-in-Err
returns-in-Err c =
    let e = ends_there _ _ _ c.in-Err.ensures in
    (c.loop-made.made, machine_at c.loop-made.self.core c.loop-made.at, c.loop-made-test.true, c.loop-made.invariant, e.0, e.1)

pub loop-made-preserved : goal.loop-made-preserved
loop-made-preserved c = runs_more _ _ _ _ c.loop-made.invariant (goes_on_at _ _ _ c.in-Ok.ensures)

pub returns : goal.returns
returns c =
    let over : c.args.steps ≡ c.loop-made.made = omega (arith, c.loop-made-test.false, c.loop-made.auto.made-end) in
    rw over (subst (λ (b : Bare). BareRunsTo c.loop-made.made (machine_of c.args.self.now) b) (sym c.stand-2.ensures) c.loop-made.invariant)
