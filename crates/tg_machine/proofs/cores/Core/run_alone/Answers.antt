use Rattle.std.proofs.Common.{arith, ◌≡◌, ap, sym, ◌∙◌, subst}
use Rattle.tg_machine_state.specs.State.{MachineState, go}
use Rattle.tg_machine_state.specs.Services.{service}
use Rattle.tg_base.specs.Words.{add}
use Rattle.tg_isa.specs.Effects.{performed}
use Rattle.tg_machine.specs.declared.rows.Row.{Row}
use Rattle.tg_machine.specs.glue.Pauses.{RunsTo}
use Rattle.tg_machine.specs.mirror.Rows.{does}
use Rattle.tg_machine.proofs.Pausing.{runs_more}
use Rattle.tg_machine.proofs.RowEffects.{row_ends, row_goes, step_at}
use Rattle.tg_machine.proofs.cores.Core.run_alone.Goals as goal

pub returns-in_default : goal.returns-in_default
returns-in_default c =
    let s = c.loop-made.self in
    let p = c.loop-made.place in (
      c.loop-made.made,
      go s p,
      c.loop-made-test.true,
      c.loop-made.invariant,
      ap (performed (go s p)) (sym c.outside.ensures.value),
      c.outside.ensures.own,
    )

pub returns-in-Syscall : goal.returns-in-Syscall
returns-in-Syscall c =
    let s = c.loop-made.self in
    let p = c.loop-made.place in (
      go s p,
      c.loop-made-test.true,
      c.loop-made.invariant,
      step_at s p _ c.in-Some.ensures ∙ ap (λ (r : Row). does r (go s (add p 4))) c.in-Syscall.is
          ∙ ap (λ (x : MachineState). service (go x (add p 4))) (sym c.self-in-loop-made.view_is),
    )

pub returns-in-Err : goal.returns-in-Err
returns-in-Err c =
    let s = c.loop-made.self in
    let p = c.loop-made.place in
    let e = row_ends _ _ _ c.in-Err.ensures in
    (c.loop-made.made, go s p, c.loop-made-test.true, c.loop-made.invariant, step_at s p _ c.in-Some.ensures ∙ e.0, e.1)

pub loop-made-preserved : goal.loop-made-preserved
loop-made-preserved c =
    runs_more _ _ _ _ c.loop-made.invariant (step_at c.loop-made.self c.loop-made.place _ c.in-Some.ensures ∙ row_goes _ _ _ c.in-Ok.ensures)

pub returns : goal.returns
returns c =
    let over : c.args.steps ≡ c.loop-made.made = omega (arith, c.loop-made-test.false, c.loop-made.auto.made-end) in
    rw over (subst (λ (x : MachineState). RunsTo c.loop-made.made c.args.self.now (go x c.loop-made.place)) (sym c.self-2.view_is) c.loop-made.invariant)
