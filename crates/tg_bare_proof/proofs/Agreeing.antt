-- Agreement with a source goes on from the lines to the machine with delayed branches.
use Rattle.std.proofs.Common.{◌≡◌, ◌≢◌, sym, ◌∙◌, subst}
use Rattle.tg_simulation.specs.Ran.{Wrong}
use Rattle.tg_simulation.specs.Preserving.{DoesTheSame}
use Rattle.tg_simulation.specs.laws.Laws.{AgreementGoesOn, FullStackGoesOn}
use Rattle.tg_bare.specs.BareRuns.{BareStaysOver}
use Rattle.tg_delay.specs.Filling.{delayed}
use Rattle.tg_delay_proof.specs.DelayedRun.{delayed_run}
use Rattle.tg_delay_proof.specs.laws.Laws.{DelayingKeepsRuns, returns_behind_slots}
use Rattle.tg_bare_proof.specs.laws.Laws.{DelayedRunOnTheMachine, LinesKeepOnTheMachine, DelayedLinesAgree}
use Rattle.tg_bare_proof.proofs.Keeping.{delayed_without}

pub lines_keep_on_the_machine : DelayingKeepsRuns → DelayedRunOnTheMachine → LinesKeepOnTheMachine
lines_keep_on_the_machine keeps there lines ls input heap stack gives without has =
    record {
      there = λ n right.
          let x = (keeps (returns_behind_slots (delayed lines)) lines ls input heap stack gives).there n right in
          let right' : (delayed_run (returns_behind_slots (delayed lines)) (delayed lines) ls input heap stack x.0).stop ≢ Wrong =
          λ e. right (sym x.2.stop ∙ e) in
          let e = there (delayed lines) ls input heap stack x.0 has (delayed_without lines without) right' in
          (x.0, x.1, subst (DoesTheSame 4 0 _) (sym e) x.2);
    }

pub delayed_lines_agree : AgreementGoesOn → FullStackGoesOn → BareStaysOver → LinesKeepOnTheMachine → DelayedLinesAgree
delayed_lines_agree goes_on full stay keep a b source lines ls input heap stack gives without has agrees fills =
    let p = keep lines ls input heap stack gives without has in (
      goes_on a b 4 0 source _ _ agrees p (stay _ input),
      full stack 4 0 source _ _ fills p,
    )
