-- A machine that has ended answers its end again.
use Rattle.std.proofs.Common.{◌≡◌, ◌≢◌, ℕ, List, Option, Some, None, IfSome, refl, subst}
use Rattle.tg_machine_state.specs.declared.ends.RunEnd.{RunEnd}
use Rattle.tg_machine_state.specs.declared.ends.RunEnd.TheVariants.{StepLimit}
use Rattle.tg_machine.specs.declared.status.Status.TheVariants.{Ended}
use Rattle.tg_machine.specs.Machines.{Simulated, HasEnded}
use Rattle.tg_machine.specs.laws.Laws.{HasCalled, EndsAgain, StepsEndAgain}

-- after such a call the machine keeps its end
keeps_end : {I O : Type 0} (left : I → Option (List ℕ)) (read_faults : I → ℕ) (taken : O → Option (List ℕ)) (write_faults : O → ℕ)
    (k : ℕ) (old mid : Simulated) (first input : I) (start out : O) (e : RunEnd) →
    HasCalled left read_faults taken write_faults k old mid first input start out e → e ≢ StepLimit → mid.end ≡ Some e
keeps_end left read_faults taken write_faults k old mid first input start out e h apart = by old.end refl
  where
    by : (o : Option RunEnd) → old.end ≡ o → mid.end ≡ Some e
    by None is = (h.ran is).keeps apart
    by (Some g) is =
        let a = subst (λ x. IfSome x (λ g. (e ≡ g) × HasEnded old mid first input start out)) is h.again in
        rw (a.1.machine, a.0) is

pub ends_again : {I O : Type 0} → EndsAgain I O
ends_again left read_faults taken write_faults k n old mid new first input input' start out out' e f a apart b =
    subst (λ x. IfSome x (λ g. (f ≡ g) × HasEnded mid new input input' out out'))
    (keeps_end left read_faults taken write_faults k old mid first input start out e a apart) b.again

pub steps_end_again : {I O : Type 0} → StepsEndAgain I O
steps_end_again left read_faults taken write_faults k old mid new first input input' start out out' e status a apart b =
    subst (λ x. IfSome x (λ g. (status ≡ Ended g) × HasEnded mid new input input' out out'))
    (keeps_end left read_faults taken write_faults k old mid first input start out e a apart) b.again
