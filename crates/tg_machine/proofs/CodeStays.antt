-- No step changes the code.
use Rattle.std.proofs.Common.{◌≡◌, ℕ, zero, suc, List, [], Bool, true, false, Option, refl, sym, ap, ◌∙◌, subst}
use Rattle.std.specs.Prelude.{Result, Ok, Err, ◌==◌}
use Rattle.tg_machine_state.specs.declared.ends.RunEnd.{RunEnd}
use Rattle.tg_machine_state.specs.declared.ends.RunEnd.TheVariants.{StepLimit}
use Rattle.tg_machine_state.specs.State.{MachineState, register, set_register, go}
use Rattle.tg_machine_state.specs.Services.{Step, Goes, Ends, Reads, Writes, answered}
use Rattle.tg_base.specs.Words.{add, less}
use Rattle.tg_isa.specs.declared.mips.Mips.{Mips}
use Rattle.tg_isa.specs.declared.mips.Mips.TheVariants as row
use Rattle.tg_isa.specs.Effects.{step, effect, fetch, performed, branch_if, branch_unless}
use Rattle.tg_isa.specs.Runs.{Execution, Progress, Running, Ended, proceed, run, first_answer}
use Rattle.tg_isa.specs.laws.Anywhere.{step_on, IsStraight}
use Rattle.tg_isa.proofs.Anywhere.{effect_on, set_on, answered_on}
use Rattle.tg_machine.specs.Machines.{Simulated}
use Rattle.tg_machine.specs.Ran.{IsSimulation}
use Rattle.tg_machine.proofs.Reached.{none_follows}
use Rattle.tg_machine.proofs.Runs.{go_on, run_suc}

-- what a step goes on in has this code
abbrev Has : List ℕ → Step → Type 0
Has code (Goes s) = s.code ≡ code
Has code (Ends e) = Unit {0}
Has code (Reads s) = s.code ≡ code
Has code (Writes bytes s) = s.code ≡ code

has_on : (code : List ℕ) (place : ℕ) (d : Step) → Has code (step_on code place d)
has_on code place (Goes s) = refl
has_on code place (Ends e) = tt
has_on code place (Reads s) = refl
has_on code place (Writes bytes s) = refl

straight : (one : Mips) (s : MachineState) → IsStraight one → Has s.code (effect one s)
straight one s h = subst (Has s.code) (sym (effect_on s.code s.place one s h)) (has_on s.code s.place (effect one s))

set_code : (s : MachineState) (r v : ℕ) → (set_register s r v).code ≡ s.code
set_code s r v = ap (λ (x : MachineState). x.code) (set_on s.code s.place s r v)

branch_code : (b : Bool) (s : MachineState) (n : ℕ) → Has s.code (branch_if b s n)
branch_code true s n = refl
branch_code false s n = refl

unless_code : (b : Bool) (s : MachineState) (n : ℕ) → Has s.code (branch_unless b s n)
unless_code true s n = refl
unless_code false s n = refl

effect_code : (one : Mips) (s : MachineState) → Has s.code (effect one s)
effect_code (row.J n) s = refl
effect_code (row.Jal n) s = set_code s 31 s.place
effect_code (row.Jr rs) s = refl
effect_code (row.Jalr rd rs) s = set_code s rd s.place
effect_code (row.Beq rs rt n) s = branch_code (register s rs == register s rt) s n
effect_code (row.Bne rs rt n) s = unless_code (register s rs == register s rt) s n
effect_code (row.Blez rs n) s = unless_code (less 0 (register s rs)) s n
effect_code (row.Bgtz rs n) s = branch_code (less 0 (register s rs)) s n
effect_code (row.Bltz rs n) s = branch_code (less (register s rs) 0) s n
effect_code (row.Bgez rs n) s = unless_code (less (register s rs) 0) s n
effect_code row.Syscall s = straight row.Syscall s tt
effect_code (row.Break n) s = tt
effect_code (row.Sll rd rt n) s = straight (row.Sll rd rt n) s tt
effect_code (row.Srl rd rt n) s = straight (row.Srl rd rt n) s tt
effect_code (row.Sra rd rt n) s = straight (row.Sra rd rt n) s tt
effect_code (row.Mfhi rd) s = straight (row.Mfhi rd) s tt
effect_code (row.Mflo rd) s = straight (row.Mflo rd) s tt
effect_code (row.Mult rs rt) s = straight (row.Mult rs rt) s tt
effect_code (row.Div rs rt) s = straight (row.Div rs rt) s tt
effect_code (row.Add rd rs rt) s = straight (row.Add rd rs rt) s tt
effect_code (row.Sub rd rs rt) s = straight (row.Sub rd rs rt) s tt
effect_code (row.Addu rd rs rt) s = straight (row.Addu rd rs rt) s tt
effect_code (row.Subu rd rs rt) s = straight (row.Subu rd rs rt) s tt
effect_code (row.And rd rs rt) s = straight (row.And rd rs rt) s tt
effect_code (row.Or rd rs rt) s = straight (row.Or rd rs rt) s tt
effect_code (row.Xor rd rs rt) s = straight (row.Xor rd rs rt) s tt
effect_code (row.Nor rd rs rt) s = straight (row.Nor rd rs rt) s tt
effect_code (row.Slt rd rs rt) s = straight (row.Slt rd rs rt) s tt
effect_code (row.Sltu rd rs rt) s = straight (row.Sltu rd rs rt) s tt
effect_code (row.Addi rt rs n) s = straight (row.Addi rt rs n) s tt
effect_code (row.Addiu rt rs n) s = straight (row.Addiu rt rs n) s tt
effect_code (row.Slti rt rs n) s = straight (row.Slti rt rs n) s tt
effect_code (row.Sltiu rt rs n) s = straight (row.Sltiu rt rs n) s tt
effect_code (row.Andi rt rs n) s = straight (row.Andi rt rs n) s tt
effect_code (row.Ori rt rs n) s = straight (row.Ori rt rs n) s tt
effect_code (row.Xori rt rs n) s = straight (row.Xori rt rs n) s tt
effect_code (row.Lui rt n) s = straight (row.Lui rt n) s tt
effect_code (row.Lb rt n rs) s = straight (row.Lb rt n rs) s tt
effect_code (row.Lbu rt n rs) s = straight (row.Lbu rt n rs) s tt
effect_code (row.Lw rt n rs) s = straight (row.Lw rt n rs) s tt
effect_code (row.Sb rt n rs) s = straight (row.Sb rt n rs) s tt
effect_code (row.Sw rt n rs) s = straight (row.Sw rt n rs) s tt

step_code : (s : MachineState) → Has s.code (step s)
step_code s = by (fetch s)
  where
    by : (f : Result Mips RunEnd) → Has s.code (performed s f)
    by (Ok one) = effect_code one (go s (add s.place 4))
    by (Err e) = tt

proceed_code : (w v : Execution) (d : Step) → Has w.machine.code d → proceed w d ≡ Running v → v.machine.code ≡ w.machine.code
proceed_code w v (Goes s) h p = cc (h, p)
proceed_code w v (Ends e) h p = cc p
proceed_code w v (Reads s) h p =
    let a : (answered s (first_answer w.input)).code ≡ s.code =
    ap (λ (x : MachineState). x.code) (answered_on s.code s.place s (first_answer w.input)) in
    cc (h, p, a)
proceed_code w v (Writes bytes s) h p = cc (h, p)

-- so after a run the code is what it was
pub run_code : (n : ℕ) (w v : Execution) → run n w ≡ Running v → v.machine.code ≡ w.machine.code
run_code zero w v h = cc h
run_code (suc n) w v h = by (proceed w (step w.machine)) refl (sym (run_suc n w) ∙ h) (run_code n)
  where
    by : (o : Progress) → proceed w (step w.machine) ≡ o → go_on n o ≡ Running v →
        ((u x : Execution) → run n u ≡ Running x → x.machine.code ≡ u.machine.code) → v.machine.code ≡ w.machine.code
    by (Running u) p r ih = ih u v r ∙ proceed_code w u (step w.machine) (step_code w.machine) p
    by (Ended e u) p r ih = cc r

pub code_stays : {I O : Type 0} (left : I → Option (List ℕ)) (read_faults : I → ℕ) (taken : O → Option (List ℕ)) (write_faults : O → ℕ)
    (n : ℕ) (old new : Simulated) (input input' : I) (out out' : O) →
    IsSimulation left read_faults taken write_faults n old new input input' out out' StepLimit → new.state.code ≡ old.state.code
code_stays left read_faults taken write_faults n old new input input' out out' s =
    let g = s.goes_on refl in
    ap (λ (x : MachineState). x.code) g.state ∙ run_code n _ _ (g.running [] (none_follows new.input_ended))
