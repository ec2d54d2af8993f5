-- The induction over code and fuel, where each instruction goes on.
use Rattle.std.proofs.Common.{ℕ, zero, suc, ◌<◌, ◌-◌, List, [], ◌∷◌, refl, arith}
use Rattle.tg_machine_state.specs.State.{MachineState, stack_top}
use Rattle.tg_simulation.specs.laws.Simulating.{Simulates}
use Rattle.tg_simulation.proofs.Simulations.{simulates_wrong, simulates_along}
use Rattle.tg_tree.specs.Actions.{World, Activation}
use Rattle.tg_tree.specs.Tree.{Function}
use Rattle.tg_instr.specs.declared.instr.Instr.{Instr}
use Rattle.tg_instr.specs.Contents.{Contents}
use Rattle.tg_instr.specs.Meaning.{Back}
use Rattle.tg_emit.specs.declared.assembly.Line.{Line}
use Rattle.tg_instr.proofs.CodeRuns.{code_steps}
use Rattle.tg_emit_proof.specs.Setting.{emitted_units, Setting, from, code_from}
use Rattle.tg_emit_proof.specs.glue.Standing.{Finds, BackGoesOn, Stands, CodeGoesOn, CodeGoesOnByFuel}
use Rattle.tg_emit_proof.specs.glue.Situation.{IsEmitted, point, InstructionsGoOn}

module _ (g : Setting) (known : IsEmitted g) (parts : InstructionsGoOn g) where
  abbrev Goes : (credit n : ℕ) → Type 0
  Goes credit n = CodeGoesOn g credit n

  list_goes_on :
      (credit n : ℕ) (finds : Finds) (found : ℕ → ℕ) (f : Function (List Instr)) (a : Activation) (back : Back) →
      BackGoesOn g credit n finds found a.base back →
      ((m : ℕ) → m < n → Goes credit m) →
      (rest : List Instr) (w : World) (contents : Contents) (here : List Line) (s : MachineState) →
      Stands g finds found (point f rest a back w contents) here s →
      Simulates 1 credit n
      (code_from g f rest a back w contents) (from g here s w.input)
  list_goes_on credit n finds found f a back after less [] w contents here s stands =
      simulates_wrong 1 credit n _ _ (λ i. refl)
  list_goes_on credit n finds found f a back after less (one ∷ rest) w contents here s stands =
      parts one (record {
        known = known;
        credit = credit;
        fuel = n;
        finds = finds;
        found = found;
        function = f;
        rest = rest;
        activation = a;
        back = back;
        world = w;
        contents = contents;
        here = here;
        state = s;
        stands = stands;
        after = after;
        less = less;
        next = list_goes_on credit n finds found f a back after less rest;
      })

  by_fuel : CodeGoesOnByFuel g
  by_fuel credit n less finds found p here s stands after =
      simulates_along 1 credit n _ _ _ _
      (λ i. code_steps emitted_units g.program g.size (stack_top - g.stack) g.room p i) (λ i. refl)
      (list_goes_on credit n finds found p.function p.activation p.back after less p.rest p.world p.contents here s
      stands)

  below : (credit n m : ℕ) → m < n → Goes credit m
  below credit zero m h = absurd (omega (arith, h))
  below credit (suc n) m h = by_fuel credit m (λ k l. below credit n k (omega (arith, h, l)))

  pub code_goes_on : (credit n : ℕ) → Goes credit n
  code_goes_on credit n = below credit (suc n) n (omega arith)
