-- Runs of lines by a machine with delayed branches: it does the row behind each jump or branch, in
-- its slot, before it goes on. As with runs without slots no address of code is known.
use Rattle.std.specs.Prelude.{ℕ, zero, suc, List, [], ◌∷◌, Option, Some, None, codes, pos}
use Rattle.tg_machine_state.specs.declared.ends.RunEnd.{RunEnd}
use Rattle.tg_machine_state.specs.declared.ends.RunEnd.TheVariants.{Exit}
use Rattle.tg_machine_state.specs.State.{MachineState, register, initial_machine, statics_base}
use Rattle.tg_machine_state.specs.Services as step
use Rattle.tg_machine_state.specs.Services.{Step, answered}
use Rattle.tg_simulation.specs.Runs.{Run}
use Rattle.tg_simulation.specs.Ran.{Ran, Ended, WantsFuel, Wrong, stops, writes, works}
use Rattle.tg_isa.specs.declared.mips.Mips.{Mips}
use Rattle.tg_isa.specs.declared.mips.Mips.TheVariants.{Jr}
use Rattle.tg_isa.specs.Effects.{effect}
use Rattle.tg_isa.specs.ImageRuns.{first_byte, later_bytes}
use Rattle.tg_tree.specs.declared.fragments.Literal.{Literal}
use Rattle.tg_emit.specs.declared.assembly.Line.{Line}
use Rattle.tg_emit.specs.declared.assembly.Line.TheVariants.{Label, One, La, Statics}
use Rattle.tg_emit_proof.specs.LinesRun as plain
use Rattle.tg_emit_proof.specs.LinesRun.{Place, left, at_zero, Returns}
use Rattle.tg_emit_proof.specs.LinesRun.{Way, Straight, Leads, Untaken}
use Rattle.tg_emit_proof.specs.LinesRun.{behind, place_of, goes_halfway, statics_of, address_from}

-- what is left behind the slot at the head of lines
abbrev pub behind_slot : List Line → Option Place
behind_slot (Label name ∷ rest) = behind_slot rest
behind_slot (One one target ∷ rest) = Some (left rest)
behind_slot _ = None

abbrev pub over_slot : Option Place → Option Place
over_slot (Some (left rest)) = behind_slot rest
over_slot (Some at_zero) = Some at_zero
over_slot None = None

-- Where a run is: at a place; or in the slot at the head of what is left, behind which it goes on
-- at a place, where there is one.
pub data Point : Type 0 where
  at : Place → Point
  in_slot : (rest : List Line) → (onto : Option Place) → Point

pub data Did : Type 0 where
  Goes : Point → MachineState → Did
  Ends : RunEnd → Did
  Reads : Point → MachineState → Did
  Writes : List ℕ → Point → MachineState → Did
  Strays : Did

-- a row that goes straight on to a place, where there is one
abbrev pub onward : Step → Option Place → Did
onward (step.Ends e) to = Ends e
onward (step.Goes s) (Some p) = Goes (at p) s
onward (step.Reads s) (Some p) = Reads (at p) s
onward (step.Writes bytes s) (Some p) = Writes bytes (at p) s
onward m None = Strays

-- the first half of a literal's address
abbrev pub halfway : plain.Did → Did
halfway (plain.Goes p s) = Goes (at p) s
halfway _ = Strays

-- a row outside of slots, and in one, where none may control
abbrev pub row_does : Way → Mips → (rest : List Line) → MachineState → Did
row_does Straight one rest s = onward (effect one s) (Some (left rest))
row_does (Leads to t) one rest s = Goes (in_slot rest to) t
row_does Untaken one rest s = Goes (in_slot rest (behind_slot rest)) s

abbrev pub slot_does : Way → Mips → (onto : Option Place) → MachineState → Did
slot_does Straight one onto s = onward (effect one s) onto
slot_does _ one onto s = Strays

-- a jump to the word of a call goes on behind the call's slot
module _ (returns : Returns) (lines : List Line) where
  abbrev pub way : Mips → (target : List ℕ) → (rest : List Line) → MachineState → Way
  way (Jr rs) target rest s = Leads (over_slot (place_of returns (register s rs) lines)) s
  way one target rest s = plain.way returns lines one target rest s

module _ (returns : Returns) (lines : List Line) (literals : List Literal) where
  abbrev pub lines_do : List Line → MachineState → Did
  lines_do [] s = Strays
  lines_do (Label name ∷ rest) s = lines_do rest s
  lines_do (One one target ∷ rest) s =
      row_does (way returns lines one target rest s) one rest s
  lines_do (La r name ∷ rest) s =
      halfway (goes_halfway r (address_from statics_base name literals) rest s)
  lines_do (Statics bytes ∷ rest) s = Strays

  abbrev pub slot_do : List Line → (onto : Option Place) → MachineState → Did
  slot_do (Label name ∷ rest) onto s = slot_do rest onto s
  slot_do (One one target ∷ rest) onto s =
      slot_does (way returns lines one target rest s) one onto s
  slot_do _ onto s = Strays

  abbrev pub step_of : Point → MachineState → Did
  step_of (at (left rest)) s = lines_do rest s
  step_of (at at_zero) s = Ends (Exit (pos 0))
  step_of (in_slot rest onto) s = slot_do rest onto s

  -- a row takes a unit of fuel, and is a unit of work
  abbrev pub delayed_going : Point → MachineState → (input : List ℕ) → Run Ran
  delayed_going p s input zero = stops input WantsFuel
  delayed_going p s input (suc n) = works 1 (elim (step_of p s) as (λ _. Ran) [
    | Goes q t ↦ delayed_going q t input n
    | Ends e ↦ stops input (Ended e)
    | Reads q t ↦ delayed_going q (answered t (first_byte input)) (later_bytes input) n
    | Writes bytes q t ↦ writes bytes (delayed_going q t input n)
    | Strays ↦ stops input Wrong
  ])

  abbrev pub going_from : Option Place → MachineState → (input : List ℕ) → Run Ran
  going_from (Some p) s input n = delayed_going (at p) s input n
  going_from None s input n = stops input Wrong

  -- from the label of the program's body on
  abbrev pub delayed_run : (input : List ℕ) → (heap stack : ℕ) → Run Ran
  delayed_run input heap stack =
      going_from (behind (codes "main") lines)
      (initial_machine [] (statics_of literals) 0 heap stack) input
