-- Runs of the lines of an assembly, row by row, in which no address of code is known: a place is
-- what is left of the lines, and the word that a call puts into $ra is told by the number of calls
-- that stand after it.
use Rattle.std.specs.Prelude.{ℕ, zero, suc, ◌+◌, ◌*◌, ◌/◌, ◌%◌, ◌==◌, List, [], ◌∷◌, ◌++◌}
use Rattle.std.specs.Prelude.{length, Bool, Option, Some, None, if◌then◌else◌, codes, pos}
use Rattle.std.specs.Str.{bytes_eq}
use Rattle.tg_machine_state.specs.declared.ends.RunEnd.{RunEnd}
use Rattle.tg_machine_state.specs.declared.ends.RunEnd.TheVariants.{Exit}
use Rattle.tg_base.specs.Words.{less}
use Rattle.tg_machine_state.specs.State.{MachineState, register, set_register, initial_machine}
use Rattle.tg_machine_state.specs.State.{padded}
use Rattle.tg_machine_state.specs.State.{statics_base}
use Rattle.tg_machine_state.specs.Services as step
use Rattle.tg_machine_state.specs.Services.{Step, answered}
use Rattle.tg_simulation.specs.Runs.{Run}
use Rattle.tg_simulation.specs.Ran.{Ran, Ended, WantsFuel, Wrong, stops, writes, works}
use Rattle.tg_isa.specs.declared.mips.Mips.{Mips}
use Rattle.tg_isa.specs.declared.mips.Mips.TheVariants.{Jr, Jalr, J, Jal, Beq, Bne, Blez, Bgtz}
use Rattle.tg_isa.specs.declared.mips.Mips.TheVariants.{Bltz, Bgez, Ori}
use Rattle.tg_isa.specs.Effects.{effect}
use Rattle.tg_isa.specs.ImageRuns.{first_byte, later_bytes}
use Rattle.tg_tree.specs.declared.fragments.Literal.{Literal}
use Rattle.tg_emit.specs.declared.assembly.Line.{Line}
use Rattle.tg_emit.specs.declared.assembly.Line.TheVariants.{Label, One, La, Statics}
use Rattle.tg_emit.specs.mirror.Names.{literal_name}
use Rattle.tg_emit.specs.mirror.Lines.{alone}

-- Where a run is: what is left of the lines, or place 0, at which a run ends.
pub data Place : Type 0 where
  left : List Line → Place
  at_zero : Place

-- the lines after a label
abbrev pub behind : (name : List ℕ) → List Line → Option Place
behind name [] = None
behind name (Label other ∷ rest) =
    if bytes_eq name other then Some (left rest) else behind name rest
behind name (_ ∷ rest) = behind name rest

-- the calls of lines
abbrev pub calls : List Line → ℕ
calls [] = 0
calls (One (Jal n) target ∷ rest) = 1 + calls rest
calls (_ ∷ rest) = calls rest

-- The words that calls put into $ra, by the number of calls after each: where a text stands in
-- memory tells them, and nothing else is known of it here.
abbrev pub Returns : Type 0
Returns = (calls_behind : ℕ) → ℕ

-- a jump to a word goes back to what comes after the call that has put it there
abbrev pub behind_call : Returns → (word : ℕ) → List Line → Option Place
behind_call returns v [] = None
behind_call returns v (One (Jal n) target ∷ rest) =
    if returns (calls rest) == v then Some (left rest) else behind_call returns v rest
behind_call returns v (_ ∷ rest) = behind_call returns v rest

abbrev pub place_of : Returns → (word : ℕ) → List Line → Option Place
place_of returns v lines = if v == 0 then Some at_zero else behind_call returns v lines

-- literals stand in the statics in their order, each at a multiple of 4
abbrev pub address_from : (at : ℕ) → (name : List ℕ) → List Literal → Option ℕ
address_from at name [] = None
address_from at name (l ∷ ls) =
    if bytes_eq name (literal_name l.label.0) then Some at else
    address_from (at + length (padded l.text)) name ls

abbrev pub statics_of : List Literal → List ℕ
statics_of [] = []
statics_of (l ∷ ls) = padded l.text ++ statics_of ls

-- What a row is for the way of a run: it goes on after itself, by its effect in the table; or it
-- controls: it leads to a place, where there is one, or isn't taken.
pub data Way : Type 0 where
  Straight : Way
  Leads : Option Place → MachineState → Way
  Untaken : Way

abbrev pub leads_if : Bool → Option Place → MachineState → Way
leads_if b to s = if b then Leads to s else Untaken

abbrev pub leads_unless : Bool → Option Place → MachineState → Way
leads_unless b to s = if b then Untaken else Leads to s

-- What a row does: as a step of the machine, with a place; or it goes wrong.
pub data Did : Type 0 where
  Goes : Place → MachineState → Did
  Ends : RunEnd → Did
  Reads : Place → MachineState → Did
  Writes : List ℕ → Place → MachineState → Did
  Strays : Did

abbrev pub onward : Step → Place → Did
onward (step.Goes s) p = Goes p s
onward (step.Ends e) p = Ends e
onward (step.Reads s) p = Reads p s
onward (step.Writes bytes s) p = Writes bytes p s

abbrev pub goes_to : Option Place → MachineState → Did
goes_to (Some p) s = Goes p s
goes_to None s = Strays

-- the address of a literal into a register is two rows, of which the second is left then
abbrev pub goes_halfway : (register : ℕ) → Option ℕ → List Line → MachineState → Did
goes_halfway r (Some a) rest s =
    Goes (left (alone (Ori r r (a % 65536)) ∷ rest)) (set_register s r (a / 65536 * 65536))
goes_halfway r None rest s = Strays

-- a row with its label and what stands after it, in a state whose code and place mean nothing
module _ (returns : Returns) (lines : List Line) where
  abbrev pub way : Mips → (target : List ℕ) → (rest : List Line) → MachineState → Way
  way (J n) target rest s = Leads (behind target lines) s
  way (Jal n) target rest s =
      Leads (behind target lines) (set_register s 31 (returns (calls rest)))
  way (Jr rs) target rest s = Leads (place_of returns (register s rs) lines) s
  way (Jalr rd rs) target rest s = Leads None s
  way (Beq rs rt n) target rest s =
      leads_if (register s rs == register s rt) (behind target lines) s
  way (Bne rs rt n) target rest s =
      leads_unless (register s rs == register s rt) (behind target lines) s
  way (Blez rs n) target rest s = leads_unless (less 0 (register s rs)) (behind target lines) s
  way (Bgtz rs n) target rest s = leads_if (less 0 (register s rs)) (behind target lines) s
  way (Bltz rs n) target rest s = leads_if (less (register s rs) 0) (behind target lines) s
  way (Bgez rs n) target rest s = leads_unless (less (register s rs) 0) (behind target lines) s
  way one target rest s = Straight

abbrev pub row_does : Way → Mips → (rest : List Line) → MachineState → Did
row_does Straight one rest s = onward (effect one s) (left rest)
row_does (Leads to t) one rest s = goes_to to t
row_does Untaken one rest s = Goes (left rest) s

-- The run, of lines and the literals whose addresses they take.
module _ (returns : Returns) (lines : List Line) (literals : List Literal) where
  abbrev pub lines_do : List Line → MachineState → Did
  lines_do [] s = Strays
  lines_do (Label name ∷ rest) s = lines_do rest s
  lines_do (One one target ∷ rest) s =
      row_does (way returns lines one target rest s) one rest s
  lines_do (La r name ∷ rest) s =
      goes_halfway r (address_from statics_base name literals) rest s
  lines_do (Statics bytes ∷ rest) s = Strays

  abbrev pub step_of : Place → MachineState → Did
  step_of (left rest) s = lines_do rest s
  step_of at_zero s = Ends (Exit (pos 0))

  -- a row takes a unit of fuel, and is a unit of work
  abbrev pub lines_going : Place → MachineState → (input : List ℕ) → Run Ran
  lines_going p s input zero = stops input WantsFuel
  lines_going p s input (suc n) = works 1 (elim (step_of p s) as (λ _. Ran) [
    | Goes q t ↦ lines_going q t input n
    | Ends e ↦ stops input (Ended e)
    | Reads q t ↦ lines_going q (answered t (first_byte input)) (later_bytes input) n
    | Writes bytes q t ↦ writes bytes (lines_going q t input n)
    | Strays ↦ stops input Wrong
  ])

  abbrev pub going_from : Option Place → MachineState → (input : List ℕ) → Run Ran
  going_from (Some p) s input n = lines_going p s input n
  going_from None s input n = stops input Wrong

  -- from the label of the program's body on
  abbrev pub lines_run : (input : List ℕ) → (heap stack : ℕ) → Run Ran
  lines_run input heap stack =
      going_from (behind (codes "main") lines)
      (initial_machine [] (statics_of literals) 0 heap stack) input
