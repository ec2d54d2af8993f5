-- When the runs of code agree with those of a source program.
use Rattle.std.specs.Prelude.{ℕ, ◌+◌, ◌*◌, ◌≡◌, ◌≢◌, ◌≤◌, ◌<◌, ◌⊎◌, List, Some}
use Rattle.tg_machine_state.specs.declared.ends.RunEnd.{RunEnd}
use Rattle.tg_machine_state.specs.declared.ends.RunEnd.TheVariants.{StackFull}
use Rattle.tg_simulation.specs.Bytes.{IsPrefix, least_frame}
use Rattle.tg_simulation.specs.Runs.{Run}
use Rattle.tg_simulation.specs.Ran.{Stop, Ended, WantsFuel, Wrong, Ran}
use Rattle.tg_simulation.specs.Outcomes.{End, ended, out_of_fuel, stuck, Outcome}

-- what comes of a source program, with the end of the machine that stands for each ending
abbrev pub Source : Type 0
Source = Outcome RunEnd

-- the code stops as the program is over
abbrev pub Fits : End RunEnd → Stop → Type 0
Fits (ended e) (Ended f) = f ≡ e
Fits out_of_fuel WantsFuel = Unit {0}
Fits _ _ = ⊥

-- The code writes and stops as the program does, within the stack and with work within a times its
-- cost and r units more; or the stack, passed by the weight, cuts it after a prefix of what the
-- program writes. Of a program that is stuck nothing is said.
pub data Matches (stack a r : ℕ) (o : Source) (p : Ran) : Type 0 where
  same :
      p.output ≡ o.output →
      p.input ≡ o.input →
      Fits o.end p.stop →
      least_frame * o.deepest ≤ stack →
      p.work ≤ a * o.cost + r →
      Matches stack a r o p
  cut :
      (past : List ℕ) →
      o.output_past_limit ≡ Some past →
      IsPrefix past p.output →
      IsPrefix p.output o.output →
      p.stop ≡ Ended StackFull →
      p.work ≤ a * o.cost + r →
      Matches stack a r o p
  unsaid : o.end ≡ stuck → Matches stack a r o p

-- as far as n units of fuel, the code's runs with as much fuel or more match the program's
abbrev pub Follows : (stack a r n : ℕ) → Run Source → Run Ran → Type 0
Follows stack a r n c d = (i : ℕ) → i ≤ n → (j : ℕ) × (i ≤ j) × Matches stack a r (c i) (d j)

-- cut by a full stack: after the weight was above it, and before anything else is written
pub record IsCut (a b : ℕ) (o : Source) (p : Ran) : Type 0 where
  pub full : p.stop ≡ Ended StackFull
  pub past : (past : List ℕ) × (o.output_past_limit ≡ Some past) × IsPrefix past p.output
  pub front : IsPrefix p.output o.output
  pub work : p.work ≤ a * o.cost + b

pub record IsSame (a b : ℕ) (o : Source) (p : Ran) (stop : Stop) : Type 0 where
  pub stops : p.stop ≡ stop
  pub output : p.output ≡ o.output
  pub input : p.input ≡ o.input
  pub work : p.work ≤ a * o.cost + b

-- the code with so much fuel is the whole program, which ends so with as much
pub record Ends (o : Source) (p : Ran) (e : RunEnd) : Type 0 where
  pub meets : o.end ≡ ended e
  pub output : p.output ≡ o.output
  pub input : p.input ≡ o.input

-- The runs of a program and those of its code, both ways: with work within a times the cost, and b
-- units more.
pub record Agrees (a b : ℕ) (c : Run Source) (d : Run Ran) : Type 0 where
  pub ends :
      (n : ℕ) (e : RunEnd) →
      (c n).end ≡ ended e →
      (m : ℕ) × (IsSame a b (c n) (d m) (Ended e) ⊎ IsCut a b (c n) (d m))
  pub goes_on :
      (n : ℕ) →
      (c n).end ≡ out_of_fuel →
      (m : ℕ) × (n ≤ m) × (IsSame a b (c n) (d m) WantsFuel ⊎ IsCut a b (c n) (d m))
  pub ends_only :
      (m : ℕ) (e : RunEnd) →
      (d m).stop ≡ Ended e →
      e ≢ StackFull →
      Ends (c m) (d m) e
  pub full_only : (m : ℕ) → (d m).stop ≡ Ended StackFull → IsCut a b (c m) (d m)
  pub never_wrong : (m : ℕ) → (d m).stop ≢ Wrong

-- where the program's calls are so deep that their frames can't all be within the stack, the code
-- ends by a full stack
pub record FillsStack (stack : ℕ) (c : Run Source) (d : Run Ran) : Type 0 where
  pub fills :
      (n : ℕ) →
      stack < least_frame * (c n).deepest →
      (m : ℕ) × ((d m).stop ≡ Ended StackFull)
