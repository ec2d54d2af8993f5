-- Where instructions run, and what a choice's instructions come to.
use Rattle.std.specs.Prelude.{ℕ, ◌≡◌, List, ◌∷◌, ◌++◌, Some}
use Rattle.tg_machine_state.specs.declared.ends.RunEnd.{RunEnd}
use Rattle.tg_simulation.specs.Runs.{Run}
use Rattle.tg_simulation.specs.Ran.{Ran, Ended, Wrong}
use Rattle.tg_simulation.specs.laws.Simulating.{Comes}
use Rattle.tg_tree.specs.Tree.{Function, Code}
use Rattle.tg_tree.specs.Operators.{Given, word, stops_by}
use Rattle.tg_tree.specs.Actions.{World, Activation, over}
use Rattle.tg_instr.specs.declared.instr.Instr.{Instr}
use Rattle.tg_instr.specs.declared.instr.Instr.TheVariants.{Mark}
use Rattle.tg_instr.specs.Contents.{Contents}
use Rattle.tg_instr.specs.Meaning.{Back}
use Rattle.tg_instr.specs.Running.{Units, CodePoint, behind, run_code, code_step, code_going}
use Rattle.tg_munch.specs.mirror.Choosing.{Choice, NumbersDrawn}

-- each instruction counts a unit
abbrev pub each_one : Units
each_one label left one = 1

-- the function whose code is run, in an activation
pub record Place : Type 0 where
  pub code : Code (List Instr)
  pub size : ℕ → ℕ
  pub floor : ℕ
  pub room : ℕ
  pub function : Function (List Instr)
  pub activation : Activation
  pub back : Back

-- what comes of going on with some instructions there
abbrev pub goes : Place → World → List Instr → Contents → Run Ran
goes p x rest s =
    run_code each_one p.code p.size p.floor p.room
    (code_going each_one p.code p.size p.floor p.room)
    p.function rest p.activation p.back x s

-- what stands in the function's code from somewhere on
abbrev pub IsPart : Place → List Instr → Type 0
IsPart p rest = (front : List Instr) × (p.function.body ≡ front ++ rest)

-- what is known of the function's code: after each of its marks stands what stands there, and its
-- runs are their own steps
pub record Walks (p : Place) : Type 0 where
  pub marked :
      (m : ℕ) (rest : List Instr) →
      IsPart p (Mark m ∷ rest) → behind m p.function.body ≡ Some rest
  pub steps :
      (q : CodePoint) (n : ℕ) →
      code_going each_one p.code p.size p.floor p.room q n ≡
      code_step each_one p.code p.size p.floor p.room
      (code_going each_one p.code p.size p.floor p.room) q n

-- A run comes, after at most k units, to one of which this holds with the word that is given, or
-- to the end that is; where what is given goes wrong nothing is said.
pub data Does (w : World) (P : ℕ → Run Ran → Type 0) :
    (k : ℕ) → (c : Run Ran) → Given → Type 0 where
  gives : (k v : ℕ) (c e : Run Ran) → Comes k c e → P v e → Does w P k c (word v)
  ends :
      (k : ℕ) (c : Run Ran) (e : RunEnd) →
      Comes k c (over (Ended e) w) → Does w P k c (stops_by (Ended e))
  unsaid : (k : ℕ) (c : Run Ran) → Does w P k c (stops_by Wrong)

-- where instructions come to
pub record Lands
    (p : Place) (x : World) (Q : Contents → Type 0) (rest : List Instr) (e : Run Ran) :
    Type 0 where
  pub contents : Contents
  pub is : e ≡ goes p x rest contents
  pub holds : Q contents

-- A choice's instructions, before any others in the function's code, come in at most k units from
-- contents to such as a fact holds of, with what the choice gives, what is drawn and the word.
abbrev pub Behaves :
    Place → World → {A : Type 0} → Choice A → NumbersDrawn → Contents → (k : ℕ) → Given →
    (A → NumbersDrawn → ℕ → Contents → Type 0) → Type 0
Behaves p x c d s k g Q =
    (rest : List Instr) → IsPart p ((c d).code ++ rest) →
    Does x (λ v e. Lands p x (Q (c d).value (c d).drawn v) rest e) k
    (goes p x ((c d).code ++ rest) s) g
