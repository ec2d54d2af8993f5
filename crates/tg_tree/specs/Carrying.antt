-- What a pass promises of one function, from which it follows for a whole code.
use Rattle.std.specs.Prelude.{ℕ, ◌+◌, ◌*◌, ◌≤◌, List, [], ◌∷◌}
use Rattle.tg_frame.specs.declared.accesses.Access.{Access}
use Rattle.tg_simulation.specs.laws.Simulating.{Simulates}
use Rattle.tg_tree.specs.Tree.{Function}
use Rattle.tg_tree.specs.Actions.{World, Temps, Activation, Back}
use Rattle.tg_tree.specs.Meaning.{Enter}
use Rattle.tg_tree.specs.Running.{Runner, begin_in, call_in, outermost}

-- what comes after returns in code after a pass does what comes after them in the code before it
abbrev pub BacksSimulate : (a r n : ℕ) → Back → Back → Type 0
BacksSimulate a r n back back' = (v : ℕ) (w : World) → Simulates a r n (back v w) (back' v w)

-- functions that are entered after a pass do what they do before it, with e units more, if what
-- comes after their returns does
abbrev pub EntersSimulate : (a e n : ℕ) → Enter → Enter → Type 0
EntersSimulate a e n enter enter' =
    (label : ℕ) (vs : List ℕ) (top : ℕ) (back back' : Back) (w : World) (r : ℕ) →
    BacksSimulate a r n back back' →
    Simulates a (r + e) n (enter label vs top back w) (enter' label vs top back' w)

-- For two forms of code, what their calls pay for an entry, what runs their bodies, and their
-- functions.
module _
    {A B : Type 0} (a e : ℕ) (size : ℕ → ℕ) (floor : ℕ) (units units' : ℕ → ℕ)
    (runner : Runner A) (runner' : Runner B)
    (functions : List (Function A)) (functions' : List (Function B)) where
  abbrev pub CallsSimulate : (n : ℕ) → Type 0
  CallsSimulate n =
      EntersSimulate a 0 n
      (call_in units size floor runner functions) (call_in units' size floor runner' functions')

  -- a body is carried: it does what it did, with e units more, if calls with as much fuel or less do
  -- what they did
  abbrev pub BodyCarried : A → B → Type 0
  BodyCarried s s' =
      (n r : ℕ) (activation : Activation) (back back' : Back) (w : World) (t : Temps) →
      ((m : ℕ) → m ≤ n → CallsSimulate m) →
      BacksSimulate a r n back back' →
      Simulates a (r + e) n
      (runner s (outermost activation back) w t) (runner' s' (outermost activation back') w t)

  -- so is each function, which keeps its label, the homes of its parameters and its slots
  pub data AllCarried : List (Function A) → List (Function B) → Type 0 where
    none : AllCarried [] []
    one :
        (label : ℕ) (params : List Access) (slots temps temps' out out' : ℕ) (s : A) (s' : B)
        (fs : List (Function A)) (gs : List (Function B)) →
        BodyCarried s s' →
        AllCarried fs gs →
        AllCarried
        (record {
          label = label;
          params = params;
          slots = slots;
          temps = temps;
          out = out;
          body = s;
        } ∷ fs)
        (record {
          label = label;
          params = params;
          slots = slots;
          temps = temps';
          out = out';
          body = s';
        } ∷ gs)

  -- what calls pay before the pass pays for the e units more
  abbrev pub EntriesPay : Type 0
  EntriesPay = (k : ℕ) → units' k + e ≤ a * units k

  -- where each function is carried, calls do what they did, and so does a program from its first
  -- activation on
  abbrev pub CallsCarried : Type 0
  CallsCarried = EntriesPay → AllCarried functions functions' → (n : ℕ) → CallsSimulate n

  abbrev pub ProgramsCarried : Type 0
  ProgramsCarried =
      EntriesPay → AllCarried functions functions' → (n : ℕ) →
      EntersSimulate a e n
      (begin_in size floor runner functions) (begin_in size floor runner' functions')

-- for any two forms of code
abbrev pub FunctionsCarryCalls : (A B : Type 0) → Type 0
FunctionsCarryCalls A B =
    (a e : ℕ) (size : ℕ → ℕ) (floor : ℕ) (units units' : ℕ → ℕ)
    (runner : Runner A) (runner' : Runner B)
    (functions : List (Function A)) (functions' : List (Function B)) →
    CallsCarried a e size floor units units' runner runner' functions functions'

abbrev pub FunctionsCarryPrograms : (A B : Type 0) → Type 0
FunctionsCarryPrograms A B =
    (a e : ℕ) (size : ℕ → ℕ) (floor : ℕ) (units units' : ℕ → ℕ)
    (runner : Runner A) (runner' : Runner B)
    (functions : List (Function A)) (functions' : List (Function B)) →
    ProgramsCarried a e size floor units units' runner runner' functions functions'
