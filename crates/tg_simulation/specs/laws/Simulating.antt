-- How the steps of code after a pass follow those of the code before it, and how code comes to
-- other code by steps of its own.
use Rattle.std.specs.Prelude.{ℕ, ◌+◌, ◌*◌, ◌≡◌, ◌≢◌, ◌≤◌, ◌<◌, List}
use Rattle.tg_simulation.specs.Runs.{Run, turn}
use Rattle.tg_simulation.specs.Ran.{Ran, Stop, WantsFuel, Wrong, stops, writes, works}
use Rattle.tg_simulation.specs.Preserving.{DoesTheSame, Preserves}
use Rattle.tg_simulation.specs.Agreement.{Source, Follows}

-- as far as n units of fuel, each run before the pass that doesn't go wrong is one after it, with
-- as much fuel or more, and with at most a times the work and r units more
abbrev pub Simulates : (a r n : ℕ) → Run Ran → Run Ran → Type 0
Simulates a r n c d =
    (i : ℕ) → i ≤ n → (c i).stop ≢ Wrong → (j : ℕ) × (i ≤ j) × DoesTheSame a r (c i) (d j)

-- The first run comes to the second: with as much fuel or more it does the same after at most k
-- units of work, as where a loop of the runtime has gone round.
abbrev pub Comes : (k : ℕ) → Run Ran → Run Ran → Type 0
Comes k d e = (i : ℕ) → (j : ℕ) × (i ≤ j) × (m : ℕ) × (m ≤ k) × (d j ≡ works m (e i))

-- Simulation, with as much fuel as one likes, is what a pass promises.
abbrev pub SimulationPreserves : Type 0
SimulationPreserves =
    (a b : ℕ) (c d : Run Ran) →
    ((n : ℕ) → Simulates a b n c d) →
    Preserves a b c d

-- Both stop, write, or use a unit of fuel.

abbrev pub SimulatesStopping : Type 0
SimulatesStopping =
    (a r n : ℕ) (input : List ℕ) (stop : Stop) →
    Simulates a r n (λ i. stops input stop) (λ j. stops input stop)

abbrev pub SimulatesWriting : Type 0
SimulatesWriting =
    (a r n : ℕ) (bytes : List ℕ) (c d : Run Ran) →
    Simulates a r n c d →
    Simulates a r n (λ i. writes bytes (c i)) (λ j. writes bytes (d j))

abbrev pub SimulatesTurn : Type 0
SimulatesTurn =
    (a r n : ℕ) (input : List ℕ) (c d : Run Ran) →
    ((m : ℕ) → m < n → Simulates a r m c d) →
    Simulates a r n (turn (stops input WantsFuel) c) (turn (stops input WantsFuel) d)

-- the code after the pass alone uses one
abbrev pub SimulatesTurnBehind : Type 0
SimulatesTurnBehind =
    (a r n : ℕ) (none : Ran) (c d : Run Ran) →
    Simulates a r n c d →
    Simulates a r n c (turn none d)

-- work of the code before the pass pays for what the code after it may do
abbrev pub SimulatesPaying : Type 0
SimulatesPaying =
    (a r n k : ℕ) (c d : Run Ran) →
    Simulates a (r + a * k) n c d →
    Simulates a r n (λ i. works k (c i)) d

abbrev pub SimulatesWorking : Type 0
SimulatesWorking =
    (a r n k : ℕ) (c d : Run Ran) →
    Simulates a r n c d →
    Simulates a (r + k) n c (λ j. works k (d j))

-- Credit for credit: both work, and what was paid, or was allowed to the code after the pass, is
-- taken back as credit.

abbrev pub SimulatesTrading : Type 0
SimulatesTrading =
    (a r s n k l : ℕ) (c d : Run Ran) →
    s + l ≤ r + a * k →
    Simulates a s n c d →
    Simulates a r n (λ i. works k (c i)) (λ j. works l (d j))

abbrev pub SimulatesUnpaid : Type 0
SimulatesUnpaid =
    (a r s n k : ℕ) (c d : Run Ran) →
    r + a * k ≤ s →
    Simulates a r n (λ i. works k (c i)) d →
    Simulates a s n c d

abbrev pub SimulatesReworking : Type 0
SimulatesReworking =
    (a r s n k l : ℕ) (c d : Run Ran) →
    s + l ≤ r + k →
    Simulates a s n c (λ j. works k (d j)) →
    Simulates a r n c (λ j. works l (d j))

abbrev pub SimulatesWorkingLess : Type 0
SimulatesWorkingLess =
    (a r n k : ℕ) (c d : Run Ran) →
    Simulates a r n c (λ j. works k (d j)) →
    Simulates a r n c d

abbrev pub SimulatesUntraded : Type 0
SimulatesUntraded =
    (a r s n k l : ℕ) (c d : Run Ran) →
    r + a * k ≤ s + l →
    Simulates a r n (λ i. works k (c i)) (λ j. works l (d j)) →
    Simulates a s n c d

-- of a run that goes wrong nothing is said
abbrev pub SimulatesWrong : Type 0
SimulatesWrong =
    (a r n : ℕ) (c d : Run Ran) →
    ((i : ℕ) → (c i).stop ≡ Wrong) →
    Simulates a r n c d

-- Less fuel, more credit, and equal runs.

abbrev pub SimulatesLess : Type 0
SimulatesLess =
    (a r m n : ℕ) (c d : Run Ran) →
    m ≤ n →
    Simulates a r n c d →
    Simulates a r m c d

abbrev pub SimulatesWithCredit : Type 0
SimulatesWithCredit =
    (a r s n : ℕ) (c d : Run Ran) →
    r ≤ s →
    Simulates a r n c d →
    Simulates a s n c d

abbrev pub SimulatesAlong : Type 0
SimulatesAlong =
    (a r n : ℕ) (c c' d d' : Run Ran) →
    ((i : ℕ) → c' i ≡ c i) →
    ((i : ℕ) → d' i ≡ d i) →
    Simulates a r n c d →
    Simulates a r n c' d'

-- Code that comes to such code, after a pass and after a program.

abbrev pub SimulatesComing : Type 0
SimulatesComing =
    (a r n k : ℕ) (c d e : Run Ran) →
    Comes k d e →
    Simulates a r n c e →
    Simulates a (r + k) n c d

abbrev pub FollowsComing : Type 0
FollowsComing =
    (stack a r n k : ℕ) (c : Run Source) (d e : Run Ran) →
    Comes k d e →
    Follows stack a r n c e →
    Follows stack a (r + k) n c d

-- How code comes to other code: it is there, goes on from there, writes, works, or uses fuel.

abbrev pub ComesItself : Type 0
ComesItself = (d : Run Ran) → Comes 0 d d

abbrev pub ComesOn : Type 0
ComesOn =
    (k l : ℕ) (c d e : Run Ran) →
    Comes k c d →
    Comes l d e →
    Comes (k + l) c e

abbrev pub ComesWriting : Type 0
ComesWriting =
    (k : ℕ) (bytes : List ℕ) (d e : Run Ran) →
    Comes k d e →
    Comes k (λ j. writes bytes (d j)) (λ i. writes bytes (e i))

abbrev pub ComesWorking : Type 0
ComesWorking =
    (k l : ℕ) (d e : Run Ran) →
    Comes k d e →
    Comes (l + k) (λ j. works l (d j)) e

abbrev pub ComesTurn : Type 0
ComesTurn =
    (k : ℕ) (none : Ran) (d e : Run Ran) →
    Comes k d e →
    Comes k (turn none d) e
