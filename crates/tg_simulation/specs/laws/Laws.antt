-- The laws of passes and of agreement, and how the steps of code follow those of a program.
use Rattle.std.specs.Prelude.{ℕ, ◌+◌, ◌*◌, ◌≡◌, ◌≢◌, ◌≤◌, ◌<◌, List, [], Bool, true}
use Rattle.tg_machine_state.specs.declared.ends.RunEnd.TheVariants.{StackFull}
use Rattle.tg_simulation.specs.Runs.{Run, turn}
use Rattle.tg_simulation.specs.Ran.{Ran, Ended, WantsFuel, stops, writes, works, StaysOver}
use Rattle.tg_simulation.specs.Preserving.{Preserves}
use Rattle.tg_simulation.specs.Changes as change
use Rattle.tg_simulation.specs.Outcomes.{ended, out_of_fuel, stuck}
use Rattle.tg_simulation.specs.Changes.{costs, passes_limit, reaches}
use Rattle.tg_simulation.specs.Bytes.{least_frame}
use Rattle.tg_simulation.specs.Agreement.{Source, Follows, Agrees, FillsStack}

-- what two passes promise, one after the other
abbrev pub PassesCompose : Type 0
PassesCompose =
    (a b k l : ℕ) (c d e : Run Ran) →
    Preserves a b c d →
    Preserves k l d e →
    Preserves (k * a) (k * b + l) c e

-- no program ends by a full stack of its own
abbrev pub NeverEndsFull : Run Source → Type 0
NeverEndsFull c = (n : ℕ) → (c n).end ≢ ended StackFull

abbrev pub NeverStuck : Run Source → Type 0
NeverStuck c = (n : ℕ) → (c n).end ≢ stuck

-- Code that follows a program which is never stuck agrees with it, and calls that are too deep for
-- the stack fill it.

abbrev pub FollowingAgrees : Type 0
FollowingAgrees =
    (stack a b : ℕ) (c : Run Source) (d : Run Ran) →
    NeverEndsFull c →
    NeverStuck c →
    StaysOver d →
    ((n : ℕ) → Follows stack a b n c d) →
    Agrees a b c d

abbrev pub FollowingFills : Type 0
FollowingFills =
    (stack a b : ℕ) (c : Run Source) (d : Run Ran) →
    NeverStuck c →
    ((n : ℕ) → Follows stack a b n c d) →
    FillsStack stack c d

-- And so does what a pass makes of that code.

abbrev pub AgreementGoesOn : Type 0
AgreementGoesOn =
    (a b k l : ℕ) (c : Run Source) (d e : Run Ran) →
    Agrees a b c d →
    Preserves k l d e →
    StaysOver e →
    Agrees (k * a) (k * b + l) c e

abbrev pub FullStackGoesOn : Type 0
FullStackGoesOn =
    (stack k l : ℕ) (c : Run Source) (d e : Run Ran) →
    FillsStack stack c d →
    Preserves k l d e →
    FillsStack stack c e

-- The steps of a simulation. Both write the same bytes.
abbrev pub FollowsWriting : Type 0
FollowsWriting =
    (stack a r n : ℕ) (bytes : List ℕ) (c : Run Source) (d : Run Ran) →
    Follows stack a r n c d →
    Follows stack a r n (λ i. change.writes_first bytes (c i)) (λ j. writes bytes (d j))

-- the program pays for what the code may do
abbrev pub FollowsPaying : Type 0
FollowsPaying =
    (stack a r n k : ℕ) (c : Run Source) (d : Run Ran) →
    Follows stack a (r + a * k) n c d →
    Follows stack a r n (λ i. costs k (c i)) d

abbrev pub FollowsWorking : Type 0
FollowsWorking =
    (stack a r n k : ℕ) (c : Run Source) (d : Run Ran) →
    Follows stack a r n c d →
    Follows stack a (r + k) n c (λ j. works k (d j))

-- the weight passes the limit, or doesn't
abbrev pub FollowsPassing : Type 0
FollowsPassing =
    (stack a r n : ℕ) (above : Bool) (c : Run Source) (d : Run Ran) →
    Follows stack a r n c d →
    Follows stack a r n (λ i. passes_limit above (c i)) d

-- a depth is noted, of which all frames are within the stack
abbrev pub FollowsReaching : Type 0
FollowsReaching =
    (stack a r n depth : ℕ) (c : Run Source) (d : Run Ran) →
    least_frame * depth ≤ stack →
    Follows stack a r n c d →
    Follows stack a r n (λ i. reaches depth (c i)) d

-- where the weight is above the limit the code may end by a full stack
abbrev pub FollowsFull : Type 0
FollowsFull =
    (stack a r n : ℕ) (input : List ℕ) (c : Run Source) →
    Follows stack a r n (λ i. passes_limit true (c i)) (λ j. stops input (Ended StackFull))

-- both use a unit of fuel
abbrev pub FollowsTurn : Type 0
FollowsTurn =
    (stack a r n : ℕ) (none : Source) (input : List ℕ) (c : Run Source) (d : Run Ran) →
    none.end ≡ out_of_fuel →
    none.output ≡ [] →
    none.input ≡ input →
    none.deepest ≡ 0 →
    ((m : ℕ) → m < n → Follows stack a r m c d) →
    Follows stack a r n (turn none c) (turn (stops input WantsFuel) d)

-- the code alone uses one
abbrev pub FollowsTurnOfCode : Type 0
FollowsTurnOfCode =
    (stack a r n : ℕ) (none : Ran) (c : Run Source) (d : Run Ran) →
    Follows stack a r n c d →
    Follows stack a r n c (turn none d)

-- of a stuck program nothing is said
abbrev pub FollowsStuck : Type 0
FollowsStuck =
    (stack a r n : ℕ) (c : Run Source) (d : Run Ran) →
    ((i : ℕ) → (c i).end ≡ stuck) →
    Follows stack a r n c d

-- Less fuel, more credit, and equal runs.

abbrev pub FollowsLess : Type 0
FollowsLess =
    (stack a r m n : ℕ) (c : Run Source) (d : Run Ran) →
    m ≤ n →
    Follows stack a r n c d →
    Follows stack a r m c d

abbrev pub FollowsWithCredit : Type 0
FollowsWithCredit =
    (stack a r s n : ℕ) (c : Run Source) (d : Run Ran) →
    r ≤ s →
    Follows stack a r n c d →
    Follows stack a s n c d

abbrev pub FollowsAlong : Type 0
FollowsAlong =
    (stack a r n : ℕ) (c c' : Run Source) (d d' : Run Ran) →
    ((i : ℕ) → c' i ≡ c i) →
    ((i : ℕ) → d' i ≡ d i) →
    Follows stack a r n c d →
    Follows stack a r n c' d'
