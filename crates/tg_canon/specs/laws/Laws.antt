-- What the pass promises of the statements that it gives.
use Rattle.std.specs.Prelude.{◌<◌, ◌≤◌, ℕ, Bool, IsTrue, List, []}
use Rattle.std.specs.List.{Contains}
use Rattle.tg_tree.specs.Tree.{Ts}
use Rattle.tg_tree.specs.Shapes.{AreCanonical, IsClosed, AreClosed}
use Rattle.tg_tree.specs.Named.{Named, NamesAreAllowed, temporary, named_ts, named_stms}
use Rattle.tg_canon.specs.mirror.Canon.{linearized}

-- their expressions are flat, but for calls and services that are whole right sides
abbrev pub GivesCanonical : Type 0
GivesCanonical = (body : Ts) (temps : ℕ) → AreCanonical (linearized body temps).it

-- those of a closed body are closed
abbrev pub GivesClosed : Type 0
GivesClosed = (body : Ts) (temps : ℕ) → IsClosed body → AreClosed (linearized body temps).it

-- the number of temporaries doesn't fall
abbrev pub TempsGrow : Type 0
TempsGrow = (body : Ts) (temps : ℕ) → temps ≤ (linearized body temps).next

-- the temporaries from a number up to another pass a test of names
abbrev pub AllowsDrawn : (allowed : Named → Bool) → (before after : ℕ) → Type 0
AllowsDrawn allowed before after =
    (i : ℕ) → before ≤ i → i < after → IsTrue (allowed (temporary i))

-- The statements name no function, literal, fault, constant or temporary that the body doesn't name,
-- but for the temporaries that are drawn: whatever test all these pass, their names pass.
abbrev pub NamesStay : Type 0
NamesStay =
    (allowed : Named → Bool) (body : Ts) (temps : ℕ) →
    NamesAreAllowed allowed (named_ts body []) →
    AllowsDrawn allowed temps (linearized body temps).next →
    NamesAreAllowed allowed (named_stms (linearized body temps).it [])

-- each temporary among them is below a number
abbrev pub AreTempsBelow : (temps : ℕ) → List Named → Type 0
AreTempsBelow temps names = (i : ℕ) → Contains names (temporary i) → i < temps

-- where those of the body are below the number that the first draw has, those of the statements are
-- below the next one
abbrev pub TempsStay : Type 0
TempsStay =
    (body : Ts) (temps : ℕ) →
    AreTempsBelow temps (named_ts body []) →
    AreTempsBelow (linearized body temps).next (named_stms (linearized body temps).it [])
