-- How the instructions of a flat expression come to what stands after them: composing them as the value of the
-- expression is composed.
use Rattle.tg_munch_proof.specs.glue.Places.{Does, gives, ends, unsaid}
use Rattle.std.proofs.Common.{◌≡◌, ◌≤◌, ℕ, ◌+◌, refl, subst, arith}
use Rattle.tg_simulation.specs.Runs.{Run}
use Rattle.tg_simulation.specs.Ran.{Ran, Ended, Wrong, stops}
use Rattle.tg_simulation.specs.laws.Simulating.{Comes, Simulates}
use Rattle.tg_simulation.proofs.Simulations.{comes_on, simulates_coming, simulates_stopping, simulates_wrong}
use Rattle.tg_tree.specs.Operators.{Given}
use Rattle.tg_tree.specs.Actions.{World, over, with_given}
use Rattle.tg_tree.specs.FlatValue.{onward, after_word}

comes_within : (k l : ℕ) (c d : Run Ran) → k ≤ l → Comes k c d → Comes l c d
comes_within k l c d le h i = let x = h i in (x.0, x.1, x.2, let b = x.3 in omega (arith, b), x.4)

module _ (w : World) (P : ℕ → Run Ran → Type 0) where
  pub does_within : (k l : ℕ) (c : Run Ran) (g : Given) → k ≤ l → Does w P k c g → Does w P l c g
  does_within k l c g le (gives i v b e h p) = gives l v b e (comes_within i l b e le h) p
  does_within k l c g le (ends i b e h) = ends l b e (comes_within i l b _ le h)
  does_within k l c g le (unsaid i b) = unsaid l b

  pub does_on : (k l : ℕ) (c d : Run Ran) (g : Given) → Comes k c d → Does w P l d g → Does w P (k + l) c g
  does_on k l c d g h (gives i v b e q p) = gives (k + i) v c e (comes_on k i c b e h q) p
  does_on k l c d g h (ends i b e q) = ends (k + i) c e (comes_on k i c b _ h q)
  does_on k l c d g h (unsaid i b) = unsaid (k + i) c

-- one expression after another, as their values are composed and their units are spent
pub does_onward : (w : World) (P Q : ℕ → Run Ran → Type 0) (k l : ℕ) (c : Run Ran) (g : Given) (f : ℕ → Given) → Does
    w P k c g →
    ((v : ℕ) (e : Run Ran) → P v e → Does w Q l e (f v)) → Does w Q (k + after_word g l) c (onward g f)
does_onward w P Q k l c g f (gives i v b e h p) next = does_on w Q i l b e (f v) h (next v e p)
does_onward w P Q k l c g f (ends i b e h) next = ends (i + 0) b e (comes_within i (i + 0) b _ (omega arith) h)
does_onward w P Q k l c g f (unsaid i b) next = unsaid (i + 0) b

-- After flat code that goes on with the word or stops so, with credit for the units.
pub does_simulate : (w x : World) (P : ℕ → Run Ran → Type 0) (r n k : ℕ) (d : Run Ran) (g : Given) (go : ℕ → Run Ran)
    → w.input ≡ x.input →
    Does x P k d g → ((v : ℕ) (e : Run Ran) → P v e → Simulates 1 r n (go v) e) → Simulates 1 (r + k) n (with_given g
    w go) d
does_simulate w x P r n k d g go same (gives i v b e h p) next = simulates_coming 1 r n i (go v) b e h (next v e p)
does_simulate w x P r n k d g go same (ends i b e h) next =
    simulates_coming 1 r n i (over (Ended e) w) b (over (Ended e) x) h
    (subst (λ input. Simulates 1 r n (λ a. stops w.input (Ended e)) (λ j. stops input (Ended e))) same
    (simulates_stopping 1 r n w.input (Ended e)))
does_simulate w x P r n k d g go same (unsaid i b) next = simulates_wrong 1 (r + i) n (over Wrong w) b (λ a. refl)
