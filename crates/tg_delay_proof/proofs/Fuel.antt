-- A run with so much fuel that is a run behind a pass, with as much fuel or more and at most twice
-- the work.
use Rattle.std.proofs.Common.{ℕ, suc, ◌≡◌, ◌≢◌, ◌≤◌, List, ◌++◌, refl, ap, sym, subst, arith}
use Rattle.tg_simulation.specs.Ran.{Ran, Stop, Wrong, stops, writes, works}
use Rattle.tg_simulation.specs.Preserving.{DoesTheSame}

abbrev pub Same : ℕ → Ran → (ℕ → Ran) → Type 0
Same i c d = c.stop ≢ Wrong → (j : ℕ) × (i ≤ j) × DoesTheSame 2 0 c (d j)

pub same_at : (i : ℕ) (c : Ran) (d : ℕ → Ran) (j : ℕ) → i ≤ j → d j ≡ c → Same i c d
same_at i c d j l e right =
    let same : DoesTheSame 2 0 c c =
    record { output = refl; input = refl; stop = refl; work = omega arith } in
    (j, l, subst (DoesTheSame 2 0 c) (sym e) same)

pub wrong : (i : ℕ) (c : Ran) (d : ℕ → Ran) → c.stop ≡ Wrong → Same i c d
wrong i c d e right = absurd (right e)

pub along : (i : ℕ) (c : Ran) (d e : ℕ → Ran) → ((j : ℕ) → e j ≡ d j) → Same i c d → Same i c e
along i c d e h same right = let x = same right in (x.0, x.1, subst (DoesTheSame 2 0 c) (sym (h x.0)) x.2)

-- both do a unit of work; the run behind does two; both do two
pub one_one : (i : ℕ) (c : Ran) (d e : ℕ → Ran) → ((j : ℕ) → d (suc j) ≡ works 1 (e j)) → Same i c e →
    Same (suc i) (works 1 c) d
one_one i c d e h same right =
    let x = same right in
    let w = x.2.work in
    let l = x.1 in
    let does : DoesTheSame 2 0 (works 1 c) (works 1 (e x.0)) =
    record { output = x.2.output; input = x.2.input; stop = x.2.stop; work = omega (arith, w) } in
    (suc x.0, omega (arith, l), subst (DoesTheSame 2 0 (works 1 c)) (sym (h x.0)) does)

pub one_two : (i : ℕ) (c : Ran) (d e : ℕ → Ran) → ((j : ℕ) → d (suc (suc j)) ≡ works 1 (works 1 (e j))) → Same i c e →
    Same (suc i) (works 1 c) d
one_two i c d e h same right =
    let x = same right in
    let w = x.2.work in
    let l = x.1 in
    let does : DoesTheSame 2 0 (works 1 c) (works 1 (works 1 (e x.0))) =
    record { output = x.2.output; input = x.2.input; stop = x.2.stop; work = omega (arith, w) } in
    (suc (suc x.0), omega (arith, l), subst (DoesTheSame 2 0 (works 1 c)) (sym (h x.0)) does)

pub two_two : (i : ℕ) (c : Ran) (d e : ℕ → Ran) → ((j : ℕ) → d (suc (suc j)) ≡ works 1 (works 1 (e j))) → Same i c e →
    Same (suc (suc i)) (works 1 (works 1 c)) d
two_two i c d e h same right =
    let x = same right in
    let w = x.2.work in
    let l = x.1 in
    let does : DoesTheSame 2 0 (works 1 (works 1 c)) (works 1 (works 1 (e x.0))) =
    record { output = x.2.output; input = x.2.input; stop = x.2.stop; work = omega (arith, w) } in
    (suc (suc x.0), omega (arith, l), subst (DoesTheSame 2 0 (works 1 (works 1 c))) (sym (h x.0)) does)

-- the run behind stops one row later
pub stops_later : (i j : ℕ) (input : List ℕ) (s : Stop) (d : ℕ → Ran) → i ≤ j →
    d j ≡ works 1 (works 1 (stops input s)) → Same i (works 1 (stops input s)) d
stops_later i j input s d l e right =
    let does : DoesTheSame 2 0 (works 1 (stops input s)) (works 1 (works 1 (stops input s))) =
    record { output = refl; input = refl; stop = refl; work = omega arith } in
    (j, l, subst (DoesTheSame 2 0 (works 1 (stops input s))) (sym e) does)

pub writing : (i : ℕ) (bytes : List ℕ) (c : Ran) (d : ℕ → Ran) → Same i c d →
    Same i (writes bytes c) (λ j. writes bytes (d j))
writing i bytes c d same right =
    let x = same right in
    (x.0, x.1, record { output = ap (λ l. bytes ++ l) x.2.output; input = x.2.input; stop = x.2.stop; work = x.2.work })
