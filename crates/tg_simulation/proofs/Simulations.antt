-- Code after a pass, step by step.
use Rattle.std.proofs.Common.{◌≡◌, ℕ, zero, suc, ◌+◌, ◌*◌, ◌<◌, ◌≤◌, List, ◌++◌, refl, sym, ap, ◌∙◌, arith, subst}
use Rattle.std.proofs.Math.Nat.{mul-add}
use Rattle.tg_simulation.specs.Runs.{Run, turn}
use Rattle.tg_simulation.specs.Ran.{Ran, Stop, WantsFuel, Wrong, stops, writes, works}
use Rattle.tg_simulation.specs.Preserving.{DoesTheSame, Preserves}
use Rattle.tg_simulation.specs.Agreement.{Source, Matches, Follows}
use Rattle.tg_simulation.specs.laws.Simulating.{Simulates, Comes}
use Rattle.tg_simulation.proofs.Following.{match_works, match_credit}

pub simulation_preserves : (a b : ℕ) (c d : Run Ran) → ((n : ℕ) → Simulates a b n c d) → Preserves a b c d
simulation_preserves a b c d h = record { there = λ n s. h n n (omega arith) s }

pub simulates_stopping : (a r n : ℕ) (input : List ℕ) (stop : Stop) → Simulates a r n (λ i. stops input stop) (λ j. stops input stop)
simulates_stopping a r n input stop i le s = (i, omega arith, record { output = refl; input = refl; stop = refl; work = omega arith })

pub simulates_writing : (a r n : ℕ) (bytes : List ℕ) (c d : Run Ran) → Simulates a r n c d → Simulates a r n (λ i. writes bytes (c i)) (λ j. writes bytes (d j))
simulates_writing a r n bytes c d h i le s =
    let x = h i le s in
    (x.0, x.1, record { output = ap (λ l. bytes ++ l) x.2.output; input = x.2.input; stop = x.2.stop; work = x.2.work })

pub simulates_turn : (a r n : ℕ) (input : List ℕ) (c d : Run Ran) →
    ((m : ℕ) → m < n → Simulates a r m c d) → Simulates a r n (turn (stops input WantsFuel) c) (turn (stops input WantsFuel) d)
simulates_turn a r n input c d h zero le s = (zero, omega arith, record { output = refl; input = refl; stop = refl; work = omega arith })
simulates_turn a r n input c d h (suc i) le s = let x = h i (omega arith) i (omega arith) s in (suc x.0, omega (arith, x.1), x.2)

pub simulates_turn_behind : (a r n : ℕ) (none : Ran) (c d : Run Ran) → Simulates a r n c d → Simulates a r n c (turn none d)
simulates_turn_behind a r n none c d h i le s = let x = h i le s in (suc x.0, omega (arith, x.1), x.2)

paid : (a k w r v : ℕ) → v ≤ a * w + (r + a * k) → v ≤ a * (k + w) + r
paid a k w r v le = let e = mul-add a k w in omega arith

pub simulates_paying : (a r n k : ℕ) (c d : Run Ran) → Simulates a (r + a * k) n c d → Simulates a r n (λ i. works k (c i)) d
simulates_paying a r n k c d h i le s =
    let x = h i le s in
    (x.0, x.1, record { output = x.2.output; input = x.2.input; stop = x.2.stop; work = paid a k (c i).work r (d x.0).work x.2.work })

pub simulates_working : (a r n k : ℕ) (c d : Run Ran) → Simulates a r n c d → Simulates a (r + k) n c (λ j. works k (d j))
simulates_working a r n k c d h i le s =
    let x = h i le s in
    let w = x.2.work in
    (x.0, x.1, record { output = x.2.output; input = x.2.input; stop = x.2.stop; work = omega arith })

-- credit for credit
traded : (a k l r s v w : ℕ) → s + l ≤ r + a * k → v ≤ a * w + s → l + v ≤ a * (k + w) + r
traded a k l r s v w le h = let e = mul-add a k w in omega arith

unpaid : (a k r s v w : ℕ) → r + a * k ≤ s → v ≤ a * (k + w) + r → v ≤ a * w + s
unpaid a k r s v w le h = let e = mul-add a k w in omega arith

untraded : (a k l r s v w : ℕ) → r + a * k ≤ s + l → l + v ≤ a * (k + w) + r → v ≤ a * w + s
untraded a k l r s v w le h = let e = mul-add a k w in omega arith

pub simulates_trading : (a r s n k l : ℕ) (c d : Run Ran) → s + l ≤ r + a * k →
    Simulates a s n c d → Simulates a r n (λ i. works k (c i)) (λ j. works l (d j))
simulates_trading a r s n k l c d le h i li ne =
    let x = h i li ne in
    let m = traded a k l r s (d x.0).work (c i).work le x.2.work in
    (x.0, x.1, record { output = x.2.output; input = x.2.input; stop = x.2.stop; work = m })

pub simulates_unpaid : (a r s n k : ℕ) (c d : Run Ran) → r + a * k ≤ s → Simulates a r n (λ i. works k (c i)) d → Simulates a s n c d
simulates_unpaid a r s n k c d le h i li ne =
    let x = h i li ne in
    let m = unpaid a k r s (d x.0).work (c i).work le x.2.work in
    (x.0, x.1, record { output = x.2.output; input = x.2.input; stop = x.2.stop; work = m })

pub simulates_reworking : (a r s n k l : ℕ) (c d : Run Ran) → s + l ≤ r + k →
    Simulates a s n c (λ j. works k (d j)) → Simulates a r n c (λ j. works l (d j))
simulates_reworking a r s n k l c d le h i li ne =
    let x = h i li ne in
    let w = x.2.work in
    (x.0, x.1, record { output = x.2.output; input = x.2.input; stop = x.2.stop; work = omega arith })

pub simulates_working_less : (a r n k : ℕ) (c d : Run Ran) → Simulates a r n c (λ j. works k (d j)) → Simulates a r n c d
simulates_working_less a r n k c d h i li ne =
    let x = h i li ne in
    let w = x.2.work in
    (x.0, x.1, record { output = x.2.output; input = x.2.input; stop = x.2.stop; work = omega arith })

pub simulates_untraded : (a r s n k l : ℕ) (c d : Run Ran) → r + a * k ≤ s + l →
    Simulates a r n (λ i. works k (c i)) (λ j. works l (d j)) → Simulates a s n c d
simulates_untraded a r s n k l c d le h i li ne =
    let x = h i li ne in
    let m = untraded a k l r s (d x.0).work (c i).work le x.2.work in
    (x.0, x.1, record { output = x.2.output; input = x.2.input; stop = x.2.stop; work = m })

pub simulates_wrong : (a r n : ℕ) (c d : Run Ran) → ((i : ℕ) → (c i).stop ≡ Wrong) → Simulates a r n c d
simulates_wrong a r n c d h i le s = absurd (s (h i))

pub simulates_less : (a r m n : ℕ) (c d : Run Ran) → m ≤ n → Simulates a r n c d → Simulates a r m c d
simulates_less a r m n c d le h i li s = h i (omega arith) s

pub simulates_with_credit : (a r s n : ℕ) (c d : Run Ran) → r ≤ s → Simulates a r n c d → Simulates a s n c d
simulates_with_credit a r s n c d le h i li ne =
    let x = h i li ne in
    let w = x.2.work in
    (x.0, x.1, record { output = x.2.output; input = x.2.input; stop = x.2.stop; work = omega arith })

pub simulates_along : (a r n : ℕ) (c c' d d' : Run Ran) → ((i : ℕ) → c' i ≡ c i) → ((i : ℕ) → d' i ≡ d i) → Simulates a r n c d → Simulates a r n c' d'
simulates_along a r n c c' d d' e f h i le s =
    let x = h i le (λ w. s (ap (λ p. p.stop) (e i) ∙ w)) in
    (x.0, x.1, subst (λ o. DoesTheSame a r o (d' x.0)) (sym (e i)) (subst (λ p. DoesTheSame a r (c i) p) (sym (f x.0)) x.2))

pub follows_coming : (stack a r n k : ℕ) (c : Run Source) (d e : Run Ran) → Comes k d e → Follows stack a r n c e → Follows stack a (r + k) n c d
follows_coming stack a r n k c d e g h i le =
    let x = h i le in
    let y = g x.0 in
    let m = match_credit stack a (r + y.2) (r + k) (c i) (works y.2 (e x.0)) (omega (arith, y.3)) (match_works stack a r y.2 (c i) (e x.0) x.2) in
    (y.0, omega (arith, x.1, y.1), subst (λ p. Matches stack a (r + k) (c i) p) (sym y.4) m)

pub simulates_coming : (a r n k : ℕ) (c d e : Run Ran) → Comes k d e → Simulates a r n c e → Simulates a (r + k) n c d
simulates_coming a r n k c d e g h i le s =
    let x = h i le s in
    let y = g x.0 in
    let w = x.2.work in
    let same : DoesTheSame a (r + k) (c i) (works y.2 (e x.0)) =
    record { output = x.2.output; input = x.2.input; stop = x.2.stop; work = omega (arith, y.3) } in
    (y.0, omega (arith, x.1, y.1), subst (λ p. DoesTheSame a (r + k) (c i) p) (sym y.4) same)

no_work : (p : Ran) → p ≡ works 0 p
no_work p = let e : p.work ≡ 0 + p.work = omega arith in ap (λ k. record p { work = k }) e

add_work : (a b : ℕ) (p : Ran) → works a (works b p) ≡ works (a + b) p
add_work a b p = let e : a + (b + p.work) ≡ a + b + p.work = omega arith in ap (λ k. record p { work = k }) e

pub comes_itself : (d : Run Ran) → Comes 0 d d
comes_itself d i = (i, omega arith, 0, omega arith, no_work (d i))

pub comes_on : (k l : ℕ) (c d e : Run Ran) → Comes k c d → Comes l d e → Comes (k + l) c e
comes_on k l c d e g h i =
    let x = h i in
    let y = g x.0 in
    (y.0, omega (arith, x.1, y.1), y.2 + x.2, omega (arith, x.3, y.3), y.4 ∙ ap (works y.2) x.4 ∙ add_work y.2 x.2 (e i))

pub comes_writing : (k : ℕ) (bytes : List ℕ) (d e : Run Ran) → Comes k d e → Comes k (λ j. writes bytes (d j)) (λ i. writes bytes (e i))
comes_writing k bytes d e g i = let x = g i in (x.0, x.1, x.2, x.3, ap (writes bytes) x.4)

pub comes_working : (k l : ℕ) (d e : Run Ran) → Comes k d e → Comes (l + k) (λ j. works l (d j)) e
comes_working k l d e g i = let x = g i in (x.0, x.1, l + x.2, omega (arith, x.3), ap (works l) x.4 ∙ add_work l x.2 (e i))

pub comes_turn : (k : ℕ) (none : Ran) (d e : Run Ran) → Comes k d e → Comes k (turn none d) e
comes_turn k none d e g i = let x = g i in (suc x.0, omega (arith, x.1), x.2, x.3, x.4)
