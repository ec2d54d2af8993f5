-- Work before the pass pays for work after it, unit for unit.
use Rattle.std.proofs.Common.{◌≡◌, ℕ, ◌+◌, ◌≤◌, sym, subst, arith}
use Rattle.tg_simulation.specs.Runs.{Run}
use Rattle.tg_simulation.specs.Ran.{Ran}
use Rattle.tg_simulation.specs.laws.Simulating.{Simulates}
use Rattle.tg_tree.specs.Actions.{charged}
use Rattle.tg_tree.proofs.FlatValues.{works_none, works_add}

-- with so much credit, as far as so much fuel
abbrev pub Sim : (credit fuel : ℕ) → Run Ran → Run Ran → Type 0
Sim r n c d = Simulates 1 r n c d

module _ (r n : ℕ) where
  -- both work, the second no more
  pub pays : (k l : ℕ) (c d : Run Ran) → l ≤ k → Sim r n c d → Sim r n (charged k c) (charged l d)
  pays k l c d le h i li ne =
      let x = h i li ne in
      let w = x.2.work in
      (x.0, x.1, record { output = x.2.output; input = x.2.input; stop = x.2.stop; work = omega (arith, w, le) })

  -- the first works, and the second that had worked does less
  pub pays_more : (k l m : ℕ) (c d : Run Ran) → m ≤ k + l → Sim r n c (charged l d) → Sim r n (charged k c) (charged m d)
  pays_more k l m c d le h i li ne =
      let x = h i li ne in
      let w = x.2.work in
      (x.0, x.1, record { output = x.2.output; input = x.2.input; stop = x.2.stop; work = omega (arith, w, le) })

  pub pays_all : (k l : ℕ) (c d : Run Ran) → Sim r n c (charged l d) → Sim r n (charged k c) d
  pays_all k l c d h i li ne =
      let x = h i li ne in
      let w = x.2.work in
      (x.0, x.1, record { output = x.2.output; input = x.2.input; stop = x.2.stop; work = omega (arith, w) })

  pub works_less : (k l : ℕ) (c d : Run Ran) → l ≤ k → Sim r n c (charged k d) → Sim r n c (charged l d)
  works_less k l c d le h i li ne =
      let x = h i li ne in
      let w = x.2.work in
      (x.0, x.1, record { output = x.2.output; input = x.2.input; stop = x.2.stop; work = omega (arith, w, le) })

  pub works_none_more : (k : ℕ) (c d : Run Ran) → Sim r n c (charged k d) → Sim r n c d
  works_none_more k c d h i li ne =
      let x = h i li ne in
      let w = x.2.work in
      (x.0, x.1, record { output = x.2.output; input = x.2.input; stop = x.2.stop; work = omega (arith, w) })

  pub pays_alone : (k : ℕ) (c d : Run Ran) → Sim r n c d → Sim r n (charged k c) d
  pays_alone k c d h i li ne =
      let x = h i li ne in
      let w = x.2.work in
      (x.0, x.1, record { output = x.2.output; input = x.2.input; stop = x.2.stop; work = omega (arith, w) })

-- equal runs
pub along : (r n : ℕ) (c c' d d' : Run Ran) → c' ≡ c → d' ≡ d → Sim r n c d → Sim r n c' d'
along r n c c' d d' e f h = subst (λ x. Sim r n x d') (sym e) (subst (λ y. Sim r n c y) (sym f) h)

pub free : (c : Run Ran) → charged 0 c ≡ c
free c = λ i n. works_none (c n) i

pub charged_add : (a b : ℕ) (c : Run Ran) → charged a (charged b c) ≡ charged (a + b) c
charged_add a b c = λ i n. works_add a b (c n) i
