-- Work before the pass pays for work after it, unit for unit.
use Rattle.std.proofs.Common.{◌≡◌, ℕ, ◌+◌, ◌≤◌, sym, subst, arith}
use Rattle.tg_simulation.specs.Runs.{Run}
use Rattle.tg_simulation.specs.Ran.{Ran}
use Rattle.tg_simulation.specs.laws.Simulating.{Simulates}
use Rattle.tg_simulation.proofs.Simulations.{simulates_trading, simulates_unpaid, simulates_reworking, simulates_untraded, simulates_with_credit}
use Rattle.tg_tree.specs.Actions.{charged}
use Rattle.tg_tree.proofs.FlatValues.{works_none, works_add}

-- with so much credit, as far as so much fuel
abbrev pub Sim : (credit fuel : ℕ) → Run Ran → Run Ran → Type 0
Sim r n c d = Simulates 1 r n c d

module _ (n : ℕ) where
  -- both work
  pub trade : (r s k l : ℕ) (c d : Run Ran) → s + l ≤ r + k → Sim s n c d → Sim r n (charged k c) (charged l d)
  trade r s k l c d le h = simulates_trading 1 r s n k l c d (omega (arith, le)) h

  -- the first, or the second
  pub pays : (r s k : ℕ) (c d : Run Ran) → s ≤ r + k → Sim s n c d → Sim r n (charged k c) d
  pays r s k c d le h i li ne =
      let x = h i li ne in
      let w = x.2.work in
      (x.0, x.1, record { output = x.2.output; input = x.2.input; stop = x.2.stop; work = omega arith })

  pub worked : (r s l : ℕ) (c d : Run Ran) → s + l ≤ r → Sim s n c d → Sim r n c (charged l d)
  worked r s l c d le h i li ne =
      let x = h i li ne in
      let w = x.2.work in
      (x.0, x.1, record { output = x.2.output; input = x.2.input; stop = x.2.stop; work = omega arith })

  -- what is paid is credit, and so is what isn't worked
  pub unpaid : (r s k : ℕ) (c d : Run Ran) → r + k ≤ s → Sim r n (charged k c) d → Sim s n c d
  unpaid r s k c d le h = simulates_unpaid 1 r s n k c d (omega (arith, le)) h

  pub reworked : (r s k l : ℕ) (c d : Run Ran) → s + l ≤ r + k → Sim s n c (charged k d) → Sim r n c (charged l d)
  reworked r s k l c d le h = simulates_reworking 1 r s n k l c d le h

  pub untraded : (r s k l : ℕ) (c d : Run Ran) → r + k ≤ s + l → Sim r n (charged k c) (charged l d) → Sim s n c d
  untraded r s k l c d le h = simulates_untraded 1 r s n k l c d (omega (arith, le)) h

  pub credit : (r s : ℕ) (c d : Run Ran) → r ≤ s → Sim r n c d → Sim s n c d
  credit r s c d le h = simulates_with_credit 1 r s n c d le h

  -- equal runs
  pub along : (r : ℕ) (c c' d d' : Run Ran) → c' ≡ c → d' ≡ d → Sim r n c d → Sim r n c' d'
  along r c c' d d' e f h = subst (λ x. Sim r n x d') (sym e) (subst (λ y. Sim r n c y) (sym f) h)

pub free : (c : Run Ran) → charged 0 c ≡ c
free c = λ i n. works_none (c n) i

pub charged_add : (a b : ℕ) (c : Run Ran) → charged a (charged b c) ≡ charged (a + b) c
charged_add a b c = λ i n. works_add a b (c n) i
