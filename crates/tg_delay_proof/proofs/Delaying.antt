-- Both passes together.
use Rattle.std.proofs.Common.{ℕ, ◌≡◌, ◌≤◌, ◌+◌, List, [], ◌∷◌, refl, ◌∙◌, arith, Bool, true, false, ◌||◌}
use Rattle.std.specs.Prelude.{nat_lt, nat_le, if◌then◌else◌}
use Rattle.std.proofs.lemmas.Bool.Decides.{nat_tests}
use Rattle.tg_simulation.specs.Runs.{Run}
use Rattle.tg_simulation.specs.Ran.{Ran}
use Rattle.tg_simulation.specs.Preserving.{Preserves}
use Rattle.tg_simulation.specs.laws.Laws.{PassesCompose}
use Rattle.tg_emit.specs.declared.assembly.Line.{Line}
use Rattle.tg_emit.specs.declared.assembly.Line.TheVariants.{Label, One, La, Statics}
use Rattle.tg_emit.specs.mirror.Lines.{words}
use Rattle.tg_emit_proof.specs.LinesRun.{calls, lines_run}
use Rattle.tg_delay.specs.Filling.{branches, branches_in, filled, turned_round, near}
use Rattle.tg_delay_proof.specs.DelayedRun.{delayed_run}
use Rattle.tg_delay_proof.specs.laws.Laws.{FillingKeepsRuns, TurningKeepsRuns, DelayingKeepsRuns, DelayingKeepsCalls}
use Rattle.tg_delay_proof.proofs.Filled.{calls_filled}
use Rattle.tg_delay_proof.proofs.Turning.{calls_turned}

few_branches : (lines : List Line) → branches_in lines ≤ words lines
few_branches [] = omega arith
few_branches (One one target ∷ rest) = by (branches one) (few_branches rest)
  where
    by : (b : Bool) → branches_in rest ≤ words rest → (if b then 1 + branches_in rest else branches_in rest) ≤ 1 + words rest
    by true h = omega (arith, h)
    by false h = omega (arith, h)
few_branches (Label name ∷ rest) = let h = few_branches rest in omega (arith, h)
few_branches (La r name ∷ rest) = let h = few_branches rest in omega (arith, h)
few_branches (Statics bytes ∷ rest) = let h = few_branches rest in omega (arith, h)

not_far : (n : ℕ) → (nat_le n 16000 || nat_lt 32000 n) ≡ false → n ≤ 32000
not_far n h = grind (arith, nat_tests, h)

more_work : (c d : Run Ran) → Preserves 2 0 c d → Preserves 4 0 c d
more_work c d p = record {
  there = λ n right.
      let x = p.there n right in
      let w = x.2.work in
      (x.0, x.1, record { output = x.2.output; input = x.2.input; stop = x.2.stop; work = omega (arith, w) });
}

pub delaying_keeps_runs : PassesCompose → FillingKeepsRuns → TurningKeepsRuns → DelayingKeepsRuns
delaying_keeps_runs compose filling turning returns lines ls input heap stack gives = by (near lines) refl
  where
    by : (b : Bool) → near lines ≡ b →
        Preserves 4 0 (lines_run returns lines ls input heap stack)
        (delayed_run returns (filled (if b then lines else turned_round lines)) ls input heap stack)
    by true e = more_work _ _ (filling returns lines ls input heap stack)
    by false e =
        let few = few_branches lines in
        let short = not_far (words lines) e in
        compose 2 0 2 0 _ _ _ (turning returns lines ls input heap stack gives (omega (arith, few, short)))
        (filling returns (turned_round lines) ls input heap stack)

pub delaying_keeps_calls : DelayingKeepsCalls
delaying_keeps_calls lines = by (near lines)
  where
    by : (b : Bool) → calls (filled (if b then lines else turned_round lines)) ≡ calls lines
    by true = calls_filled lines
    by false = calls_filled (turned_round lines) ∙ calls_turned lines
