-- Passes over trees keep what a program does, and what follows a source goes on to follow it.
use Rattle.std.proofs.Common.{◌≡◌, ◌≤◌, ℕ, Bool, true, false, refl, sym, ◌∙◌, subst, arith}
use Rattle.std.specs.Prelude.{if◌then◌else◌}
use Rattle.tg_machine_state.specs.declared.ends.RunEnd.{RunEnd}
use Rattle.tg_machine_state.specs.declared.ends.RunEnd.TheVariants.{StackFull}
use Rattle.tg_simulation.specs.Bytes.{IsPrefix}
use Rattle.tg_simulation.specs.Runs.{Run}
use Rattle.tg_simulation.specs.Ran.{Stop, Ended, WantsFuel, Wrong, Ran}
use Rattle.tg_simulation.specs.Outcomes.{End, ended, out_of_fuel, stuck}
use Rattle.tg_simulation.specs.Preserving.{Preserves}
use Rattle.tg_simulation.specs.Agreement.{Fits, Matches, same, cut, unsaid}
use Rattle.tg_tree.specs.Units.{Trees}
use Rattle.tg_tree.specs.Running.{tree_run}
use Rattle.tg_fold.specs.laws.Meaning.{folded_code, FoldIsCorrect}
use Rattle.tg_compile_proof.specs.laws.Laws.{PrepareIsCorrect, FollowingGoesOn}

-- Runs.

preserves_itself : (c : Run Ran) → Preserves 1 0 c c
preserves_itself c = record {
  there = λ n fine. (n, omega arith, record { output = refl; input = refl; stop = refl; work = omega arith });
}

pub prepare_is_correct : FoldIsCorrect → PrepareIsCorrect
prepare_is_correct fold passes code size floor room body input = by passes.fold
  where
    by : (b : Bool) →
        Preserves 1 0 (tree_run Trees code size floor room body input)
        (tree_run Trees (if b then folded_code code else code) size floor room body input)
    by true = fold code size floor room body input
    by false = preserves_itself (tree_run Trees code size floor room body input)

-- What stops as a program does doesn't go wrong, and neither does what a full stack cuts.
fits_not_wrong : (e : End RunEnd) (s : Stop) → Fits e s → s ≡ Wrong → ⊥
fits_not_wrong (ended e) (Ended f) h w = cc
fits_not_wrong (ended e) WantsFuel h w = absurd h
fits_not_wrong (ended e) Wrong h w = absurd h
fits_not_wrong out_of_fuel (Ended f) h w = absurd h
fits_not_wrong out_of_fuel WantsFuel h w = cc
fits_not_wrong out_of_fuel Wrong h w = absurd h
fits_not_wrong stuck (Ended f) h w = absurd h
fits_not_wrong stuck WantsFuel h w = absurd h
fits_not_wrong stuck Wrong h w = absurd h

full_not_wrong : (s : Stop) → s ≡ Ended StackFull → s ≡ Wrong → ⊥
full_not_wrong s f w = cc

pub following_goes_on : FollowingGoesOn
following_goes_on stack a r n source before after follows keeps i below =
    let x = follows i below in by x.0 x.1 x.2
  where
    by : (j : ℕ) → i ≤ j → Matches stack a r (source i) (before j) →
        (m : ℕ) × (i ≤ m) × Matches stack a r (source i) (after m)
    by j above (same output input fits deep work) =
        let y = keeps.there j (fits_not_wrong (source i).end (before j).stop fits) in
        let more = y.1 in
        let done = y.2.work in (
          y.0,
          omega (arith, above, more),
          same (y.2.output ∙ output) (y.2.input ∙ input) (subst (λ s. Fits (source i).end s) (sym y.2.stop) fits) deep
              (omega (arith, work, done)),
        )
    by j above (cut past limit front whole full work) =
        let y = keeps.there j (full_not_wrong (before j).stop full) in
        let more = y.1 in
        let done = y.2.work in (
          y.0,
          omega (arith, above, more),
          cut past limit (subst (λ output. IsPrefix past output) (sym y.2.output) front)
              (subst (λ output. IsPrefix output (source i).output) (sym y.2.output) whole) (y.2.stop ∙ full)
              (omega (arith, work, done)),
        )
    by j above (unsaid h) = (i, omega arith, unsaid h)
