-- What the flag `--bare` says of a mode, and of the other flags.
use Rattle.std.specs.Prelude.{◌&&◌, ◌||◌, not}
use Rattle.std.proofs.Common.{◌≡◌, Bool, true, false, refl}
use Rattle.tg_command.specs.declared.flags.Flags.{Flags}
use Rattle.tg_command.specs.declared.modes.Mode.{Mode}
use Rattle.tg_command.specs.declared.modes.Mode.TheVariants.{Run}
use Rattle.tg_command.specs.Flagged.{flags_fit, takes_bare, takes_explain, takes_fold, takes_watch}

no_truth : false ≡ true → ⊥
no_truth h = cc

-- `run` runs the machine without delayed branches
pub plain_in_run : (flags : Flags) → flags_fit Run flags ≡ true → flags.bare ≡ false
plain_in_run flags h = by flags.watch flags.bare h
  where
    by : (w b : Bool) → (not b && true && not (w && b)) ≡ true → b ≡ false
    by w false h = refl
    by w true h = absurd (no_truth h)

-- no run of the machine with delayed branches is watched
pub bare_unwatched : (mode : Mode) (flags : Flags) → flags_fit mode flags ≡ true → flags.bare ≡ true → flags.watch ≡ false
bare_unwatched mode flags h is =
    by (takes_watch mode || not flags.watch) (takes_fold mode || not flags.fold) (takes_bare mode || not flags.bare)
    (takes_explain mode || not flags.explain) flags.watch flags.bare h is
  where
    by : (x y z u w b : Bool) → (x && y && z && u && not (w && b)) ≡ true → b ≡ true → w ≡ false
    by x y z u false b h is = refl
    by x y z u true false h is = absurd (no_truth is)
    by false y z u true true h is = absurd (no_truth h)
    by true false z u true true h is = absurd (no_truth h)
    by true true false u true true h is = absurd (no_truth h)
    by true true true false true true h is = absurd (no_truth h)
    by true true true true true true h is = absurd (no_truth h)
