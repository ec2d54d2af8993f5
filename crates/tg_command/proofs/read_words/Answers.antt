use Rattle.std.proofs.Common.{◌≡◌, Some, false, subst, codes, map, option_map, string_bytes, rules}
use Rattle.tg_command.specs.declared.flags.Flags.{Flags}
use Rattle.tg_command.specs.Flagged.{flags_fit}
use Rattle.tg_command.specs.Commands.{flags, number, sizes}
use Rattle.tg_command.specs.Sizes.{sizes_fit}
use Rattle.tg_command.specs.Modes.{mode_name}
use Rattle.tg_command.specs.Simple.{value_of}
use Rattle.tg_command.proofs.CommandLemmas.{all_blamed}
use Rattle.tg_command.proofs.read_words.Goals as goal

pub returns-in_err-number-clause-usage : goal.returns-in_err-number-clause-usage
returns-in_err-number-clause-usage c =
    let taken = c.in_ok-values.ensures.ok in
    let named : value_of (codes "mode") (map string_bytes c.args.words.now) ≡ Some (mode_name c.in_ok-mode.mode) = search rules in
    all_blamed _ _ (number c.in_ok-mode.mode c.in_ok-values.values.file.now named taken.file c.in_err-number.ensures.usage)

pub returns-then-not-flags_fit-clause-usage : goal.returns-then-not-flags_fit-clause-usage
returns-then-not-flags_fit-clause-usage c =
    let taken = c.in_ok-values.ensures.ok in
    let mode = c.in_ok-mode.mode in
    let named : value_of (codes "mode") (map string_bytes c.args.words.now) ≡ Some (mode_name mode) = search rules in
    let misfit : flags_fit mode c.in_ok-values.values.flags ≡ false = search rules in
    flags mode named (subst (λ (f : Flags). flags_fit mode f ≡ false) taken.flags misfit)

pub returns-then-not-sizes_fit-clause-usage : goal.returns-then-not-sizes_fit-clause-usage
returns-then-not-sizes_fit-clause-usage c =
    let taken = c.in_ok-values.ensures.ok in
    let mode = c.in_ok-mode.mode in
    let values = c.in_ok-values.values in
    let named : value_of (codes "mode") (map string_bytes c.args.words.now) ≡ Some (mode_name mode) = search rules in
    let given : sizes_fit mode (option_map (λ t. t.now) values.heap) (option_map (λ t. t.now) values.stack) (option_map (λ t. t.now) values.steps) ≡ false =
    search rules in
    sizes mode named (rw (taken.heap, taken.stack, taken.steps) given)
