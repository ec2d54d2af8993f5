use Rattle.tg_runtime.proofs.Functions.{joined, code_is}
use Rattle.tg_runtime.proofs.fragments.runtime.Goals as goal

pub returns : goal.returns
returns c =
    code_is _ _ _ (
    joined _ _ _ _ _ c.in_ok-append-4.ensures.items (
    joined _ _ _ _ _ c.in_ok-append-3.ensures.items (
    joined _ _ _ _ _ c.in_ok-append-2.ensures.items (
    joined _ _ _ _ _ c.in_ok-append.ensures.items c.in_ok-functions.ensures c.in_ok-inputs_and_outputs.ensures)
    c.in_ok-bytes_and_sizes.ensures) c.in_ok-parts_and_sums.ensures) c.in_ok-of_ints.ensures) c.new.ensures.items
