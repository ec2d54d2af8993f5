use Rattle.std.proofs.Common.{arith, ◌<◌, ◌^◌, get_or}
use Rattle.tg_page.proofs.StopLemmas.{counted_nowhere}
use Rattle.tg_page.proofs.stopping.count.Goals as goal

pub returns-in_default-word_number : goal.returns-in_default-word_number
returns-in_default-word_number c =
    rw c.in-Some.is (counted_nowhere c.in-Some.seen c.args.counts.now
    (λ k lt. let small : get_or c.args.counts.now k 0 < 2 ^ 32 = omega (arith, c.type_inv.counts k) in small)
    c.in_default-word_number.ensures)
