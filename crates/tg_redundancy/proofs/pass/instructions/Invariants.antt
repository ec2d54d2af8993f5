use Rattle.std.proofs.Common.{◌≡◌, ◌++◌, drop}
use Rattle.tg_redundancy.specs.mirror.Known.{known_blocks, known_code, joined, most_facts}
use Rattle.tg_redundancy.specs.glue.Walks.{state_of}
use Rattle.tg_redundancy.proofs.pass.instructions.Given as goal

abbrev pub invariant-loop-at : goal.invariant-loop-at
invariant-loop-at l =
    l.list.items ++ joined (known_blocks most_facts (drop l.at l.code) (state_of l.walk)) ≡ known_code l.code
