use Rattle.std.proofs.Common.{◌≡◌, ◌-◌, take}
use Rattle.std.specs.List.{suffix_len}
use Rattle.tg_explain.proofs.Runs.{inked}
use Rattle.tg_explain.proofs.putting.words_length.Given as goal

abbrev pub invariant-loop-at : goal.invariant-loop-at
invariant-loop-at l = l.end ≡ l.at - suffix_len inked (take l.at l.text) - 1
