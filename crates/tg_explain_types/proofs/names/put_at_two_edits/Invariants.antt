use Rattle.std.proofs.Common.{◌≡◌, ◌++◌, filter, take}
use Rattle.tg_explain_types.specs.Names.{at_two_edits}
use Rattle.tg_explain_types.proofs.names.put_at_two_edits.Given as goal

abbrev pub invariant-loop-one : goal.invariant-loop-one
invariant-loop-one l = l.near.items ≡ l.initial.near.items ++ filter (λ n. at_two_edits l.text l.word n) (take l.one-index l.all)
