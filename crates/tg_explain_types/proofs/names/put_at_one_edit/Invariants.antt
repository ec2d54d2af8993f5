use Rattle.std.proofs.Common.{◌≡◌, ◌++◌, filter, take}
use Rattle.tg_explain_types.specs.Names.{at_one_edit}
use Rattle.tg_explain_types.proofs.names.put_at_one_edit.Given as goal

abbrev pub invariant-loop-one : goal.invariant-loop-one
invariant-loop-one l = l.near.items ≡ l.initial.near.items ++ filter (λ n. at_one_edit l.text l.word n) (take l.one-index l.all)
