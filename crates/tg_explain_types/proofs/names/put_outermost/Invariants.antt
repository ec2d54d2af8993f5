use Rattle.std.proofs.Common.{◌≡◌, ◌++◌, filter, take}
use Rattle.tg_explain_types.specs.Names.{is_bare}
use Rattle.tg_explain_types.proofs.names.put_outermost.Given as goal

abbrev pub invariant-loop-near : goal.invariant-loop-near
invariant-loop-near l = l.all.items ≡ l.initial.all.items ++ filter (λ n. is_bare l.text l.wanted l.seen n) (take l.near-index l.near-items)
