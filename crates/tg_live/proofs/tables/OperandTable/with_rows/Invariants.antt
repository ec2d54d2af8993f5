use Rattle.std.proofs.Common.{◌≡◌, [], map, replicate}
use Rattle.tg_live.proofs.tables.OperandTable.with_rows.Given as goal

abbrev pub invariant-loop : goal.invariant-loop
invariant-loop l = map (λ r. r.items) l.rows.items ≡ replicate l.counter []
