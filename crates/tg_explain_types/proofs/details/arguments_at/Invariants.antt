use Rattle.std.proofs.Common.{◌≡◌, drop}
use Rattle.tg_explain_types.specs.Details as details
use Rattle.tg_explain_types.proofs.details.arguments_at.Given as goal

abbrev pub invariant-loop-part : goal.invariant-loop-part
invariant-loop-part l = details.arguments_at l.at (drop l.part-index l.parts) ≡ details.arguments_at l.at l.parts
