use Rattle.std.proofs.Common.{nat_eq, Some, ap, ◌∙◌}
use Rattle.std.specs.Map.{lookup}
use Rattle.tg_redundancy.proofs.Walking.{states}
use Rattle.tg_redundancy.proofs.walks.Walk.new.Goals as goal

pub returns : goal.returns
returns c = states _ _ _ _ 50 (ap Some (c.from_vec.ensures ∙ c.new.ensures.items)) (λ q. ap (lookup (nat_eq q)) c.new-2.ensures.empty)
