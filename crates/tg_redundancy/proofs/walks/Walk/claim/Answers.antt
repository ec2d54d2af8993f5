use Rattle.std.proofs.Common.{nat_eq, refl}
use Rattle.std.specs.HashMap.{get}
use Rattle.tg_redundancy.proofs.Walking.{states, claims_with}
use Rattle.tg_redundancy.proofs.walks.Walk.claim.Goals as goal

pub returns : goal.returns
returns c =
    let walk = c.args.self.now in
    states walk.comes walk.comes _ _ walk.room refl
    (claims_with c.args.mark c.args.facts.now (λ m. get nat_eq walk.claims m) (λ m. get nat_eq c.insert.new.self m) c.contains_key-is_second.result
    c.in_ok-claimed.claimed c.contains_key-is_second.ensures c.in_ok-claimed.ensures c.in_ok-insert.ensures.updates.0)
