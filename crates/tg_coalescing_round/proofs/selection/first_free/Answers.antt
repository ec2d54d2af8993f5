use Rattle.std.proofs.Common.{◌≡◌, true, false, not, get_or, sym, ap, rules, arith}
use Rattle.tg_coalescing_round.proofs.Selecting.{found_in, none_in}
use Rattle.tg_coalescing_round.proofs.selection.first_free.Goals as goal

pub returns-then-not-taken-colour : goal.returns-then-not-taken-colour
returns-then-not-taken-colour c =
    let passes : not (get_or c.args.taken c.loop-colour.colour false) ≡ true =
    first_of (search rules, grind arith) in
    sym (found_in (λ x. not (get_or c.args.taken x false)) 0 25 c.loop-colour.colour (omega arith) (omega arith)
    (λ x k m. ap not (c.loop-colour.invariant x m)) passes)

pub returns : goal.returns
returns c =
    sym (none_in (λ x. not (get_or c.args.taken x false)) 0 25 (λ x k m. ap not (c.loop-colour.invariant x (omega arith))))
