use Rattle.std.proofs.Common.{◌≡◌, ◌+◌, ◌-◌, nat_eq, Some, cond, length, drop, sym, ap, ◌∙◌, arith}
use Rattle.std.specs.Map.{lookup}
use Rattle.tg_live.proofs.Marked.{none_from_end, place_at_mark, place_at_other, place_from, place_from_all}
use Rattle.tg_live.proofs.marks.mark_places.Goals as goal

pub loop-at-init : goal.loop-at-init
loop-at-init c = λ m.
    let list = c.args.list.now in
    ap (lookup (nat_eq m)) c.new-places.ensures.empty
    ∙ sym (none_from_end (length list) list m (omega arith))

pub loop-at-preserved-in-Mark : goal.loop-at-preserved-in-Mark
loop-at-preserved-in-Mark c = λ m.
    let list = c.args.list.now in
    let at = c.loop-at.at - 1 in
    let next : at + 1 ≡ c.loop-at.at = omega (arith, c.loop-at-test.true) in
    c.in_ok-insert.ensures.updates.0 m
    ∙ (ap (λ o. cond (nat_eq c.in-Mark.mark m) (Some at) o)
    (c.loop-at.invariant m ∙ sym (ap (λ k. place_from k (drop k list) m) next))
    ∙ place_at_mark at list c.index-list-at.result c.in-Mark.mark m (omega (arith, c.loop-at-test.true, c.loop-at.auto.at)) c.index-list-at.is c.in-Mark.is)

pub loop-at-preserved : goal.loop-at-preserved
loop-at-preserved c = λ m.
    let list = c.args.list.now in
    let next : c.loop-at.at - 1 + 1 ≡ c.loop-at.at = omega (arith, c.loop-at-test.true) in
    c.loop-at.invariant m
    ∙ (sym (ap (λ k. place_from k (drop k list) m) next)
    ∙ place_at_other (c.loop-at.at - 1) list c.index-list-at.result m (omega (arith, c.loop-at-test.true, c.loop-at.auto.at)) c.index-list-at.is
    c.in_default.not-Mark)

pub returns : goal.returns
returns c = λ m h.
    let list = c.args.list.now in
    let done : c.loop-at.at ≡ 0 = omega (arith, c.loop-at-test.false) in
    c.loop-at.invariant m ∙ (ap (λ k. place_from k (drop k list) m) done ∙ place_from_all list m h)
