use Rattle.std.proofs.Common.{◌≡◌, ◌<◌, ℕ, false, List, [], ◌∷◌, ◌++◌, length, sym, ap, ◌∙◌, arith}
use Rattle.tg_live.specs.mirror.Search.{Found, found, stamp_at, has_stamp}
use Rattle.tg_live.proofs.Places.{goes_within}
use Rattle.tg_live.proofs.Searched.{entered_run}
use Rattle.tg_live.proofs.searches.Search.enter.Goals as goal

pub has_stamp-requires : goal.has_stamp-requires
has_stamp-requires c =
    let w = goes_within c.args.list.now c.args.at c.requires.live.next c.requires.live.goes in
    omega (arith, w, c.requires.size)

pub first_of_run-first-requires-clause-last : goal.first_of_run-first-requires-clause-last
first_of_run-first-requires-clause-last c =
    let w = goes_within c.args.list.now c.args.at c.requires.live.next c.requires.live.goes in
    omega (arith, w, c.requires.size)

pub mark-requires-clause-last : goal.mark-requires-clause-last
mark-requires-clause-last c =
    let w = goes_within c.args.list.now c.args.at c.requires.live.next c.requires.live.goes in
    omega (arith, w, c.requires.size)

pub returns : goal.returns
returns c =
    let f : Found = c.args.self.now in
    let first = c.first_of_run-first.result in
    let g : Found = found c.self.inside.marks.items c.push.new.self.items c.push-2.new.self.items in
    let w = goes_within c.args.list.now c.args.at c.requires.live.next c.requires.live.goes in
    let inside : c.args.at < length f.marks = omega (arith, w, c.requires.size) in
    let none : has_stamp c.args.stamp f.marks c.args.at ≡ false = sym c.has_stamp.ensures ∙ c.if-has_stamp.false in
    entered_run c.args.list.now c.args.one.now c.args.stamp c.args.before.now c.requires.before f g first c.args.at
    c.requires.found c.first_of_run-first.ensures.order inside c.requires.live none c.first_of_run-first.ensures.passed
    (ap (λ (h : Found). length h.marks) c.self.view_is ∙ c.mark.ensures.size)
    (λ q a b. ap (λ (h : Found). stamp_at h.marks q) c.self.view_is ∙ c.mark.ensures.inner q a b)
    (λ q o. ap (λ (h : Found). stamp_at h.marks q) c.self.view_is ∙ c.mark.ensures.outer q o)
    (c.in_ok-push.ensures.items
    ∙ ap (λ (ks : List ℕ). ks ++ first ∷ []) (ap (λ (h : Found). h.firsts) c.self.view_is ∙ c.mark.ensures.firsts))
    (c.in_ok-push-2.ensures.items
    ∙ ap (λ (ks : List ℕ). ks ++ c.args.at ∷ []) (ap (λ (h : Found). h.lasts) c.self.view_is ∙ c.mark.ensures.lasts))
