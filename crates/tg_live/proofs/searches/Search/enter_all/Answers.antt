use Rattle.std.proofs.Common.{◌+◌, nat_eq, take, get_or, sym, ◌∙◌, subst, List, ℕ}
use Rattle.std.proofs.lemmas.Bool.{false≢true}
use Rattle.std.proofs.lemmas.List.{take_all}
use Rattle.std.proofs.lemmas.List.Folds.{list_any_more}
use Rattle.tg_live.specs.mirror.Search.{AreEntered, has}
use Rattle.tg_live.proofs.Searched.{entered_itself, entered_both, has_at}
use Rattle.tg_live.proofs.searches.Search.enter_all.Goals as goal

pub enter-requires-clause-size : goal.enter-requires-clause-size
enter-requires-clause-size c = c.loop-place.invariant.size ∙ c.requires.size

pub enter-requires-clause-found : goal.enter-requires-clause-found
enter-requires-clause-found c = c.loop-place.invariant.is_found

pub enter-requires-clause-live : goal.enter-requires-clause-live
enter-requires-clause-live c =
    let i = c.loop-place.place-index in
    c.requires.live (get_or c.args.places.now i 0) (has_at c.args.places.now i c.loop-place-test.true)

pub loop-place-init : goal.loop-place-init
loop-place-init c =
    entered_itself c.args.list.now c.args.one.now c.args.stamp (has (take 0 c.args.places.now)) c.args.self.now
    c.requires.found (λ q h. absurd (false≢true h))

pub loop-place-preserved : goal.loop-place-preserved
loop-place-preserved c =
    let places = c.args.places.now in
    let i = c.loop-place.place-index in
    entered_both c.args.list.now c.args.one.now c.args.stamp (has (take i places)) (λ q. nat_eq q (get_or places i 0))
    (has (take (i + 1) places)) c.args.self.now c.loop-place.self c.enter.new.self c.loop-place.invariant
    c.in_ok-enter.ensures (λ q h. sym (list_any_more (nat_eq q) places i 0 c.loop-place-test.true) ∙ h)

pub returns : goal.returns
returns c =
    subst (λ (ks : List ℕ). AreEntered c.args.list.now c.args.one.now c.args.stamp (has ks) c.args.self.now c.loop-place.self)
    (take_all c.loop-place.place-index c.args.places.now c.loop-place-test.false) c.loop-place.invariant
