use Rattle.std.proofs.Common.{◌≡◌, ℕ, List, ◌+◌, ◌||◌, nat_eq, take, get_or, sym, ap, ◌∙◌, subst}
use Rattle.std.specs.List.{list_any}
use Rattle.std.proofs.lemmas.Bool.{false≢true}
use Rattle.std.proofs.lemmas.List.{take_all}
use Rattle.std.proofs.lemmas.List.Folds.{list_any_more}
use Rattle.tg_live.specs.Flow.{goes_on}
use Rattle.tg_live.specs.mirror.Search.{AreEntered, has}
use Rattle.tg_live.proofs.Reach.{live_before_use}
use Rattle.tg_live.proofs.Searched.{entered_itself, entered_both, has_at}
use Rattle.tg_live.proofs.searches.Search.enter_before.Goals as goal

pub enter_all-requires-clause-size : goal.enter_all-requires-clause-size
enter_all-requires-clause-size c = c.loop-place.invariant.size ∙ c.requires.size

pub enter_all-requires-clause-found : goal.enter_all-requires-clause-found
enter_all-requires-clause-found c = c.loop-place.invariant.is_found

pub enter_all-requires-clause-live : goal.enter_all-requires-clause-live
enter_all-requires-clause-live c = λ q h.
    let i = c.loop-place.place-index in
    let p = get_or c.args.sites.now i 0 in
    let used = c.requires.sites p (has_at c.args.sites.now i c.loop-place-test.true) in
    live_before_use c.args.list.now c.args.one.now q p
    (sym (c.requires.before q p) ∙ (ap (list_any (nat_eq q)) (sym c.row.ensures) ∙ h)) used

pub loop-place-init : goal.loop-place-init
loop-place-init c =
    entered_itself c.args.list.now c.args.one.now c.args.stamp
    (λ q. list_any (goes_on c.args.list.now q) (take 0 c.args.sites.now)) c.args.self.now c.requires.found
    (λ q h. absurd (false≢true h))

pub loop-place-preserved : goal.loop-place-preserved
loop-place-preserved c =
    let list = c.args.list.now in
    let sites = c.args.sites.now in
    let i = c.loop-place.place-index in
    let p = get_or sites i 0 in
    let there : (q : ℕ) → goes_on list q p ≡ has c.row.result.now q =
    λ q. sym (c.requires.before q p) ∙ ap (list_any (nat_eq q)) (sym c.row.ensures) in
    entered_both list c.args.one.now c.args.stamp (λ q. list_any (goes_on list q) (take i sites)) (has c.row.result.now)
    (λ q. list_any (goes_on list q) (take (i + 1) sites)) c.args.self.now c.loop-place.self c.enter_all.new.self
    c.loop-place.invariant c.in_ok-enter_all.ensures
    (λ q h. ap (λ b. list_any (goes_on list q) (take i sites) || b) (sym (there q))
    ∙ (sym (list_any_more (goes_on list q) sites i 0 c.loop-place-test.true) ∙ h))

pub returns : goal.returns
returns c =
    subst (λ (ks : List ℕ). AreEntered c.args.list.now c.args.one.now c.args.stamp
    (λ q. list_any (goes_on c.args.list.now q) ks) c.args.self.now c.loop-place.self)
    (take_all c.loop-place.place-index c.args.sites.now c.loop-place-test.false) c.loop-place.invariant
