-- The search from its start to its end.
use Rattle.std.proofs.Common.{◌<◌, ◌≤◌, ℕ, not, ◌&&◌, length, sym, ap, ◌∙◌, subst, arith}
use Rattle.std.specs.List.{list_any}
use Rattle.tg_live.specs.Flow.{goes_on}
use Rattle.tg_live.specs.Live.{is_defined, IsLiveOut}
use Rattle.tg_live.specs.mirror.Search.{Found, AreEntered, IsFound}
use Rattle.tg_live.proofs.Searched.{begins, comes_nearer, ends, fresh, goes_further, place_live}
use Rattle.tg_live.proofs.searches.Search.run.Goals as goal

pub enter_before-requires-clause-size : goal.enter_before-requires-clause-size
enter_before-requires-clause-size c = ap (λ (f : Found). length f.marks) c.restart.ensures ∙ c.requires.size

pub enter_before-requires-clause-found : goal.enter_before-requires-clause-found
enter_before-requires-clause-found c =
    subst (IsFound c.args.list.now c.args.one.now c.args.stamp) (sym c.restart.ensures)
    (fresh c.args.list.now c.args.one.now c.args.stamp c.args.self.now.marks c.requires.fresh)

pub enter_before-requires-clause-sites : goal.enter_before-requires-clause-sites
enter_before-requires-clause-sites c = λ at h. sym (c.requires.sites at) ∙ h

pub loop-done-init : goal.loop-done-init
loop-done-init c =
    let list = c.args.list.now in
    let sites = c.args.sites.now in
    let P : Found → Type 0 =
    λ f. AreEntered list c.args.one.now c.args.stamp (λ q. list_any (goes_on list q) sites) f c.enter_before.new.self in
    begins list c.args.one.now c.args.stamp c.args.self.now.marks sites c.enter_before.new.self c.requires.fresh
    c.requires.sites (subst P c.restart.ensures c.in_ok-enter_before.ensures)

pub visit-requires-clause-size : goal.visit-requires-clause-size
visit-requires-clause-size c = c.loop-done.invariant.size ∙ c.requires.size

pub visit-requires-clause-found : goal.visit-requires-clause-found
visit-requires-clause-found c = c.loop-done.invariant.is_found

pub visit-requires-clause-live : goal.visit-requires-clause-live
visit-requires-clause-live c =
    let l : c.loop-done.done < length c.loop-done.self.firsts = omega (arith, c.loop-done-test.true, c.first_count.ensures) in
    subst (λ (k : ℕ). IsLiveOut c.args.list.now k c.args.one.now) (sym c.first-place.ensures)
    (place_live c.args.list.now c.args.one.now c.args.stamp c.args.self.now.marks c.loop-done.self c.loop-done.done
    c.loop-done.invariant l)

pub loop-done-smaller : goal.loop-done-smaller
loop-done-smaller c =
    let l : c.loop-done.done < length c.loop-done.self.firsts = omega (arith, c.loop-done-test.true, c.first_count.ensures) in
    comes_nearer c.args.list.now c.args.one.now c.args.stamp c.args.self.now.marks c.loop-done.self c.visit.new.self
    c.loop-done.done _ c.in_ok-visit.ensures l

pub loop-done-preserved : goal.loop-done-preserved
loop-done-preserved c =
    let list = c.args.list.now in
    let x = c.args.one.now in
    let f = c.loop-done.self in
    let l : c.loop-done.done < length f.firsts = omega (arith, c.loop-done-test.true, c.first_count.ensures) in
    let P : ℕ → Type 0 =
    λ k. AreEntered list x c.args.stamp (λ q. not (is_defined list x k) && goes_on list q k) f c.visit.new.self in
    goes_further list x c.args.stamp c.args.self.now.marks f c.visit.new.self c.loop-done.done c.loop-done.invariant l
    (subst P c.first-place.ensures c.in_ok-visit.ensures)

pub returns : goal.returns
returns c =
    let l : length c.loop-done.self.firsts ≤ c.loop-done.done =
    omega (arith, c.loop-done-test.false, c.first_count.ensures) in
    ends c.args.list.now c.args.one.now c.args.stamp c.args.self.now.marks c.loop-done.self c.loop-done.done
    c.loop-done.invariant l
