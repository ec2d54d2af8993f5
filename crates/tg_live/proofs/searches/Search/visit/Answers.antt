use Rattle.std.proofs.Common.{◌≡◌, true, false, not, nat_eq, ◌&&◌, List, sym, ap, ◌∙◌}
use Rattle.std.specs.List.{list_any}
use Rattle.std.proofs.lemmas.Bool.{and_parts, both_ways, not-true}
use Rattle.tg_instr.specs.declared.operands.Opnd.{Opnd}
use Rattle.tg_live.specs.Flow.{goes_on}
use Rattle.tg_live.specs.Live.{is_among, is_defined}
use Rattle.tg_live.specs.glue.Tables.{row}
use Rattle.tg_live.specs.mirror.Search.{has}
use Rattle.tg_live.proofs.Reach.{live_before}
use Rattle.tg_live.proofs.Searched.{entered_as, entered_itself}
use Rattle.tg_live.proofs.searches.Search.visit.Goals as goal

pub enter_all-requires-clause-live : goal.enter_all-requires-clause-live
enter_all-requires-clause-live c = λ q h.
    let place = c.args.place in
    let undefined : is_defined c.args.list.now c.args.one.now place ≡ false =
    sym (ap (λ (ds : List (List Opnd)). is_among c.args.one.now (row ds place)) c.requires.defs)
    ∙ (sym c.has.ensures ∙ c.if-has.false) in
    live_before c.args.list.now c.args.one.now q place
    (sym (c.requires.before q place) ∙ (ap (list_any (nat_eq q)) (sym c.row.ensures) ∙ h)) undefined c.requires.live

pub returns-then-has : goal.returns-then-has
returns-then-has c =
    let list = c.args.list.now in
    let place = c.args.place in
    let defined : is_defined list c.args.one.now place ≡ true =
    sym (ap (λ (ds : List (List Opnd)). is_among c.args.one.now (row ds place)) c.requires.defs)
    ∙ (sym c.has.ensures ∙ c.if-has.true) in
    entered_itself list c.args.one.now c.args.stamp
    (λ q. not (is_defined list c.args.one.now place) && goes_on list q place) c.args.self.now c.requires.found
    (λ q h.
    let k = and_parts (not (is_defined list c.args.one.now place)) (goes_on list q place) h in
    absurd (both_ways _ (not-true _ k.0) defined))

pub returns : goal.returns
returns c =
    let list = c.args.list.now in
    let place = c.args.place in
    entered_as list c.args.one.now c.args.stamp (has c.row.result.now)
    (λ q. not (is_defined list c.args.one.now place) && goes_on list q place) c.args.self.now c.enter_all.new.self
    (λ q h.
    let k = and_parts (not (is_defined list c.args.one.now place)) (goes_on list q place) h in
    ap (list_any (nat_eq q)) c.row.ensures ∙ (c.requires.before q place ∙ k.1)) c.in_ok-enter_all.ensures
