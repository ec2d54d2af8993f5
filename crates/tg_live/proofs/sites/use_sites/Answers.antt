use Rattle.std.proofs.Common.{◌≡◌, ◌<◌, ◌≤◌, ◌+◌, true, List, [], length, replicate, drop, sym, ap, ◌∙◌, subst, arith}
use Rattle.std.specs.List.{list_all}
use Rattle.std.proofs.lemmas.List.{drop_all, take_all}
use Rattle.tg_instr.specs.declared.instr.Instr.{Instr}
use Rattle.tg_instr.specs.declared.instr.Instr.TheVariants.{Return}
use Rattle.tg_live.specs.glue.Tables.{Table, row, add_from, numbers_used, AreSites}
use Rattle.tg_live.proofs.Turned.{length-add_to, add_from_more}
use Rattle.tg_live.proofs.Places.{uses_are_proper, uses_proper_more, length-numbers_used, sites_of}
use Rattle.tg_live.proofs.sites.use_sites.Goals as goal

pub loop-at-preserved : goal.loop-at-preserved
loop-at-preserved c =
    let list = c.as_slice-list.result.now in
    let lists = numbers_used list in
    let at = c.loop-at.at in
    let l : at < length lists = omega (arith, length-numbers_used list, c.loop-at-test.true) in
    record {
      added = ap (add_from (at + 1) (drop (at + 1) lists)) c.in_ok-add_uses.ensures.added
          ∙ (sym (add_from_more lists at c.loop-at.sites l) ∙ c.loop-at.invariant.added);
      size = ap (λ (t : Table). length t) c.in_ok-add_uses.ensures.added
          ∙ (length-add_to at (row lists at) c.loop-at.sites ∙ c.loop-at.invariant.size);
      proper = uses_proper_more list at Return c.loop-at-test.true c.loop-at.invariant.proper
          c.in_ok-add_uses.ensures.proper;
    }

pub returns-clause-sites : goal.returns-clause-sites
returns-clause-sites c =
    let code = c.args.code.now in
    let list = c.as_slice-list.result.now in
    let at = c.loop-at.at in
    let l : length (numbers_used list) ≤ at = omega (arith, length-numbers_used list, c.loop-at-test.false) in
    let made = sym (ap (λ rest. add_from at rest c.loop-at.sites) (drop_all at (numbers_used list) l))
    ∙ c.loop-at.invariant.added in
    let proper =
    sym (ap (list_all uses_are_proper) (take_all at list c.loop-at-test.false)) ∙ c.loop-at.invariant.proper in
    let P : List Instr → Type 0 = λ all. list_all uses_are_proper all ≡ true in
    let Q : Table → Type 0 = λ t. AreSites code.list t in
    subst Q (sym (made
    ∙ ap (λ (all : List Instr). add_from 0 (numbers_used all)
    (replicate (32 + code.temps) [])) c.as_slice-list.ensures))
    (sites_of code.temps code.list (subst P c.as_slice-list.ensures proper) code.temps_below)
