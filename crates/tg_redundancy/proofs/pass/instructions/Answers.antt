use Rattle.std.proofs.Common.{◌≡◌, ◌+◌, ◌++◌, length, get_or, drop, sym, ap, ◌∙◌, append-nil, arith}
use Rattle.std.proofs.lemmas.List.{at_drop_all}
use Rattle.tg_redundancy.specs.mirror.Known.{known_blocks, joined, most_facts}
use Rattle.tg_redundancy.specs.glue.Walks.{state_of}
use Rattle.tg_redundancy.proofs.WaysBehind.{flag_at, length_flags}
use Rattle.tg_redundancy.proofs.Passing.{blocks_more}
use Rattle.tg_redundancy.proofs.pass.instructions.Goals as goal

pub loop-at-init : goal.loop-at-init
loop-at-init c =
    let code = c.args.code.now in
    ap (λ list. list ++ joined (known_blocks most_facts code (state_of c.new-walk.result))) c.in_ok-list.ensures.items
    ∙ ap (λ s. joined (known_blocks most_facts code s)) c.new-walk.ensures

pub index-requires : goal.index-requires
index-requires c =
    let size = length_flags c.args.code.now in
    let same = ap length c.in_ok-from_behind.ensures in
    omega (arith, size, same, c.in_ok-from_behind.from_behind.ok.0, c.loop-at-test.true)

pub loop-at-preserved : goal.loop-at-preserved
loop-at-preserved c =
    let code = c.args.code.now in
    let at = c.loop-at.at in
    let one = c.index-code-at.result in
    let flag = c.index.result.now in
    let read = c.index.ensures ∙ ap (λ list. get_or list at flag) c.in_ok-from_behind.ensures in
    let is_flag = flag_at code at one flag c.loop-at-test.true c.index-code-at.is read in
    blocks_more code at one flag c.loop-at.list.items c.step.new.list.items (state_of c.loop-at.walk) c.step.new.self
    c.loop-at-test.true c.index-code-at.is is_flag c.in_ok-step.ensures
    ∙ c.loop-at.invariant

pub returns : goal.returns
returns c =
    let code = c.args.code.now in
    let walk = state_of c.loop-at.walk in
    sym (append-nil c.loop-at.list.items)
    ∙ (sym (at_drop_all (λ rest. c.loop-at.list.items ++ joined (known_blocks most_facts rest walk)) code c.loop-at.at c.loop-at-test.false)
    ∙ c.loop-at.invariant)
