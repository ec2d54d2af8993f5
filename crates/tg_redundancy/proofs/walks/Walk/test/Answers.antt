use Rattle.std.proofs.Common.{sym, ap, ap₂, ◌∙◌, ◌++◌, ◌∷◌, []}
use Rattle.std.proofs.lemmas.Result.{on_ok_weaker}
use Rattle.tg_tree.specs.Operators.{opposite}
use Rattle.tg_redundancy.specs.mirror.Facts.{stands, is_untrue}
use Rattle.tg_redundancy.specs.mirror.Known.{with_claim}
use Rattle.tg_redundancy.specs.glue.Walks.{state_of}
use Rattle.tg_redundancy.proofs.Walking.{falls, jumps, parts}
use Rattle.tg_redundancy.proofs.walks.Walk.test.Goals as goal

pub returns-then-falls : goal.returns-then-falls
returns-then-falls c =
    let test = c.args.test.now in
    let x = c.stands-left.result in
    let y = c.stands-right.result in
    falls c.go_on.new.self test c.args.mark c.args.one.now (state_of c.args.self.now) (state_of c.take_known-facts.new.self)
    c.take_known-facts.result.items x y c.take_known-facts.ensures.facts c.take_known-facts.ensures.left
    (c.stands-left.ensures ∙ ap (λ l. stands l test.left) c.deref.ensures.value)
    (c.stands-right.ensures ∙ ap (λ l. stands l test.right) c.deref-2.ensures.value)
    c.args.list.now.items
    (sym c.if-falls.true ∙ (c.is_untrue-falls.ensures ∙ ap (is_untrue test.rel x y) c.deref-3.ensures.value))
    c.go_on.ensures

pub returns-then-jumps : goal.returns-then-jumps
returns-then-jumps c =
    let test = c.args.test.now in
    let x = c.stands-left.result in
    let y = c.stands-right.result in
    on_ok_weaker c.push_instr.result
    (λ list. jumps c.claim.new.self test c.args.mark c.args.one.now (state_of c.args.self.now) (state_of c.take_known-facts.new.self)
    c.take_known-facts.result.items x y c.take_known-facts.ensures.facts c.take_known-facts.ensures.left
    (c.stands-left.ensures ∙ ap (λ l. stands l test.left) c.deref.ensures.value)
    (c.stands-right.ensures ∙ ap (λ l. stands l test.right) c.deref-2.ensures.value)
    c.args.list.now.items c.push_instr.new.list.items
    (sym c.if-falls.false ∙ (c.is_untrue-falls.ensures ∙ ap (is_untrue test.rel x y) c.deref-3.ensures.value))
    (sym c.if-jumps.true ∙ (c.is_untrue-jumps.ensures ∙ ap₂ (λ r l. is_untrue r x y l) c.opposite.ensures c.deref-4.ensures.value))
    (c.in_ok-claim.ensures ∙ ap (λ l. with_claim c.args.mark l (state_of c.take_known-facts.new.self)) c.deref-then-jumps.ensures.value)
    list)
    c.push_instr.ensures.ok

pub returns : goal.returns
returns c =
    let test = c.args.test.now in
    let x = c.stands-left.result in
    let y = c.stands-right.result in
    on_ok_weaker c.push_same.result
    (λ list. parts c.part.new.self test c.args.mark c.args.one.now (state_of c.args.self.now) (state_of c.take_known-facts.new.self)
    c.take_known-facts.result.items x y c.take_known-facts.ensures.facts c.take_known-facts.ensures.left
    (c.stands-left.ensures ∙ ap (λ l. stands l test.left) c.deref.ensures.value)
    (c.stands-right.ensures ∙ ap (λ l. stands l test.right) c.deref-2.ensures.value)
    c.args.list.now.items c.push_same.new.list.items
    (sym c.if-falls.false ∙ (c.is_untrue-falls.ensures ∙ ap (is_untrue test.rel x y) c.deref-3.ensures.value))
    (sym c.if-jumps.false ∙ (c.is_untrue-jumps.ensures ∙ ap₂ (λ r l. is_untrue r x y l) c.opposite.ensures c.deref-4.ensures.value))
    c.in_ok-part.ensures
    list)
    c.push_same.ensures
