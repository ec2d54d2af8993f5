use Rattle.std.proofs.Common.{◌∙◌, sym, ap, rules}
use Rattle.std.proofs.lemmas.Fn.{always_returns_same}
use Rattle.tg_asm.specs.glue.Entries.{again_among}
use Rattle.tg_asm.proofs.Orders.{goes_before, goes_before_order, ordered_from, sorted_told, sorted_finds, strict_from}
use Rattle.tg_asm.proofs.labels.Labels.sorted.Goals as goal

pub returns-in-Some : goal.returns-in-Some
returns-in-Some c =
    let up = c.sort_unstable_by.ensures.sorted goes_before goes_before_order (always_returns_same _ _ _ (λ a r f' k. search rules)) in
    sorted_told c.args.entries.items c.sort_unstable_by.new.self.items c.requires c.sort_unstable_by.ensures.permutation up
    ∙ ap again_among (sym c.deref.ensures.value) ∙ sym c.first_line_again.ensures ∙ c.in-Some.is

pub invariant_of-result : goal.invariant_of-result
invariant_of-result c =
    let up = c.sort_unstable_by.ensures.sorted goes_before goes_before_order (always_returns_same _ _ _ (λ a r f' k. search rules)) in
    let none = ap again_among (sym c.deref.ensures.value) ∙ sym c.first_line_again.ensures ∙ c.in-None.is in
    strict_from c.sort_unstable_by.new.self.items (ordered_from _ up) none

pub returns : goal.returns
returns c =
    let up = c.sort_unstable_by.ensures.sorted goes_before goes_before_order (always_returns_same _ _ _ (λ a r f' k. search rules)) in
    let none = ap again_among (sym c.deref.ensures.value) ∙ sym c.first_line_again.ensures ∙ c.in-None.is in
    sorted_finds c.args.entries.items c.sort_unstable_by.new.self.items c.requires c.sort_unstable_by.ensures.permutation up none
