use Rattle.std.proofs.Common.{◌≡◌, ℕ, List, ◌++◌, length, take, drop, get_or, refl, sym, ap, ◌∙◌, arith}
use Rattle.std.proofs.lemmas.List.{length-set}
use Rattle.tg_coalescing_round.specs.glue.Lists.{numbers_in}
use Rattle.tg_graph.proofs.Vectors.{list_read, lists_sized}
use Rattle.tg_coalescing_round.specs.glue.Groupings.{Grouping}
use Rattle.tg_coalescing_round.specs.glue.Lists.{conjoined, list_at, moved_sum, set_at_all}
use Rattle.tg_coalescing_round.specs.glue.ShownClasses.{grouping_of}
use Rattle.tg_coalescing_round.proofs.Classing.{joined_grouping, relabelled_grouping, same_grouping}
use Rattle.tg_coalescing_round.proofs.Listing.{length_moved_sum, length_set_at_all}
use Rattle.tg_coalescing_round.proofs.Vectors.{items_of, all_written}
use Rattle.tg_coalescing_round.proofs.classes.Classes.join.Goals as goal
use Rattle.tg_coalescing_round.proofs.classes.Classes.join.Goals.{After-deref, After-relabel}

-- the members of the class that goes
members_read : (c : After-deref) → list_at (numbers_in c.self.inside.members.items) c.args.gone ≡ c.deref.result.now
members_read c =
    let i = c.self.inside in
    let size = ap (λ (g : Grouping). length g.aliases) c.self.view_is in
    let sized = lists_sized items_of i.members.items _ refl in
    list_read items_of i.members.items c.args.gone c.index.result.now
    (omega (arith, size, sized, c.requires.gone, c.self.invariant.members_sized)) c.index.ensures
    ∙ sym c.deref.ensures

-- the aliases as they were relabelled
aliases_written : (c : After-relabel) →
    take c.self.inside.aliases.len
    (c.relabel.new.aliases ++ drop (length c.relabel.new.aliases) c.self.inside.aliases.items)
    ≡ set_at_all c.args.kept c.deref.result.now c.self.inside.aliases.items
aliases_written c =
    let i = c.self.inside in
    let places = c.deref.result.now in
    let written = c.relabel.ensures ∙ ap (set_at_all c.args.kept places) c.deref_mut.ensures.value in
    let long : length c.relabel.new.aliases ≡ i.aliases.len =
    omega (arith, ap length written, length_set_at_all c.args.kept places i.aliases.items, i.aliases.ok.0) in
    all_written i.aliases.items c.relabel.new.aliases i.aliases.len long ∙ written

pub relabel-requires : goal.relabel-requires
relabel-requires c =
    let size = ap (λ (g : Grouping). length g.aliases) c.self.view_is in
    let read = members_read (goal.at.relabel-requires c).After-deref in
    λ k d l. let below = c.self.invariant.members_below c.args.gone k d (omega (arith, ap length read, l)) in
    let same = ap (λ (xs : List ℕ). get_or xs k d) read in
    let whole = ap length c.deref_mut.ensures.value in omega (arith, same, below, whole)

pub invariant_of-self : goal.invariant_of-self
invariant_of-self c =
    let g = grouping_of c.self.inside in
    let size = ap (λ (v : Grouping). length v.aliases) c.self.view_is in
    same_grouping _
    (relabelled_grouping g c.self.invariant c.args.kept c.args.gone c.deref.result.now
    (omega (arith, size, c.requires.kept)))
    _ _ g.uses g.made (aliases_written (goal.at.invariant_of-self c).After-relabel) c.in_err-pour.ensures.err refl refl

pub invariant_of-self-2 : goal.invariant_of-self-2
invariant_of-self-2 c =
    let i = c.self.inside in
    let g = grouping_of i in
    let size = ap (λ (v : Grouping). length v.aliases) c.self.view_is in
    let read = members_read (goal.at.invariant_of-self-2 c).After-deref in
    let summed = c.move_sum.ensures ∙ ap (moved_sum c.args.kept c.args.gone) c.deref_mut-2.ensures.value in
    let as_long : length c.move_sum.new.sums ≡ i.uses.len =
    omega (arith, ap length summed, length_moved_sum c.args.kept c.args.gone i.uses.items, i.uses.ok.0) in
    let now = joined_grouping g c.self.invariant c.args.kept c.args.gone (omega (arith, size, c.requires.kept))
    (omega (arith, size, c.requires.gone)) in
    let made = i.made.items in
    let met = c.conjoin.ensures ∙ ap (conjoined c.args.kept c.args.gone) c.deref_mut-3.ensures.value in
    let made_long : length c.conjoin.new.list ≡ i.made.len =
    ap length met ∙ (length-set made c.args.kept _ ∙ sym i.made.ok.0) in
    same_grouping _ now _ _ _ _
    (aliases_written (goal.at.invariant_of-self-2 c).After-relabel
    ∙ ap (λ (xs : List ℕ). set_at_all c.args.kept xs i.aliases.items) (sym read))
    c.in_ok-pour.ensures.ok
    (all_written i.uses.items c.move_sum.new.sums i.uses.len as_long ∙ summed)
    (all_written made c.conjoin.new.list i.made.len made_long ∙ met)
