use Rattle.std.proofs.Common.{◌++◌, ◌∷◌, [], map, ap, sym, ◌∙◌, zero-add}
use Rattle.std.specs.List.{range_with_len}
use Rattle.std.proofs.lemmas.List.FromFn.{map-range_with_len_more}
use Rattle.tg_regalloc.specs.Painting.{colour_in}
use Rattle.tg_regalloc.specs.Rewriting.{slot_in}
use Rattle.tg_regalloc.specs.Rounds.{location_in}
use Rattle.tg_regalloc.proofs.progress.locations_of.Goals as goal

pub loop-at-preserved : goal.loop-at-preserved
loop-at-preserved c =
    let more = map-range_with_len_more (λ t. location_in (slot_in c.args.slots.now t) (colour_in c.args.colours.now t)) 0 c.loop-at.at c.loop-at.at (zero-add c.loop-at.at) in
    c.in_ok-push.ensures.items ∙ (ap (λ l. l ++ c.location_of.result ∷ []) c.loop-at.invariant
    ∙ (ap (λ h. map (λ t. location_in (slot_in c.args.slots.now t) (colour_in c.args.colours.now t)) (range_with_len 0 c.loop-at.at) ++ h ∷ []) c.location_of.ensures
    ∙ sym more))
