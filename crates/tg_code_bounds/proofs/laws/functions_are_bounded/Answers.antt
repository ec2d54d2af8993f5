use Rattle.tg_code_bounds.proofs.Allocating as allocating
use Rattle.tg_code_bounds.proofs.laws.functions_are_bounded.Goals as goal

pub returns : goal.returns
returns c =
    let length_stays = c.flatten_is_bounded.ensures.length in
    let few = c.munch_is_bounded.ensures in
    let code = allocating.code_is_short c.emit_is_bounded.ensures length_stays c.regalloc_is_bounded.ensures few.words c.known_is_bounded.ensures in
    let frames = allocating.frames_are_small length_stays c.flatten_is_bounded.ensures.needs few.few c.allocations_are_short.ensures.short in
    record { code = code; frames = frames; paid = allocating.functions_are_paid code frames }
