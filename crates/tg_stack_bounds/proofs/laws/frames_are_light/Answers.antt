use Rattle.tg_stack_bounds.proofs.Weighing.{frames_are_light, programs_are_light}
use Rattle.tg_stack_bounds.proofs.laws.frames_are_light.Goals as goal

pub returns : goal.returns
returns c =
    let few = c.temporaries_are_few.ensures in
    let frames =
    frames_are_light c.flatten_is_bounded.ensures.length c.flatten_is_bounded.ensures.needs few.few few.shifts
    c.allocations_are_short.ensures.short in
    record {
      frames = frames;
      programs =
          programs_are_light frames c.functions_are_bounded.ensures.frames c.bodies_are_closed.ensures.checked
          c.temporaries_are_drawn.ensures.checked c.routines_are_closed.ensures.routines c.trees_are_light.ensures;
    }
