use Rattle.tg_stages.proofs.Counts.{each_allocated}
use Rattle.tg_syntax.specs.glue.Plain.{plain}
use Rattle.tg_compile.specs.Compiling.{fragments_of}
use Rattle.tg_stages.proofs.programs.show_checked.Goals as goal

pub show-requires-clause-each : goal.show-requires-clause-each
show-requires-clause-each g c =
    let checked = c.args.checked.now in
    rw c.deref.ensures.value
    (each_allocated c.args.passes _ (fragments_of checked.notes (plain checked.program.body)) _ c.in_ok-compiled.ensures.compiles.functions_are)

pub show-requires-clause-emittable : goal.show-requires-clause-emittable
show-requires-clause-emittable g c = rw c.deref.ensures.value c.in_ok-compiled.ensures.compiles.program.emittable

pub show-requires-clause-allocated : goal.show-requires-clause-allocated
show-requires-clause-allocated g c =
    rw c.deref.ensures.value (record { rule = _; are_allocations = c.in_ok-compiled.ensures.compiles.functions_are })

pub returns-clause-shows : goal.returns-clause-shows
returns-clause-shows g c = record {
  allocations = c.in_ok-compiled.compiled.allocations.items;
  assembly = c.in_ok-compiled.compiled.text.items;
  compiles = c.in_ok-compiled.ensures.compiles;
  is_shown = rw c.deref.ensures.value at c.in_ok-show.ensures;
}
