-- What contracts see of the fields of a round's work.
use Rattle.tg_coalescing_round.specs.declared.states.Coalescer.TheInside.{Inside}
use Rattle.tg_coalescing_round.specs.glue.Works.{Work}

abbrev pub work_of : Inside → Work
work_of w = record {
  graph = w.graph;
  lists = w.lists;
  degrees = w.degrees.items;
  classes = w.classes;
  moves = w.moves;
  stack = w.stack.items;
  steps = w.steps.items;
}
