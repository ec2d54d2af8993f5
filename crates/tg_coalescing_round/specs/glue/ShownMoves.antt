-- What contracts see of the fields of a table of moves.
use Rattle.tg_coalescing_round.specs.declared.tables.MoveTable.TheInside.{Inside}
use Rattle.tg_coalescing_round.specs.glue.Lists.{numbers_in}
use Rattle.tg_coalescing_round.specs.glue.Tables.{Table}

abbrev pub table_of : Inside → Table
table_of t = record {
  moves = t.moves.items;
  states = t.states;
  ready = t.ready.items;
  touching = numbers_in t.touching.items;
  unsettled = t.unsettled.items;
}
