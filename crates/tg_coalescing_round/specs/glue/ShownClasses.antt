-- What contracts see of the fields of classes.
use Rattle.tg_coalescing_round.specs.declared.classes.Classes.TheInside.{Inside}
use Rattle.tg_coalescing_round.specs.glue.Lists.{numbers_in}
use Rattle.tg_coalescing_round.specs.glue.Groupings.{Grouping}

abbrev pub grouping_of : Inside → Grouping
grouping_of c = record {
  aliases = c.aliases.items;
  members = numbers_in c.members.items;
  uses = c.uses.items;
  made = c.made.items;
}
