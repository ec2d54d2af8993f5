-- What the code's parts, expressions and conditions say, without boxes and vectors. Lists under way
-- stand in the code with their first member last.
use Rattle.std.specs.Prelude.{reverse}
use Rattle.tg_tree.specs.glue.Plain.{plain_tx, plain_cond, plain_ts}
use Rattle.tg_tree.specs.glue.Lists.{txs_of, stms_of}
use Rattle.tg_canon.specs.declared.parts.Part.{Part}
use Rattle.tg_canon.specs.declared.parts.Parts.{Parts}
use Rattle.tg_canon.specs.declared.hoisted.Hoisted.{Hoisted}
use Rattle.tg_canon.specs.declared.hoisted.Two.{Two}
use Rattle.tg_canon.specs.declared.hoisted.Arguments.{Arguments}
use Rattle.tg_canon.specs.declared.tested.Tested.{Tested}
use Rattle.tg_canon.specs.declared.opened.Opened.{Opened}
use Rattle.tg_canon.specs.declared.opened.Opened.TheVariants.{Move, Store, StoreByte, Do, If}
use Rattle.tg_canon.specs.declared.opened.Opened.TheVariants.{Loop, Break, Fault, Seq, Return}
use Rattle.tg_tree.specs.Tree as tree
use Rattle.tg_canon.specs.mirror.Canon as canon

abbrev pub plain_part : Part → canon.Part
plain_part p = record { statement = plain_ts p.statement; least = p.least; greatest = p.greatest }

abbrev pub plain_parts : Parts → canon.Parts
plain_parts all = record {
  list = stms_of (reverse all.reversed.items);
  least = all.least;
  greatest = all.greatest;
}

abbrev pub plain_hoisted : Hoisted → canon.Hoisted
plain_hoisted a = record { front = plain_part a.front; rest = plain_tx a.rest }

abbrev pub plain_two : Two → canon.Two
plain_two a = record {
  front = plain_part a.front;
  left = plain_tx a.left;
  right = plain_tx a.right;
}

abbrev pub plain_arguments : Arguments → canon.Arguments
plain_arguments all = record {
  front = plain_part all.front;
  rest = txs_of (reverse all.reversed.items);
}

abbrev pub plain_tested : Tested → canon.Tested
plain_tested t = record { front = plain_part t.front; condition = plain_cond t.condition }

abbrev pub plain_opened : Opened → tree.Ts
plain_opened (Move temp x) = tree.Move temp.0 (plain_tx x.value)
plain_opened (Store x y) = tree.Store (plain_tx x.value) (plain_tx y.value)
plain_opened (StoreByte x y) = tree.StoreByte (plain_tx x.value) (plain_tx y.value)
plain_opened (Do x) = tree.Do (plain_tx x.value)
plain_opened (If c s t) = tree.If (plain_cond c.value) (plain_ts s.value) (plain_ts t.value)
plain_opened (Loop s) = tree.Loop (plain_ts s.value)
plain_opened (Break k) = tree.Break k
plain_opened (Fault n) = tree.Fault n
plain_opened (Seq ss) = tree.Seq (stms_of ss.items.items)
plain_opened (Return x) = tree.Return (plain_tx x.value)
