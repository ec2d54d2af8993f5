use Rattle.std.proofs.Common.{◌≡◌, length, take}
use Rattle.std.specs.Prelude.{map}
use Rattle.tg_tree.specs.glue.Plain.{plain_fragment}
use Rattle.tg_stages.specs.Programs.{TellFrom}
use Rattle.tg_stages.proofs.programs.show.Given as goal

abbrev pub invariant-loop-one : goal.invariant-loop-one
invariant-loop-one l = record {
  at : l.at ≡ length l.yielded;
  tell : TellFrom l.passes l.long l.all.items l.own 0 (map plain_fragment l.yielded) (take l.at l.allocations) l.shown.items;
}
