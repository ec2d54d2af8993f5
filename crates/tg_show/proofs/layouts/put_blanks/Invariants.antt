use Rattle.std.proofs.Common.{◌≡◌, ◌++◌}
use Rattle.tg_show.specs.Layout.{blanks}
use Rattle.tg_show.proofs.layouts.put_blanks.Given as goal

abbrev pub invariant-loop-level : goal.invariant-loop-level
invariant-loop-level l = l.text.items ≡ l.initial.text.items ++ blanks l.level
