use Rattle.std.proofs.Common.{◌≡◌, ◌≤◌, drop}
use Rattle.tg_show.specs.Layout.{measured}
use Rattle.tg_show.proofs.layouts.mode_of.Given as goal

abbrev pub invariant-loop-at : goal.invariant-loop-at
invariant-loop-at l = record {
  inner : l.inner ≤ l.at;
  mode : measured 0 0 l.text ≡ measured l.at l.inner (drop l.at l.text);
}
