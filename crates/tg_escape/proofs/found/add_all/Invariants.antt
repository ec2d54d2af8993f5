use Rattle.std.proofs.Common.{◌≡◌, drop}
use Rattle.tg_escape.specs.glue.Searches.{with_all}
use Rattle.tg_escape.proofs.found.add_all.Given as goal

abbrev pub invariant-loop-function : goal.invariant-loop-function
invariant-loop-function l = with_all (drop l.function-index l.functions) l.links ≡ with_all l.functions l.fn.links
