use Rattle.std.proofs.Common.{◌≡◌, [], take}
use Rattle.tg_explain.specs.mirror.Stacks.{after_all}
use Rattle.tg_explain.proofs.openers.last_open.Given as goal

abbrev pub invariant-loop-one : goal.invariant-loop-one
invariant-loop-one l = l.stack ≡ after_all (take l.one-index l.tokens) []
