use Rattle.std.proofs.Common.{◌≡◌, drop, map, ◌++◌}
use Rattle.tg_translate.specs.mirror.Scopes.{findings_of}
use Rattle.tg_translate.specs.mirror.Functions.{asked, at_of}
use Rattle.tg_translate.proofs.functions.asked.Given as goal

abbrev pub invariant-loop-param : goal.invariant-loop-param
invariant-loop-param l =
    asked (findings_of l.findings).escapes l.link_in_slot l.params
    ≡ l.asked.items ++ map (λ p. (findings_of l.findings).escapes (at_of p.name)) (drop l.param-index l.params)
