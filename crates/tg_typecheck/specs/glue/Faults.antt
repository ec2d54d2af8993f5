-- The code's limits as the definition's.
use Rattle.std.specs.Prelude.{ℕ, Option}
use Rattle.std.specs.Option.{option_map}
use Rattle.tg_typecheck.specs.declared.faults.TypeRule.{TypeRule}
use Rattle.tg_typecheck.specs.declared.limits.Limit.{Limit}

abbrev pub rule_and_byte : Option Limit → Option (TypeRule × ℕ)
rule_and_byte limit = option_map (λ l. (l.rule, l.at)) limit
