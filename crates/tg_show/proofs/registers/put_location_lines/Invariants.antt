use Rattle.std.proofs.Common.{◌≡◌, ◌++◌, drop}
use Rattle.tg_show.specs.Registers.{location_lines}
use Rattle.tg_show.proofs.registers.put_location_lines.Given as goal

abbrev pub invariant-loop-temp : goal.invariant-loop-temp
invariant-loop-temp l =
    l.initial.text.items ++ location_lines l.names 0 l.locations
    ≡ l.text.items ++ location_lines l.names l.temp (drop l.temp l.locations)
