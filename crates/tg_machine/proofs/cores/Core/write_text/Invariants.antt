use Rattle.std.proofs.Common.{◌-◌, ◌≤◌, take, IfOk}
use Rattle.std.specs.Io.KnownBytes.{Appends}
use Rattle.tg_machine_state.specs.Services.{text_at}
use Rattle.tg_machine.proofs.cores.Core.write_text.Given as goal

-- the sink took the bytes of the text that are done
abbrev pub invariant-loop-done : goal.invariant-loop-done
invariant-loop-done g l =
    (g.O.Sink.faults l.initial.out ≤ g.O.Sink.faults l.out)
    × (l.done ≤ l.size)
    × IfOk (text_at l.self l.address) (λ text. Appends (g.O.Sink.taken l.initial.out) (g.O.Sink.taken l.out) (take l.done text))

abbrev pub decreases-loop-done : goal.decreases-loop-done
decreases-loop-done g l = l.size - l.done
