use Rattle.std.specs.Io.KnownBytes.{Keeps}
use Rattle.tg_cli.proofs.interrupts.read_again.Given as goal

-- an interrupted read has taken nothing
abbrev pub invariant-loop : goal.invariant-loop
invariant-loop g l = Keeps (g.R.Read.remaining l.initial.reader) (g.R.Read.remaining l.reader)
