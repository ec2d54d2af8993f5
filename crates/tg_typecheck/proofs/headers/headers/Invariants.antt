use Rattle.tg_typecheck.proofs.HeaderChecks.{HeadersOn}
use Rattle.tg_typecheck.proofs.headers.headers.Given as goal

abbrev pub invariant-loop-function : goal.invariant-loop-function
invariant-loop-function l = HeadersOn l.names l.state l.function-items l.signatures.items l.function-index
