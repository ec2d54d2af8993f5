use Rattle.std.proofs.Common.{subst}
use Rattle.tg_syntax.specs.Grammar.{IsProgram}
use Rattle.tg_syntax.specs.glue.Plain.{plain}
use Rattle.tg_pass_tests.proofs.Checkable.{checkable}
use Rattle.tg_pass_tests.proofs.reading.source_of.Goals as goal

pub returns : goal.returns
returns c =
    checkable (plain c.in_ok-program.program.body) c.in_ok-tokens.ensures.lexed
    (subst (λ ts. IsProgram ts (plain c.in_ok-program.program.body)) c.deref.ensures.value c.in_ok-program.ensures.program)
