use Rattle.std.proofs.lemmas.Result.{IfOk-weaker}
use Rattle.tg_syntax_laws.proofs.Standing.{tokens_stand}
use Rattle.tg_lexer.proofs.TokenEnds.{ends_once}
use Rattle.tg_explain_source.specs.Explained.{syntactic}
use Rattle.tg_explain_source.proofs.explaining.explain_tokens.Goals as goal

pub parse-requires : goal.parse-requires
parse-requires c = record { ends = rw c.deref.ensures.value (ends_once c.requires.lexed) }

pub explain_syntax-requires-clause-stand : goal.explain_syntax-requires-clause-stand
explain_syntax-requires-clause-stand c = tokens_stand c.requires.lexed

pub explain_syntax-requires-clause-ends : goal.explain_syntax-requires-clause-ends
explain_syntax-requires-clause-ends c = ends_once c.requires.lexed

pub returns-in_ok-detail-in-Err-Bad : goal.returns-in_ok-detail-in-Err-Bad
returns-in_ok-detail-in-Err-Bad c =
    IfOk-weaker c.syntax_lines.result _ _
    (λ lines is. syntactic c.in-Err-Bad.rule c.requires (rw c.in-Err-Bad.field-0-is at rw c.deref.ensures.value at c.in-Err-Bad.ensures.bad) _ c.in_ok-detail-in-Err-Bad.ensures is)
    c.syntax_lines.ensures
