use Rattle.std.proofs.Common.{rules}
use Rattle.std.proofs.lemmas.Result.{IfOk-weaker}
use Rattle.tg_syntax.specs.LexicalFaults.{HasLexicalFault}
use Rattle.tg_explain_source.specs.Explained.{lexical}
use Rattle.tg_explain_source.proofs.explaining.explain_source.Goals as goal

pub returns-in-Err-Bad : goal.returns-in-Err-Bad
returns-in-Err-Bad c =
    let fault : HasLexicalFault c.args.text.now c.in-Err-Bad.rule c.in-Err-Bad.at = search rules in
    IfOk-weaker c.explain_bytes.result _ _ (λ lines is. lexical fault is) c.explain_bytes.ensures
