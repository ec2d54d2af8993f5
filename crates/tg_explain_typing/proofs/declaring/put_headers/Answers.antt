use Rattle.std.proofs.Common.{List, sym, ap, ◌∙◌, arith}
use Rattle.std.specs.Prelude.{fold}
use Rattle.tg_syntax.specs.declared.trees.FunDec.{FunDec}
use Rattle.tg_syntax.specs.glue.Plain.{plain_functions}
use Rattle.tg_explain_typing.specs.declared.facts.Fact.{Fact}
use Rattle.tg_explain_typing.specs.Facts.{between, headers_facts}
use Rattle.tg_explain_typing.specs.glue.Bodies.{header_of}
use Rattle.tg_explain_typing.proofs.Lists.{headers_fold, fold_end}
use Rattle.tg_explain_typing.proofs.declaring.put_headers.Goals as goal

pub returns : goal.returns
returns c =
    let before = c.args.all.now.items in
    let seen = between c.functions_start-from.result c.args.end in
    let step = λ (w : List Fact) (f : FunDec). header_of c.args.text.now f seen w in
    fold_end step c.deref-function-items.result.now c.loop-function.function-index before c.loop-function.all.items c.loop-function.invariant
    (omega (arith, c.loop-function.auto.function-index-end, c.loop-function-test.false))
    ∙ ap (fold step before) c.deref-function-items.ensures.value ∙ sym (headers_fold c.args.text.now c.args.group.now seen before)
    ∙ ap (λ n. headers_facts c.args.text.now (plain_functions c.args.group.now) (between n c.args.end) before) c.functions_start-from.ensures
