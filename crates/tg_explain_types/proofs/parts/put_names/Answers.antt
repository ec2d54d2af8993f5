use Rattle.std.proofs.Common.{sym, ap, ◌∙◌, arith}
use Rattle.std.specs.Prelude.{fold}
use Rattle.tg_syntax.specs.glue.Plain.{plain_functions}
use Rattle.tg_explain_types.specs.Parts.{between, named_parts}
use Rattle.tg_explain_types.proofs.Lists.{with_name, names_fold, fold_end}
use Rattle.tg_explain_types.proofs.parts.put_names.Goals as goal

pub returns : goal.returns
returns c =
    let before = c.args.all.now.items in
    let seen = between c.functions_start-from.result c.args.end in
    fold_end (with_name seen) c.deref-function-items.result.now c.loop-function.function-index before c.loop-function.all.items c.loop-function.invariant
    (omega (arith, c.loop-function.auto.function-index-end, c.loop-function-test.false))
    ∙ ap (fold (with_name seen) before) c.deref-function-items.ensures.value ∙ sym (names_fold c.args.group.now seen before)
    ∙ ap (λ n. named_parts (plain_functions c.args.group.now) (between n c.args.end) before) c.functions_start-from.ensures
