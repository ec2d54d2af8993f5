use Rattle.std.proofs.Common.{◌≡◌, sym, subst, rules}
use Rattle.std.specs.Prelude.{IsTrue}
use Rattle.std.specs.List.{list_all}
use Rattle.tg_emit.specs.Conditions.{has_labels}
use Rattle.tg_emit.specs.mirror.Lines.{function_lines}
use Rattle.tg_stages.proofs.Labels.{function_labels}
use Rattle.tg_stages.proofs.functions.lines_of.Goals as goal

pub returns-clause-labels : goal.returns-clause-labels
returns-clause-labels c =
    let is : c.function.new.list.items ≡ function_lines c.args.long c.args.done.now = search rules in
    subst (λ ls. IsTrue (list_all has_labels ls)) (sym is)
    (function_labels c.args.long c.args.done.now c.requires c.in_ok-function.ensures.fits)
