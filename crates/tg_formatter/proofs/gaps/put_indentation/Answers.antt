use Rattle.std.proofs.Common.{◌++◌, [], ◌∷◌, sym, ap, ◌∙◌, append_assoc}
use Rattle.tg_formatter.specs.Canonical.{indentation}
use Rattle.tg_formatter.proofs.Steps.{one_deeper}
use Rattle.tg_formatter.proofs.gaps.put_indentation.Goals as goal

pub loop-preserved : goal.loop-preserved
loop-preserved c =
    c.in_ok-extend_from_slice.ensures.items ∙ (ap (λ l. l ++ 32 ∷ 32 ∷ []) c.loop.invariant
    ∙ (append_assoc c.args.text.now.items (indentation c.loop.counter) (32 ∷ 32 ∷ [])
    ∙ ap (λ l. c.args.text.now.items ++ l) (sym (one_deeper c.loop.counter))))
