use Rattle.std.proofs.Common.{◌≡◌, ◌==◌, List, [], ◌∷◌, length, true, false, refl, sym, ap, ◌∙◌, arith}
use Rattle.std.proofs.lemmas.Bool.{eqb-true}
use Rattle.tg_tree.specs.declared.trees.Ts.{Ts}
use Rattle.tg_tree.specs.Tree.{no_stms}
use Rattle.tg_tree.specs.glue.Lists.{stms_of}
use Rattle.tg_trace_schedule.specs.Block.{BlockEnd}
use Rattle.tg_trace_schedule.specs.glue.Plains.{plain_end}
use Rattle.tg_trace_schedule.specs.mirror.Laying.{fails_at_once}
use Rattle.tg_trace_schedule.proofs.orders.only_fails.Goals as goal

-- with no statements a block fails at once where its end does, and with some never
at_none : (list : List Ts) (e : BlockEnd) → (length list == 0) ≡ true → fails_at_once no_stms e ≡ fails_at_once (stms_of list) e
at_none [] e h = refl
at_none (s ∷ ss) e h = let z = eqb-true (length (s ∷ ss)) 0 h in absurd (omega (arith, z))

at_some : (list : List Ts) (e : BlockEnd) → (length list == 0) ≡ false → false ≡ fails_at_once (stms_of list) e
at_some [] e h = cc
at_some (s ∷ ss) e h = refl

pub returns-then-is_empty : goal.returns-then-is_empty
returns-then-is_empty c =
    let items = c.args.block.now.body.items in
    c.is_fault.ensures
    ∙ at_none items.items (plain_end c.args.block.now.end) (sym (ap (λ n. n == 0) items.ok.0) ∙ (sym c.is_empty.ensures ∙ c.if-is_empty.true))

pub returns-else-is_empty : goal.returns-else-is_empty
returns-else-is_empty c =
    let items = c.args.block.now.body.items in
    at_some items.items (plain_end c.args.block.now.end) (sym (ap (λ n. n == 0) items.ok.0) ∙ (sym c.is_empty.ensures ∙ c.if-is_empty.false))
