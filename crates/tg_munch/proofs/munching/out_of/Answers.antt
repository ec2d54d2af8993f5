use Rattle.std.proofs.Common.{◌≡◌, ◌-◌, length, ap, sym, ◌∙◌, subst}
use Rattle.std.specs.Prelude.{IfOk}
use Rattle.tg_tree.specs.glue.Plain.{plain_tx}
use Rattle.tg_tree.proofs.ListLaws.{plain_tx-Call}
use Rattle.tg_munch.specs.mirror.Bodies.{out_of}
use Rattle.tg_munch.proofs.Walking.{count_of}
use Rattle.tg_munch.proofs.munching.out_of.Goals as goal

pub returns-in-Call : goal.returns-in-Call
returns-in-Call c =
    let e : out_of (plain_tx c.args.x.now) ≡ length c.in-Call.items.items.items - 4 =
    ap (λ y. out_of (plain_tx y)) c.in-Call.is ∙ (ap out_of (plain_tx-Call c.in-Call.field-0 c.in-Call.items)
    ∙ ap (λ n. n - 4) (count_of c.in-Call.items.items.items)) in
    subst (λ m. IfOk c.past_fourth.result (λ n. n ≡ m)) (sym e) (rw c.deref.ensures.value at c.past_fourth.ensures)
