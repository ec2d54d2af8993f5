use Rattle.std.proofs.Common.{◌≡◌, List, ℕ, OnOk, subst}
use Rattle.tg_explain_types.proofs.TextsTold.{outer_loop}
use Rattle.tg_explain_types.proofs.type_texts.put_outer_loop.Goals as goal

pub returns : goal.returns
returns c =
    let Q : List ℕ → Type 0 = λ w. OnOk c.put-2.result (c.put-2.new.out.items ≡ w) in
    subst Q
    (outer_loop c.args.text.now c.args.at c.args.line.now.items c.put.new.out.items c.put_place.new.out.items c.place_in.result c.in_ok-put.ensures c.place_in.ensures
    c.in_ok-put_place.ensures) c.put-2.ensures
