use Rattle.std.proofs.Common.{◌≡◌, ◌++◌, List, length, map, take, subst, ap, arith}
use Rattle.tg_syntax.specs.declared.trees.TypeDec.{TypeDec}
use Rattle.tg_explain_types.proofs.Lists.{types_end, type_part}
use Rattle.tg_explain_types.specs.Parts.{between}
use Rattle.tg_explain_types.proofs.parts.put_types.Goals as goal

pub returns : goal.returns
returns c =
    let before = c.args.all.now.items in
    let from = c.types_start-from.result in
    let P : List TypeDec → Type 0 =
    λ w. c.loop-dec.all.items ≡ before ++ map (type_part (between from c.args.end)) (take c.loop-dec.dec-index w) in
    types_end c.args.types.now c.loop-dec.dec-index from c.args.end before c.loop-dec.all.items
    (subst P c.as_slice-dec-items.ensures c.loop-dec.invariant)
    (omega (arith, ap length c.as_slice-dec-items.ensures, c.loop-dec.auto.dec-index-end, c.loop-dec-test.false)) c.types_start-from.ensures
