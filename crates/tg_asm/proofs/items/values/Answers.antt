use Rattle.std.proofs.Common.{◌<◌, ◌∙◌, length, map, ap, arith}
use Rattle.tg_asm_text.specs.Items as items
use Rattle.tg_asm.specs.glue.Cuts.{operand_of}
use Rattle.tg_asm.specs.glue.Means.{all_values, bytes_of, datum_stored}
use Rattle.tg_asm.proofs.DataLoops.{values_made}
use Rattle.tg_asm.proofs.items.values.Goals as goal

pub returns : goal.returns
returns c =
    let some : 0 < length c.args.operands.items = grind arith in
    values_made c.args.keyword (bytes_of c.args.align) c.args.operands.items some
    (c.if-not-are_values.ensures ∙ ap (λ o. all_values c.args.keyword (map operand_of o)) c.deref.ensures.value)
    (c.if-not-data_fit.ensures ∙ ap (λ o. items.data_fit c.args.keyword (map (datum_stored c.args.keyword) (map operand_of o))) c.deref-2.ensures.value)
